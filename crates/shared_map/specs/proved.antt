-- Proofs that the tree's size cites.
pub mod TreeFalls
