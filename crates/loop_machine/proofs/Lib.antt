pub mod Pairs
pub mod Weights
pub mod Walks
pub mod Safe
pub mod One
