pub mod Ranks
pub mod ActingSets
