pub mod Standing
pub mod Walk
pub mod Blocks
pub mod Intervals
pub mod Entries
pub mod Begun
pub mod Some
