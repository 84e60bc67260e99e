pub mod Lines
pub mod Entries
pub mod Maps
pub mod Fields
pub mod Turns
pub mod Again
pub mod Exact
