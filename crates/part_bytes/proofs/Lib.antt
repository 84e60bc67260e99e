pub mod Loops
pub mod Walk
pub mod Exact
pub mod ExactFields
pub mod Held
pub mod Parts
pub mod Needs
