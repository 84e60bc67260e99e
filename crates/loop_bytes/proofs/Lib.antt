pub mod Exact
pub mod ExactFields
pub mod ExactLoops
pub mod Turns
pub mod Written
pub mod Beginning
