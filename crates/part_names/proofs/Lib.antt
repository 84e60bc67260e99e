mod Orders
mod Bounds
mod Searches
mod Keeping
mod Agreeing
pub mod Knowing
mod Nexts
