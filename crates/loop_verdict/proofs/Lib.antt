pub mod Lookups
pub mod Sends
pub mod Visits
