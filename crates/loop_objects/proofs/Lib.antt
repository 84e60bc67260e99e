pub mod Spelled
pub mod Entire
pub mod Leads
pub mod Needless
pub mod Outcomes
pub mod Methods
