pub mod Formed
pub mod Splice
pub mod Allowed
pub mod Spelled
pub mod Walked
pub mod Answered
