pub mod Operations
pub mod Keeps
pub mod EndSteps
pub mod NewEnds
pub mod Gathered
pub mod Sent
