pub mod Least
pub mod Growing
pub mod More
pub mod PartTurning
pub mod PartHelped
pub mod PartEffects
pub mod PartRuns
pub mod PartAnswered
