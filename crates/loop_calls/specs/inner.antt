-- What the code keeps, in private contracts.
pub mod LoopRun
