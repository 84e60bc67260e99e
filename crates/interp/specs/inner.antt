-- What the code keeps, in private contracts.
pub mod Run
pub mod Asked
