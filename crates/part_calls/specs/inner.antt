-- What the code keeps: in private contracts, and in those that serve a runner of another kind.
pub mod PartRun
