-- A reader must believe Session, Promise, Refusals, Into and ObjectCalls (the answers of calls),
-- and Loading (the classes of a cluster). Found and Stages belong to the code.
pub mod Refusals
pub mod Session
pub mod Promise
pub mod Found
pub mod Into
pub mod ObjectCalls
pub mod Loading
pub mod Stages
