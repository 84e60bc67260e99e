-- A reader must believe all four: Cell (what is under a lock), Turns (what goes out by one
-- operation), Posts and Answering (what goes out to a client).
pub mod Cell
pub mod Posts
pub mod Answering
pub mod Turns
