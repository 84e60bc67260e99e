-- A reader must believe Parts (an object without some of its parts), Needed (which parts code
-- needs) and Frame (the law). Laws of a run's list are Answers (what decides it) and Lengths (how
-- long it is), over Calls (what helpers are given).
pub mod Parts
pub mod Needed
pub mod Frame
pub mod Calls
pub mod Answers
pub mod Lengths
