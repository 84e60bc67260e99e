-- A reader must believe Tests (which line ends a file of tests) and what it cites: Calls (what a call comes to), Cases
-- (what lines set up and say), Spelled (what words spell); and Text (what is printed of an end). inner is the code's
-- own.
pub mod Calls
pub mod Cases
pub mod Spelled
pub mod Tests
pub mod Text
pub mod inner
