-- A reader must believe Known (what is known, and which objects it may be), Agreed (which objects agree with a part),
-- Answers (what an answer is to each of these), Grows (what is known afterwards), Needs (what isn't known and has to
-- be) and Stops (why a call stops).
-- inner is the code's own.
pub mod Known
pub mod Agreed
pub mod Answers
pub mod Grows
pub mod Needs
pub mod Stops
pub mod inner
