-- A reader must believe Counts (how many helpers a run calls, and how many names it removes), Rounds (calls on parts of
-- one object, each with what the one before needed) and ClassRounds (the same of parts that are bytes).
pub mod Counts
pub mod Rounds
pub mod ClassRounds
