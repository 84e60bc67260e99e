-- A reader must believe Runs: what a run by a budget is, and what safe means then. Typed is the machine on
-- decoded instructions that also compares places of one region, on which the crates above build.
pub mod Runs
pub mod Typed
