-- A reader must believe Verdict, over the definitions of `verifier` and `loop_tables`.
pub mod Verdict
pub mod Runs
