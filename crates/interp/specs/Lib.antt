-- A reader must believe Plain (what a call answers) and Refusal. inner is the code's own.
pub mod Plain
pub mod Refusal
pub mod inner
