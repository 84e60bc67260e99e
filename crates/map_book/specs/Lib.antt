-- A reader of the contracts must believe Book and Refusal. Errors says how refusals of lower crates
-- are passed on.
pub mod Book
pub mod Errors
pub mod Refusal
