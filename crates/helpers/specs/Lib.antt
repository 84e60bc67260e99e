-- A reader must believe Effect, what a helper is given and what it does, Table, all helpers by id,
-- and Edits, what each leaves in the list of a run, with two laws. Laws is proved of these, and so is
-- Ranges, which the verdict goes by. View says what the code's signatures and memory are to them;
-- Refusals is the code's own.
pub mod Effect
pub mod Table
pub mod Edits
pub mod Ranges
pub mod Laws
pub mod View
pub mod Refusals
