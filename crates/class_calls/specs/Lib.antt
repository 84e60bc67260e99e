-- A reader must believe Answers (what calls answer), Needs (what may be left out of an object),
-- Handle (what a handle tells of its class), Over (what edits do to another object), Parts (what calls on a part of an
-- object answer) and OnParts (calls on several parts of one object).
pub mod Answers
pub mod Needs
pub mod Handle
pub mod Over
pub mod Parts
pub mod OnParts
