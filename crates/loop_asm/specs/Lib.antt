-- A reader must believe Reading: what the lines of a class's text say of loops, and which line is refused; Canonical,
-- the one text of a class; and Classes, which puts a class and its loops together. Starts, Answers and Printing are
-- steps of the code, in private contracts.
pub mod Reading
pub mod Canonical
pub mod Classes
pub mod Starts
pub mod Answers
pub mod Printing
