-- A reader must believe Rules, Table (the frames of a method with heads) and Verdict (which of its slots is
-- refused, and by which rule). Safety says what is proved of an accepted one.
pub mod Rules
pub mod Table
pub mod Verdict
pub mod Safety
