-- A reader must believe Loops: what may be declared of a method's loops.
pub mod Loops
