-- A reader must believe Instruction and Class (the grammars), Arithmetic (what operations compute),
-- Limits and Refusal, Table, Reading and ImageReading for the order of refusals (what they read is
-- proved to be the grammars), and Fields and Opcodes for the machine, whose definition reads a slot
-- by them.
pub mod Instruction
pub mod Arithmetic
pub mod Jump
pub mod Values
pub mod Fields
pub mod Refusal
pub mod Opcodes
pub mod Table
pub mod Reading
pub mod Limits
pub mod Class
pub mod ImageReading
