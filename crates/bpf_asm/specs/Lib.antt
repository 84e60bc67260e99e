-- A reader must believe Syntax, Shapes, Lines, Grammar and Faults (with `asm_lines`' words, texts
-- and headers, and of Bodies where a label stands): the grammar, and why a text is refused. Laws
-- are proved of these. Bodies and Classes are the reader as a function, which is proved to be what
-- the relations say; Places is a step of the code, in private contracts.
pub use Rattle.asm_lines.specs.Fault
pub use Rattle.asm_lines.specs.Canonical
pub mod Bodies
pub mod Places
pub mod Classes
pub mod Laws
pub mod Syntax
pub mod Shapes
pub mod Lines
pub mod Grammar
pub mod Faults
