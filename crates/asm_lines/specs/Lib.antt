-- A reader must believe Words, Canonical, Headers and Fault, with Texts' blanks and label names and
-- Numbers' digits: words, the one text, a method's limits, what refusals print. Operands, Drafts
-- and Statements are a line's reader as a function, which `bpf_asm` proves to be what its grammar
-- says; Printing is a step of the code, in private contracts.
pub mod Words
pub mod Fault
pub mod Canonical
pub mod Numbers
pub mod Texts
pub mod Operands
pub mod Drafts
pub mod Statements
pub mod Printing
pub mod Headers
