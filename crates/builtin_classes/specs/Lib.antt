-- What a built-in class is to its text, and why one can't be had.
pub mod BuiltIn
