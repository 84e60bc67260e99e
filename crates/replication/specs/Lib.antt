-- A reader must believe both.
pub mod Places
pub mod Packed
