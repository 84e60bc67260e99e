-- A reader must believe Escaped.
pub mod Escaped
