-- A reader must believe Digits.
pub mod Digits
