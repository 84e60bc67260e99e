-- A reader must believe Flat, the flat form. Reading says how it is read from left to right, Part
-- which names an object has.
pub mod Part
pub mod Flat
pub mod Reading
