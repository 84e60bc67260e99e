-- A reader must believe Carried.
pub mod Carried
