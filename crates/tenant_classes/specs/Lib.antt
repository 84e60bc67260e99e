-- A reader must believe Classes.
pub mod Classes
