-- A reader must believe Reading: which edit bytes begin with.
pub mod Reading
