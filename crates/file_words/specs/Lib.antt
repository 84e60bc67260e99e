-- A reader must believe Words.
pub mod Words
