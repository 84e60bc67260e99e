-- A reader must believe Why.
pub mod Why
