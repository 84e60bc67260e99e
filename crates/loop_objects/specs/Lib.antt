-- A reader must believe Calls: what a call answers. inner is the code's own.
pub mod Calls
pub mod inner
