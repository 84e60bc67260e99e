-- A reader must believe Planned and Plan (what a cluster file says), Reading (the result of reading
-- it) and Text (what is printed of its calls).
pub mod Plan
pub mod Planned
pub mod Reading
pub mod Text
