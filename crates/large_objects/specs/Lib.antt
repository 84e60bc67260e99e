-- A reader must believe Large (an OSD's limits, and what edits make of an object within them) and Calls (what calls on
-- such an object answer). inner is the code's own.
pub mod Large
pub mod Calls
pub mod inner
