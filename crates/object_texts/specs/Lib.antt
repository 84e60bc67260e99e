-- A reader must believe Given and Saved (the object that words and a text spell), LargeGiven (the
-- same by an OSD's limits), and Shown (the text of an object).
pub mod Given
pub mod LargeGiven
pub mod Saved
pub mod Shown
