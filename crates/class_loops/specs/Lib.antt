-- A reader must believe Opened (which images are opened), Answers (what calls answer), Parts (what calls on a part
-- of an object answer) and Held (both kinds of handles).
pub mod Opened
pub mod Answers
pub mod Parts
pub mod Held
