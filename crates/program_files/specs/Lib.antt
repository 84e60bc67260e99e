-- A reader must believe Files (what files hold, and what a write changes), Image and Assembly (the
-- class of a file, its image and its text, and why there is none), Failure (its text), and Output
-- (the text that a failed print left). System names a field for contracts; Window says what a window
-- on a text shows, which no command cites.
pub mod Assembly
pub mod Failure
pub mod Files
pub mod Image
pub mod Output
pub mod System
pub mod Window
