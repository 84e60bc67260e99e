-- A reader must believe Rows (the rule of the board) over Lists, and Tokens (a board's tokens as
-- contracts see them).
pub mod Lists
pub mod Rows
pub mod Tokens
