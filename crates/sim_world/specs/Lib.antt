-- A reader must believe Lines (what a line says), Texts (what is printed), Step (what a line does in
-- the group's world, and its result), Same (which messages are equal) and Agreed (what holds of the
-- worlds that lines lead to). Kept says what the texts are of messages as they are carried, Holds
-- and Keeping how the program holds a played world; inner is the code's own.
pub mod Agreed
pub mod Holds
pub mod Keeping
pub mod Kept
pub mod Lines
pub mod Same
pub mod Step
pub mod Texts
pub mod inner
