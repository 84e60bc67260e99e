-- A reader must believe Heads (the frame at a head), Below (the order of frames, as a test) and Pairs (what an
-- instruction does with two pointers into one region). Seen is the view of the code's pairs; Laws says what is proved
-- of them.
pub mod Heads
pub mod Below
pub mod Pairs
pub mod Seen
pub mod Laws
