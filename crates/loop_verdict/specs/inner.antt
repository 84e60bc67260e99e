-- Steps of the code, in private contracts alone: nothing here need be believed.
pub mod Heads
pub mod Pass
