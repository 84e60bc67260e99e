-- Only private contracts name these steps of the code: nothing here need be believed.
pub mod Arriving
