-- The code's own: nothing here need be believed but what the model of `PartData` names.
pub mod Kept
