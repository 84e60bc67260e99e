-- What a frame says of the stack's bytes.
pub mod FlatSlots
