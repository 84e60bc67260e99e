-- How bytes are read as a part, which the code's steps follow. No promise of the crate speaks of it.
pub mod Reading
