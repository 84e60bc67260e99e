-- A value for one of the measured calls that aren't methods; no promise rests on it.
pub mod Subject
