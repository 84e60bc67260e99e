-- What the records of a run are, by the machine's definitions.
pub mod Trace
