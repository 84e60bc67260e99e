-- A reader must believe Entries, a map by keys of bytes and its lookups. Tree and Shape say what
-- the code keeps; proved has a proof.
pub mod Entries
pub mod Shape
pub mod Tree
pub mod proved
