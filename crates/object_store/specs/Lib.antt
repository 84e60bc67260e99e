-- A reader must believe Object (what an object holds, and its limits), Limits (those that a
-- host gives), Edits, Calls, Names, Refusal
-- and Returned. Laws is proved of Calls. Extents and Shared say what the code keeps.
pub mod Object
pub mod Limits
pub mod Edits
pub mod Calls
pub mod Names
pub mod Refusal
pub mod Returned
pub mod Extents
pub mod Laws
pub mod Shared
