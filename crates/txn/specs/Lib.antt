-- A reader must believe Versions, Edits and Made. Staging is what the code keeps.
pub mod Versions
pub mod Edits
pub mod Made
pub mod Staging
