-- A reader must believe Placement. Laws has what is proved about Placement.
pub mod Placement
pub mod Laws
