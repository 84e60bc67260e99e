-- A reader of the contracts must believe Requests, Log, Refusals, Entries, Adopting, Same, Laws,
-- Within and Runs. Places is the index that the code keeps.
pub mod Requests
pub mod Log
pub mod Refusals
pub mod Entries
pub mod Adopting
pub mod Same
pub mod Laws
pub mod Within
pub mod Runs
pub mod Places
