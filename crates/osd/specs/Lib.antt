-- A reader must believe Limits (which numbers a cluster may have), Places (which node and group
-- there is), Maps (which up nodes are refused, and which epoch follows), Logged (what is read of a
-- node's log) and Sent (what a sender's pass gains). Gates, Turned and Unnamed stand in private
-- contracts, or in those of a cluster that has no name yet: what a gate gets, what a worker's turn
-- sends, what new parts hold.
pub mod Gates
pub mod Limits
pub mod Logged
pub mod Maps
pub mod Places
pub mod Sent
pub mod Turned
pub mod Unnamed
