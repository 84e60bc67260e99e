-- A reader must believe Parts (what a call on a part of an object answers), Needed (what it needs), Learned (what is
-- known after a helper, and where it needs nothing) and More (that more is enough). inner is the code's own.
pub mod Needed
pub mod Learned
pub mod Parts
pub mod More
pub mod inner
