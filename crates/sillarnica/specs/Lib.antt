-- A reader must believe Told (what each answer says), Parts (what that of a call on a part of an object says) and Held
-- (whether a handle holds a class); inner is what a pointer owns.
pub mod Told
pub mod Parts
pub mod Held
pub mod inner
