-- A reader must believe Verified: what callers are told of a method that was accepted. The steps of the code, in
-- private contracts alone: inner.
pub mod Verified
pub mod inner
