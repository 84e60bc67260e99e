-- Definitions that only the code's own private contracts name.
pub mod Buckets
pub mod Parts
