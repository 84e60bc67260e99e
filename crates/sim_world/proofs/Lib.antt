mod Bucketing
pub mod Equal
pub mod Going
pub mod Grown
pub mod Listed
pub mod Messages
pub mod Reaching
pub mod Standing
pub mod Stepping
