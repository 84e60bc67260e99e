pub mod Table
pub mod Ranges
pub mod Row
pub mod Going
