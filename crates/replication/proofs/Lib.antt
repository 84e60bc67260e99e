pub mod Unpacked
pub mod Least
