pub mod Begun
pub mod Place
pub mod Methods
