pub mod One
pub mod LeftOut
pub mod Place
pub mod Begun
pub mod Over
pub mod Counted
pub mod OnParts
pub mod Lacking
