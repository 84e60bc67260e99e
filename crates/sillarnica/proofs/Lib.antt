pub mod Goes
pub mod Words
pub mod Found
pub mod FoundPart
