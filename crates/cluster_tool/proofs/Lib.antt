pub mod Calling
pub mod Configs
pub mod Ends
pub mod Lines
pub mod Mapping
pub mod Printed
