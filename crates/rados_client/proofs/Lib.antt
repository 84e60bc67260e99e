pub mod Asking
pub mod Calling
pub mod Crosses
pub mod MethodRuns
