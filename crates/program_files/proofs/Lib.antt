pub mod Longer
mod Printed
mod Refused
mod Windows
