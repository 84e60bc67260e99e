mod Called
mod Notes
mod Packed
mod Reported
