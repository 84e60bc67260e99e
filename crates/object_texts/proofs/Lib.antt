mod Lines
mod Printable
