mod Registers
mod Order
mod Ranges
mod Heads
mod Pairs
