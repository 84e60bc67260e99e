mod Positions
mod KeptBytes
mod Agreed
