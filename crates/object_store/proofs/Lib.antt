mod Bytes
mod Flats
mod Kept
mod Nothing
mod Packs
mod Same
mod Splice
mod Within
