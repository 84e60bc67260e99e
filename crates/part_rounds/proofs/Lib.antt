mod Counting
mod Strings
mod NameKinds
mod Along
mod Rounds
mod OfBytes
