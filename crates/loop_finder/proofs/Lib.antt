-- Lemmas.
mod Jumps
