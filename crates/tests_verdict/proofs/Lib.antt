-- Lemmas.
mod FlatSlots
