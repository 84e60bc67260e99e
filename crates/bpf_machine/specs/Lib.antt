-- A reader must believe State, Helper, Jump, Flat and Safe: what a run is, and what safe means
-- (what operations compute stands in bpf_decode's Arithmetic, what helpers do in helpers' Table,
-- what an object is in object_store's Object). Lists says which
-- edits a run leaves. Address, Within and the laws of Safe and Lists are proved of these. Typed and Decoded are the
-- machine on decoded instructions, on which the crates above
-- build; what Slots says of Typed's stack is proved, and Blind's law of what steps don't look at.
pub mod State
pub mod Helper
pub use Rattle.bpf_decode.specs.Jump
pub mod Flat
pub mod Typed
pub mod Slots
pub mod Decoded
pub mod Safe
pub mod Lists
pub mod Address
pub mod Within
pub mod Blind
