-- A reader must believe Signed, Masks and Plain (what is known of a number, and which numbers that
-- holds), Tighten, Transfer and Edges (what operations and comparisons make of it), with the tables
-- UnsignedRows, SignedRows, BitsRows, HalfRows and their Facts. Keeping and Laws are proved of
-- them. Meaning, Parts, Both and Refined are what the code's parts say; proved has proofs.
pub mod Signed
pub mod Masks
pub mod Plain
pub mod Tighten
pub mod Transfer
pub mod Edges
pub mod UnsignedRows
pub mod SignedRows
pub mod BitsRows
pub mod HalfRows
pub mod UnsignedFacts
pub mod SignedFacts
pub mod BitsFacts
pub mod HalfFacts
pub mod Keeping
pub mod Laws
pub mod Meaning
pub mod Parts
pub mod Both
pub mod Refined
pub mod proved
