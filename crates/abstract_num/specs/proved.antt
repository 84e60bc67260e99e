-- Proofs that the contracts of generic code cite.
pub mod Cases
pub mod Shifts
pub mod Scaled
pub mod PartsFit
pub mod RowsFit
pub mod Ranges
pub mod KnownBits
pub mod UnsignedRows
pub mod SignedRows
pub mod BitsRows
pub mod HalfRows
pub mod UnsignedFacts
pub mod SignedFacts
pub mod BitsFacts
pub mod HalfFacts
pub mod BothKept
