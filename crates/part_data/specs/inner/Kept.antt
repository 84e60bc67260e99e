-- What the code's own steps do.
use Rattle.std.specs.Option.{unwrap_or}
use Rattle.std.specs.Prelude.{◌≡◌, ℕ, ◌+◌, ◌-◌, ◌<◌, ◌≤◌, Option, Some}
use Rattle.std.specs.Prelude.{List, ◌++◌, length, replicate, slice_index}
use Rattle.part_data.specs.declared.block.TheConstants.{BLOCK_SIZE}
use Rattle.part_data.specs.Known.{block_of}
use Rattle.part_data.specs.Changes.{made}

-- these bytes, and zeros after them, of a block
abbrev pub padded : List ℕ → List ℕ
padded bytes = bytes ++ replicate (BLOCK_SIZE - length bytes) 0

-- known bytes are bytes, and zeros from the size on
pub record AreSound (size : ℕ) (known : ℕ → Option ℕ) : Type 0 where
  pub bytes : (p v : ℕ) → known p ≡ Some v → v < 256
  pub zeros : (p v : ℕ) → size ≤ p → known p ≡ Some v → v ≡ 0

-- the block of a position, if it is kept, has zeros from that position on
pub record IsCleared (old new : ℕ → Option ℕ) (len : ℕ) : Type 0 where
  pub before : (p : ℕ) → p < len → new p ≡ old p
  pub tail : (p : ℕ) → len ≤ p → block_of p ≡ block_of len → new p ≡ made 0 (old p)
  pub after : (p : ℕ) → block_of len < block_of p → new p ≡ old p

-- these are the kept bytes from a place on, with zeros where none is kept
abbrev pub AreCopied : (ℕ → Option ℕ) → ℕ → List ℕ → Type 0
AreCopied old at out = (k : ℕ) → k < length out → slice_index out k ≡ unwrap_or (old (at + k)) 0
