-- What a call makes of the bytes that are known.
use Rattle.std.specs.Prelude.{◌≡◌, ℕ, ◌+◌, ◌-◌, ◌%◌, ◌<◌, ◌≤◌, max, ◌==◌, if◌then◌else◌}
use Rattle.std.specs.Prelude.{List, Option, Some, None, length, slice_index}
use Rattle.part_data.specs.declared.block.TheConstants.{BLOCK_SIZE}
use Rattle.part_data.specs.Known.{KnownData, known, block_of, blocks_of}

-- a known byte becomes v; an unknown one stays unknown
abbrev pub made : ℕ → Option ℕ → Option ℕ
made v None = None
made v (Some _) = Some v

-- the same is known as before
abbrev pub IsSame : (ℕ → Option ℕ) → (ℕ → Option ℕ) → Type 0
IsSame old new = (p : ℕ) → new p ≡ old p

-- the size and what is known are as before
pub record IsUnchanged (old new : KnownData) : Type 0 where
  pub size : new.size ≡ old.size
  pub known : IsSame (known old) (known new)

-- of an object of that size nothing is known but that past its last block there is nothing
pub record IsUnread (known : ℕ → Option ℕ) (size : ℕ) : Type 0 where
  pub within : (p : ℕ) → block_of p < blocks_of size → known p ≡ None
  pub past : (p : ℕ) → blocks_of size ≤ block_of p → known p ≡ Some 0

-- the bytes of a block were learned: zeros follow those of the last block
pub record IsLearned (old new : ℕ → Option ℕ) (block : ℕ) (bytes : List ℕ) : Type 0 where
  pub here : (p : ℕ) → block_of p ≡ block → new p ≡ Some (slice_index bytes (p % BLOCK_SIZE))
  pub others : (p : ℕ) → (block_of p ≡ block → ⊥) → new p ≡ old p

-- the size after a write of n bytes at a place
abbrev pub written_size : ℕ → ℕ → ℕ → ℕ
written_size size at n = if n == 0 then size else max size (at + n)

-- text was written at a place: known bytes that it meets are the text's, unknown ones stay so
pub record IsWritten (old new : ℕ → Option ℕ) (at : ℕ) (text : List ℕ) : Type 0 where
  pub met : (p : ℕ) → at ≤ p → p < at + length text → new p ≡ made (slice_index text (p - at)) (old p)
  pub before : (p : ℕ) → p < at → new p ≡ old p
  pub after : (p : ℕ) → at + length text ≤ p → new p ≡ old p

-- data was cut to a length: its last block has zeros from there on, if it is known, and the blocks past it are known
pub record IsCut (old new : ℕ → Option ℕ) (len : ℕ) : Type 0 where
  pub before : (p : ℕ) → p < len → new p ≡ old p
  pub last : (p : ℕ) → len ≤ p → block_of p < blocks_of len → new p ≡ made 0 (old p)
  pub past : (p : ℕ) → blocks_of len ≤ block_of p → new p ≡ Some 0
