-- What is known of the data of an object of which only some blocks are known.
use Rattle.std.specs.Prelude.{◌≡◌, ℕ, ◌+◌, ◌-◌, ◌*◌, ◌/◌, ◌%◌, ◌<◌, ◌≤◌, nat_le, Bool, if◌then◌else◌}
use Rattle.std.specs.Prelude.{List, Option, Some, None, IsSome, length, min, slice_index}
use Rattle.std.specs.Int.{div_ceil}
use Rattle.std.specs.BTreeMap.{is_at}
use Rattle.std.specs.Map.{lookup}
use Rattle.std.specs.Ordering.{nat_cmp}
use Rattle.part_data.specs.declared.block.TheConstants.{BLOCK_SIZE}

-- blocks that are kept, by number
abbrev pub KeptBlocks : Type 0
KeptBlocks = List (ℕ × List ℕ)

-- a size, the first of the blocks that hold no byte of the object before, and the blocks that are kept
pub record KnownData : Type 0 where
  pub size : ℕ
  pub low : ℕ
  pub blocks : KeptBlocks

-- ---- blocks
-- the block of a position
abbrev pub block_of : ℕ → ℕ
block_of p = p / BLOCK_SIZE

-- the number of blocks of data of a length: the length over that of a block, rounded up
abbrev pub blocks_of : ℕ → ℕ
blocks_of len = div_ceil len BLOCK_SIZE

-- the bytes of the block of a number
abbrev pub block_at : KeptBlocks → ℕ → Option (List ℕ)
block_at blocks n = lookup (is_at (nat_cmp n)) blocks

-- ---- what is known
-- a byte of a block, if that is kept
abbrev pub byte_in : Option (List ℕ) → ℕ → Option ℕ
byte_in None k = None
byte_in (Some block) k = Some (slice_index block k)

-- the byte at a position, if its block is kept
abbrev pub kept : KeptBlocks → ℕ → Option ℕ
kept blocks p = byte_in (block_at blocks (block_of p)) (p % BLOCK_SIZE)

-- a kept byte; where none is, a zero or nothing
abbrev pub or_zero : Option ℕ → Bool → Option ℕ
or_zero (Some v) is_zero = Some v
or_zero None is_zero = if is_zero then Some 0 else None

-- the byte at a position, if it is known: it is kept, or a zero past the blocks of the object before
abbrev pub known_by : ℕ → KeptBlocks → ℕ → Option ℕ
known_by low blocks p = or_zero (kept blocks p) (nat_le low (block_of p))

-- the same of known data
abbrev pub known : KnownData → ℕ → Option ℕ
known d p = known_by d.low d.blocks p

-- data agrees: it has the size, and each byte that is known
pub record Agrees (d : KnownData) (bytes : List ℕ) : Type 0 where
  pub length : length bytes ≡ d.size
  pub each : (p v : ℕ) → p < d.size → known d p ≡ Some v → slice_index bytes p ≡ v

-- every position of the block is known
abbrev pub IsBlockKnown : KnownData → ℕ → Type 0
IsBlockKnown d b = (p : ℕ) → block_of p ≡ b → IsSome (known d p)

-- no position of the block is known
abbrev pub IsBlockUnknown : KnownData → ℕ → Type 0
IsBlockUnknown d b = (p : ℕ) → block_of p ≡ b → known d p ≡ None

-- ---- ranges
-- where the range of n positions from a place on ends: at the size, if it would pass it
abbrev pub stop : KnownData → ℕ → ℕ → ℕ
stop d at n = min (at + n) d.size

-- every position of the range is known
abbrev pub AreKnown : KnownData → ℕ → ℕ → Type 0
AreKnown d at n = (p : ℕ) → at ≤ p → p < stop d at n → IsSome (known d p)

-- a block has a position of the range from a place to an end
pub record IsMet (at to b : ℕ) : Type 0 where
  pub some : at < to
  pub from : block_of at ≤ b
  pub below : b * BLOCK_SIZE < to

-- a block is the first of those that the range meets and of which nothing is known, and `count` blocks from it on
-- end with the last of them
pub record AreUnknown (d : KnownData) (at n block count : ℕ) : Type 0 where
  pub some : 1 ≤ count
  pub first_met : IsMet at (stop d at n) block
  pub first : IsBlockUnknown d block
  pub before : (b : ℕ) → IsMet at (stop d at n) b → b < block → IsBlockKnown d b
  pub last_met : IsMet at (stop d at n) (block + count - 1)
  pub last : IsBlockUnknown d (block + count - 1)
  pub after : (b : ℕ) → IsMet at (stop d at n) b → block + count ≤ b → IsBlockKnown d b
