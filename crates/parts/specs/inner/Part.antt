-- The code's own: what is made of a part's blocks, intervals and entries.
use Rattle.std.specs.Prelude.{◌≡◌, ℕ, ◌%◌, ◌==◌, cond, nat_le, Bool, false, Option, Some, None, slice_index}
use Rattle.std.specs.Prelude.{List, [], ◌∷◌, map}
use Rattle.std.specs.Ordering.{nat_cmp, eq_by_cmp}
use Rattle.std.specs.Cmp.Lexicographic.{slice_cmp}
use Rattle.std.specs.FinMap as fin
use Rattle.part_bytes.specs.Part.{Block, Entry, Names}
use Rattle.part_bytes.specs.Part as part
use Rattle.part_data.specs.declared.block.TheConstants.{BLOCK_SIZE}
use Rattle.part_data.specs.Known.{KnownData, block_of, blocks_of, known, or_zero}
use Rattle.part_names.specs.Order.{Interval}
use Rattle.part_names.specs.Known.{PlainNames, Agrees}

-- the first of two that there is
abbrev pub first_of : {X : Type 0} → Option X → Option X → Option X
first_of (Some x) other = Some x
first_of None other = other

-- the byte at a position, if the block has it
abbrev pub byte_at : Block → ℕ → Option ℕ
byte_at b p = cond (block_of p == b.0) (Some (slice_index b.1 (p % BLOCK_SIZE))) None

-- the same, if one of the blocks has it
abbrev pub byte_of : List Block → ℕ → Option ℕ
byte_of [] p = None
byte_of (b ∷ bs) p = first_of (byte_of bs p) (byte_at b p)

-- the known byte at a position, if blocks of data of that size are known
abbrev pub known_of : ℕ → List Block → ℕ → Option ℕ
known_of size blocks p = or_zero (byte_of blocks p) (nat_le (blocks_of size) (block_of p))

-- data of which blocks are known
pub record IsDataOf (len : ℕ) (blocks : List Block) (d : KnownData) : Type 0 where
  pub size : d.size ≡ len
  pub each : (p : ℕ) → known d p ≡ known_of len blocks p

-- an interval's end: an empty one is that of all strings
abbrev pub end_of : List ℕ → Option (List ℕ)
end_of [] = None
end_of (x ∷ xs) = Some (x ∷ xs)

-- an interval of a part
abbrev pub interval_of : part.Interval → Interval
interval_of i = record { lo = i.0; hi = end_of i.1 }

-- the value of a name, if an entry has it
abbrev pub value_at : Entry → List ℕ → Option (List ℕ)
value_at e name = cond (eq_by_cmp (slice_cmp nat_cmp) name e.0) (Some e.1) None

-- the same, if one of the entries has it
abbrev pub value_of : List Entry → List ℕ → Option (List ℕ)
value_of [] name = None
value_of (e ∷ es) name = first_of (value_of es name) (value_at e name)

-- only the entries differ, and they are these
pub record HasLearned (es : List Entry) (old new : PlainNames) : Type 0 where
  pub most : new.most ≡ old.most
  pub intervals : new.intervals ≡ old.intervals
  pub entries : (name : List ℕ) → fin.get new.entries name ≡ value_of es name

-- names of which intervals and entries are known
pub record IsNamesOf (limit : ℕ) (n : Names) (k : PlainNames) : Type 0 where
  pub most : k.most ≡ limit
  pub intervals : k.intervals ≡ map interval_of n.intervals
  pub entries : (name : List ℕ) → fin.get k.entries name ≡ value_of n.entries name

-- an object that isn't there has no data and no names
abbrev pub IsNothing : Bool → KnownData → PlainNames → PlainNames → Type 0
IsNothing there bytes xattrs keys =
    there ≡ false → (bytes.size ≡ 0) × Agrees xattrs fin.empty × Agrees keys fin.empty
