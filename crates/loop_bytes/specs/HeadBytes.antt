-- Loops as bytes, which stand after a method's code in an image: the one spelling. All numbers are
-- little-endian.
use Rattle.std.specs.Prelude.{◌≡◌, ◌<◌, ◌^◌, ℕ, List, [], ◌++◌, Option, Some, None, Bool, true, false}
use Rattle.std.specs.Prelude.{length, drop, get_or, FitsSigned}
use Rattle.std.specs.Int.{w64, cast_unsigned}
use Rattle.std.specs.List.{flat_map, AllByRecursion}
use Rattle.byteorder.specs.Endian.{little_bytes}
use Rattle.loop_heads.specs.declared.place.PlaceKind.{PlaceKind}
use Rattle.loop_heads.specs.declared.place.PlaceKind.TheVariants.{Unset, Any, Unsigned, Signed, Input, Output, Stack}
use Rattle.loop_heads.specs.declared.place.HeadPlace.{HeadPlace}
use Rattle.loop_heads.specs.Loops.{PlainHead, PlainLoops, IsLoops}

-- a kind's number
abbrev pub kind_number : PlaceKind → ℕ
kind_number Unset = 0
kind_number Any = 1
kind_number (Unsigned a b) = 2
kind_number (Signed a b) = 3
kind_number (Input a b) = 4
kind_number (Output a b) = 5
kind_number (Stack a b) = 6

-- a kind's bounds, if it has some, in eight bytes each; those of signed numbers in two's complement
abbrev pub pair_bytes : ℕ → ℕ → List ℕ
pair_bytes a b = little_bytes 8 a ++ little_bytes 8 b

abbrev pub bounds_bytes : PlaceKind → List ℕ
bounds_bytes Unset = []
bounds_bytes Any = []
bounds_bytes (Unsigned a b) = pair_bytes a b
bounds_bytes (Signed a b) = pair_bytes (cast_unsigned w64 a) (cast_unsigned w64 b)
bounds_bytes (Input a b) = pair_bytes a b
bounds_bytes (Output a b) = pair_bytes a b
bounds_bytes (Stack a b) = pair_bytes a b

-- a place: its number, its kind's number, and the bounds
abbrev pub place_bytes : HeadPlace → List ℕ
place_bytes p = little_bytes 1 p.number ++ little_bytes 1 (kind_number p.kind) ++ bounds_bytes p.kind

-- a head: its slot, the number of its places, and the places
abbrev pub head_bytes : PlainHead → List ℕ
head_bytes h = little_bytes 2 h.slot ++ little_bytes 1 (length h.places) ++ flat_map place_bytes h.places

-- the number of heads, which is 0 without loops; then the budget, and the heads
abbrev pub loops_bytes : Option PlainLoops → List ℕ
loops_bytes None = little_bytes 2 0
loops_bytes (Some l) = little_bytes 2 (length l.heads) ++ little_bytes 4 l.budget ++ flat_map head_bytes l.heads

-- ---- what has a spelling

-- bounds that eight bytes hold
abbrev pub KindFits : PlaceKind → Type 0
KindFits Unset = Unit {0}
KindFits Any = Unit {0}
KindFits (Unsigned a b) = (a < 2 ^ 64) × (b < 2 ^ 64)
KindFits (Signed a b) = FitsSigned w64 a × FitsSigned w64 b
KindFits (Input a b) = (a < 2 ^ 64) × (b < 2 ^ 64)
KindFits (Output a b) = (a < 2 ^ 64) × (b < 2 ^ 64)
KindFits (Stack a b) = (a < 2 ^ 64) × (b < 2 ^ 64)

-- numbers that a head's bytes hold
pub record HeadFits (h : PlainHead) : Type 0 where
  pub slot : h.slot < 2 ^ 16
  pub bounds : AllByRecursion (λ p. KindFits p.kind) h.places

-- numbers that the bytes of loops hold
abbrev pub LoopsFit : Option PlainLoops → Type 0
LoopsFit None = Unit {0}
LoopsFit (Some l) = AllByRecursion HeadFits l.heads

-- an instruction begins at the slot p
abbrev pub StartAt : List Bool → ℕ → Type 0
StartAt starts p = get_or starts p false ≡ true

-- no loops, or loops of a method whose instructions begin at these slots
abbrev pub AreLoopsOf : List Bool → Option PlainLoops → Type 0
AreLoopsOf starts None = Unit {0}
AreLoopsOf starts (Some l) =
    IsLoops l × AllByRecursion (λ h. StartAt starts h.slot) l.heads × AllByRecursion HeadFits l.heads

-- The bytes begin with the spelling of these loops, which has that length.
pub record BeginsWith (starts : List Bool) (bytes : List ℕ) (loops : Option PlainLoops) (size : ℕ) : Type 0 where
  pub spelled : bytes ≡ loops_bytes loops ++ drop size bytes
  pub long : size ≡ length (loops_bytes loops)
  pub may : AreLoopsOf starts loops
