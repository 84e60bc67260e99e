-- The slots of the typed machine's stack: eight cells each, at the places that are multiples of 8.
-- What stands in them, and what accesses leave of it.
use Rattle.std.specs.Prelude.{◌≡◌, ℕ, zero, suc, ◌+◌, ◌*◌, ◌^◌, ◌<◌, ◌≤◌, List, [], ◌∷◌, Option, Some, None, take, drop}
use Rattle.std.specs.Prelude.{length, replicate, slice_get}
use Rattle.bpf_decode.specs.declared.value.Value.{Value}
use Rattle.bpf_decode.specs.declared.value.Value.TheVariants.{Num, Ptr}
use Rattle.bpf_decode.specs.declared.region.Region.{Region}
use Rattle.object_store.specs.Object.{AreBytes}
use Rattle.bpf_machine.specs.State.{le_value, le_bytes}
use Rattle.bpf_machine.specs.Typed.{Cell, Byte, PartOf, as_cells, parts_of, place_of, plain_bytes, number_or, over}

-- what the cells of a slot are: a number, or a place; neither, if a place was overwritten in
-- part
abbrev pub slot_of : List Cell → Option Value
slot_of cs = number_or (plain_bytes cs) (place_of cs)

-- what slot j is
abbrev pub slot_value : List Cell → ℕ → Option Value
slot_value cs j = slot_of (take 8 (drop (8 * j) cs))

-- of the first slots, that many
abbrev pub slot_values : ℕ → List Cell → List (Option Value)
slot_values zero cs = []
slot_values (suc n) cs = slot_of (take 8 cs) ∷ slot_values n (drop 8 cs)

-- numbers among the cells are bytes
abbrev pub AreCells : List Cell → Type 0
AreCells [] = Unit {0}
AreCells (Byte b ∷ cs) = (b < 256) × AreCells cs
AreCells (PartOf r at k ∷ cs) = AreCells cs

-- a stack of that many slots
pub record IsStack (count : ℕ) (cs : List Cell) : Type 0 where
  pub long : length cs ≡ 8 * count
  pub cells : AreCells cs

-- one of w cells from a place on is in slot j
pub record Touches (at w j : ℕ) : Type 0 where
  pub below : 8 * j < at + w
  pub above : at < 8 * j + 8

-- a slot that is a number, below 2 ^ 64
abbrev pub IsNumber : Option Value → Type 0
IsNumber None = ⊥
IsNumber (Some (Num n)) = n < 2 ^ 64
IsNumber (Some (Ptr r at)) = ⊥

-- The values by slot are those of the slots.
abbrev pub SlotsHaveValues : Type 0
SlotsHaveValues =
    (count : ℕ) (cs : List Cell) (j : ℕ) → j < count → slice_get (slot_values count cs) j ≡ Some (slot_value cs j)

-- As a method begins, each slot is the number 0.
abbrev pub SlotsBeginAtZero : Type 0
SlotsBeginAtZero = (count : ℕ) → IsStack count (as_cells (replicate (8 * count) 0)) ×
    (slot_values count (as_cells (replicate (8 * count) 0)) ≡ replicate count (Some (Num 0)))

-- cells that are bytes alone
pub record AreNumbers (cs : List Cell) (w : ℕ) : Type 0 where
  pub bytes : List ℕ
  pub are : plain_bytes cs ≡ Some bytes
  pub count : length bytes ≡ w
  pub small : AreBytes bytes

-- An access to slots that are numbers meets bytes alone.
abbrev pub NumbersAreRead : Type 0
NumbersAreRead =
    (count : ℕ) (cs : List Cell) → IsStack count cs → (at w : ℕ) → at + w ≤ 8 * count →
    ((j : ℕ) → j < count → Touches at w j → IsNumber (slot_value cs j)) →
    AreNumbers (take w (drop at cs)) w

-- what a write of w cells at a place leaves
pub record Leaves (count : ℕ) (cs : List Cell) (at w : ℕ) (ds : List Cell) : Type 0 where
  pub stack : IsStack count ds
  pub others : (j : ℕ) → j < count → (Touches at w j → ⊥) → slot_value ds j ≡ slot_value cs j

-- Bytes that are written over slots leave the other slots as they were, and every number a number;
-- over a slot they are its number.
pub record LeavesNumbers (count : ℕ) (cs : List Cell) (at : ℕ) (bytes : List ℕ) (ds : List Cell) : Type 0 where
  pub rest : Leaves count cs at (length bytes) ds
  pub numbers : (j : ℕ) → j < count → IsNumber (slot_value cs j) → IsNumber (slot_value ds j)
  pub whole : (j : ℕ) → at ≡ 8 * j → length bytes ≡ 8 → slot_value ds j ≡ Some (Num (le_value bytes))

-- That is so of each write of bytes within the stack.
abbrev pub BytesAreWritten : Type 0
BytesAreWritten =
    (count : ℕ) (cs : List Cell) → IsStack count cs → (at : ℕ) (bytes : List ℕ) → at + length bytes ≤ 8 * count →
    AreBytes bytes →
    LeavesNumbers count cs at bytes (over cs at (as_cells bytes))

-- A place that is written over a slot stands there, and the other slots are as they were.
pub record LeavesPlace (count : ℕ) (cs : List Cell) (j : ℕ) (v : Value) (ds : List Cell) : Type 0 where
  pub rest : Leaves count cs (8 * j) 8 ds
  pub whole : slot_value ds j ≡ Some v

-- That is so of each slot of the stack and each place.
abbrev pub PlacesAreWritten : Type 0
PlacesAreWritten =
    (count : ℕ) (cs : List Cell) → IsStack count cs → (j : ℕ) → j < count → (r : Region) (at : ℕ) →
    LeavesPlace count cs j (Ptr r at) (over cs (8 * j) (parts_of r at))

-- The bytes of a number are its number again.
abbrev pub NumbersAreTheirBytes : Type 0
NumbersAreTheirBytes = (w n : ℕ) → n < 256 ^ w → le_value (le_bytes w n) ≡ n
