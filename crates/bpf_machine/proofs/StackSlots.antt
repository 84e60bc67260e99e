-- The slots of a stack of cells.
use Rattle.std.proofs.Common.{◌≡◌, inl, inr, ℕ, zero, suc, ◌+◌, ◌-◌, ◌*◌, ◌/◌, ◌%◌, ◌^◌, ◌<◌, ◌≤◌, List, [], ◌∷◌, ◌++◌, Option, Some, None, Bool, true, false, refl, ap, ◌∙◌, sym, subst, arith, length, take, drop, replicate, drop-drop}
use Rattle.std.specs.Prelude.{slice_get}
use Rattle.std.proofs.Math.Nat.{pow-succ'}
use Rattle.std.proofs.lemmas.Bool.{cases_lt, eq-eqb, and_from}
use Rattle.std.proofs.lemmas.List.{length-map, length-replicate}
use Rattle.std.proofs.lemmas.Option.{none-some, same_Some}
use Rattle.bpf_decode.specs.declared.region.Region.{Region}
use Rattle.bpf_decode.specs.declared.region.Region.TheVariants.{Input, Output, Stack}
use Rattle.bpf_decode.specs.declared.value.Value.{Value}
use Rattle.bpf_decode.specs.declared.value.Value.TheVariants.{Num, Ptr}
use Rattle.object_store.specs.Object.{AreBytes}
use Rattle.bpf_machine.specs.State.{◌>>=◌, only, le_value}
use Rattle.bpf_machine.specs.Typed.{Cell, Byte, PartOf, equal_regions, as_cells, parts_from, parts_of, are_parts, place_of, plain_bytes, number_or, over}
use Rattle.bpf_machine.specs.Slots.{slot_of, slot_value, slot_values, AreCells, IsStack, Touches, IsNumber, SlotsHaveValues, SlotsBeginAtZero, NumbersAreRead, Leaves, LeavesNumbers, BytesAreWritten, PlacesAreWritten}
use Rattle.bpf_machine.proofs.Bytes.{are_zeros}
use Rattle.bpf_machine.proofs.Cells.{piece_at, length-piece, same_members, written_at, written_below, written_above, length-written}

-- ---- values by slot

pub slots_have_values : SlotsHaveValues
slots_have_values zero cs j h = absurd (omega arith)
slots_have_values (suc n) cs zero h = refl
slots_have_values (suc n) cs (suc j) h =
    slots_have_values n (drop 8 cs) j (omega arith)
    ∙ ap (λ (xs : List Cell). Some (slot_of (take 8 xs))) (drop-drop (8 * j) 8 cs ∙ ap (λ k. drop k cs) (omega arith))

-- zeros as cells, eight at a time
abbrev zero_cells : ℕ → List Cell
zero_cells zero = []
zero_cells (suc n) = Byte 0 ∷ Byte 0 ∷ Byte 0 ∷ Byte 0 ∷ Byte 0 ∷ Byte 0 ∷ Byte 0 ∷ Byte 0 ∷ zero_cells n

-- the first of these are a slot that is the number 0
zeros_are : (n : ℕ) → as_cells (replicate (8 * n) 0) ≡ zero_cells n
zeros_are zero = refl
zeros_are (suc n) =
    let e : 8 * suc n ≡ suc (suc (suc (suc (suc (suc (suc (suc (8 * n)))))))) = omega arith in
    ap (λ (k : ℕ). as_cells (replicate k 0)) e
    ∙ ap (λ (cs : List Cell). Byte 0 ∷ Byte 0 ∷ Byte 0 ∷ Byte 0 ∷ Byte 0 ∷ Byte 0 ∷ Byte 0 ∷ Byte 0 ∷ cs) (zeros_are n)

zero_values : (n : ℕ) → slot_values n (zero_cells n) ≡ replicate n (Some (Num 0))
zero_values zero = refl
zero_values (suc n) = ap (λ (vs : List (Option Value)). Some (Num 0) ∷ vs) (zero_values n)

-- ---- cells that are bytes

pub as_plain : (bytes : List ℕ) → plain_bytes (as_cells bytes) ≡ Some bytes
as_plain [] = refl
as_plain (b ∷ bytes) = ap (λ (o : Option (List ℕ)). o >>= λ bs. Some (b ∷ bs)) (as_plain bytes)

onto : (b : ℕ) (cs : List Cell) (o : Option (List ℕ)) (bytes : List ℕ) → (o >>= λ bs. Some (b ∷ bs)) ≡ Some bytes → ((bs : List ℕ) → o ≡ Some bs → cs ≡ as_cells bs) → Byte b ∷ cs ≡ as_cells bytes
onto b cs None bytes h more = absurd (none-some bytes h)
onto b cs (Some bs) bytes h more = ap (λ (xs : List Cell). Byte b ∷ xs) (more bs refl) ∙ ap as_cells (same_Some (b ∷ bs) bytes h)

plain_are : (cs : List Cell) (bytes : List ℕ) → plain_bytes cs ≡ Some bytes → cs ≡ as_cells bytes
plain_are [] bytes h = ap as_cells (same_Some [] bytes h)
plain_are (Byte b ∷ cs) bytes h = onto b cs (plain_bytes cs) bytes h (plain_are cs)
plain_are (PartOf r at k ∷ cs) bytes h = absurd (none-some bytes h)

-- the k-th cell is a byte
abbrev IsByteAt : List Cell → ℕ → Type 0
IsByteAt cs k = (b : ℕ) × (slice_get cs k ≡ Some (Byte b))

byte_at : (bytes : List ℕ) (k : ℕ) → k < length bytes → IsByteAt (as_cells bytes) k
byte_at [] k h = absurd (omega arith)
byte_at (b ∷ bytes) zero h = (b, refl)
byte_at (b ∷ bytes) (suc k) h = byte_at bytes k (omega arith)

all_bytes : (cs : List Cell) → ((k : ℕ) → k < length cs → IsByteAt cs k) → (bytes : List ℕ) × (cs ≡ as_cells bytes)
all_bytes [] h = ([], refl)
all_bytes (Byte b ∷ cs) h =
    let rest = all_bytes cs (λ k l. h (suc k) (omega arith)) in
    (b ∷ rest.0, ap (λ (xs : List Cell). Byte b ∷ xs) rest.1)
all_bytes (PartOf r at j ∷ cs) h =
    let first = h zero (omega arith) in
    let same : PartOf r at j ≡ Byte first.0 = same_Some _ _ first.1 in
    absurd cc

not_number : (cs : List Cell) → IsNumber (place_of cs) → ⊥
not_number [] h = h
not_number (Byte b ∷ cs) h = h
not_number (PartOf r at k ∷ cs) h = by (are_parts r at 0 8 (PartOf r at k ∷ cs)) h
  where
    by : (b : Bool) → IsNumber (only b (Some (Ptr r at))) → ⊥
    by true h = h
    by false h = h

number_bytes : (cs : List Cell) (o : Option (List ℕ)) → plain_bytes cs ≡ o → IsNumber (number_or o (place_of cs)) → (bytes : List ℕ) × (cs ≡ as_cells bytes)
number_bytes cs None e h = absurd (not_number cs h)
number_bytes cs (Some bytes) e h = (bytes, plain_are cs bytes e)

-- a slot that is a number has a byte at each place
slot_byte : (cs : List Cell) → IsNumber (slot_of cs) → (k : ℕ) → k < length cs → IsByteAt cs k
slot_byte cs h k l =
    let are = number_bytes cs (plain_bytes cs) refl h in
    let inside : k < length are.0 = omega (arith, ap length are.1, length-map are.0 Byte) in
    let b = byte_at are.0 k inside in
    (b.0, ap (λ (xs : List Cell). slice_get xs k) are.1 ∙ b.1)

number_byte : (cs : List Cell) (j : ℕ) → 8 * j + 8 ≤ length cs → IsNumber (slot_value cs j) → (k i : ℕ) → i < 8 → k ≡ 8 * j + i → IsByteAt cs k
number_byte cs j long h k i l e =
    let b = slot_byte (take 8 (drop (8 * j) cs)) h i (omega (arith, length-piece cs (8 * j) 8 long)) in
    (b.0, ap (λ n. slice_get cs n) e ∙ sym (piece_at cs (8 * j) 8 i l) ∙ b.1)

-- ---- numbers among cells

cells_take : (n : ℕ) (cs : List Cell) → AreCells cs → AreCells (take n cs)
cells_take zero cs a = tt
cells_take (suc n) [] a = tt
cells_take (suc n) (Byte b ∷ cs) a = (a.0, cells_take n cs a.1)
cells_take (suc n) (PartOf r at k ∷ cs) a = cells_take n cs a

cells_drop : (n : ℕ) (cs : List Cell) → AreCells cs → AreCells (drop n cs)
cells_drop zero cs a = a
cells_drop (suc n) [] a = tt
cells_drop (suc n) (Byte b ∷ cs) a = cells_drop n cs a.1
cells_drop (suc n) (PartOf r at k ∷ cs) a = cells_drop n cs a

cells_append : (cs ds : List Cell) → AreCells cs → AreCells ds → AreCells (cs ++ ds)
cells_append [] ds a b = b
cells_append (Byte n ∷ cs) ds a b = (a.0, cells_append cs ds a.1 b)
cells_append (PartOf r at k ∷ cs) ds a b = cells_append cs ds a b

cells_of : (bytes : List ℕ) → AreBytes bytes → AreCells (as_cells bytes)
cells_of [] a = tt
cells_of (b ∷ bytes) a = (a.0, cells_of bytes a.1)

bytes_of : (bytes : List ℕ) → AreCells (as_cells bytes) → AreBytes bytes
bytes_of [] a = tt
bytes_of (b ∷ bytes) a = (a.0, bytes_of bytes a.1)

cells_of_parts : (r : Region) (at k n : ℕ) → AreCells (parts_from r at k n)
cells_of_parts r at k zero = tt
cells_of_parts r at k (suc n) = cells_of_parts r at (k + 1) n

cells_over : (cs : List Cell) (at : ℕ) (new : List Cell) → AreCells cs → AreCells new → AreCells (over cs at new)
cells_over cs at new a b =
    cells_append (take at cs) (new ++ drop (at + length new) cs) (cells_take at cs a)
    (cells_append new (drop (at + length new) cs) b (cells_drop (at + length new) cs a))

value_below : (xs : List ℕ) → AreBytes xs → le_value xs < 256 ^ length xs
value_below [] a = omega arith
value_below (x ∷ xs) a =
    let h = value_below xs a.1 in
    let x_small = a.0 in
    let p = pow-succ' 256 (length xs) in
    omega arith

-- ---- accesses

pub numbers_are_read : NumbersAreRead
numbers_are_read count cs stack at w inside numbers =
    let long : at + w ≤ length cs = omega (arith, stack.long) in
    let count_is = length-piece cs at w long in
    let are = all_bytes (take w (drop at cs)) (λ k l. here k (omega (arith, count_is))) in
    record {
      bytes = are.0;
      are = ap plain_bytes are.1 ∙ as_plain are.0;
      count = sym (length-map are.0 Byte) ∙ ap length (sym are.1) ∙ count_is;
      small = bytes_of are.0 (subst AreCells are.1 (cells_take w (drop at cs) (cells_drop at cs stack.cells)));
    }
  where
    here : (k : ℕ) → k < w → IsByteAt (take w (drop at cs)) k
    here k l =
        let j : ℕ = (at + k) / 8 in
        let i : ℕ = (at + k) % 8 in
        let below : j < count = omega arith in
        let b = number_byte cs j (omega (arith, stack.long)) (numbers j below (record { below = omega arith; above = omega arith })) (at + k) i (omega arith) (omega arith) in
        (b.0, piece_at cs at w k l ∙ b.1)

module _ (count : ℕ) (cs : List Cell) (stack : IsStack count cs) (at : ℕ) (new : List Cell) (inside : at + length new ≤ 8 * count) where
  fits : at + length new ≤ length cs
  fits = omega (arith, stack.long, inside)

  long_over : length (over cs at new) ≡ 8 * count
  long_over = length-written cs at new fits ∙ stack.long

  -- a slot that isn't touched has the cells that it had
  same_slot : (j : ℕ) → j < count → (Touches at (length new) j → ⊥) → take 8 (drop (8 * j) (over cs at new)) ≡ take 8 (drop (8 * j) cs)
  same_slot j h out =
      let a = length-piece (over cs at new) (8 * j) 8 (omega (arith, long_over)) in
      let b = length-piece cs (8 * j) 8 (omega (arith, stack.long)) in
      same_members _ _ (a ∙ sym b) (λ k l. piece_at (over cs at new) (8 * j) 8 k (omega (arith, a)) ∙ here k (omega (arith, a)) ∙ sym (piece_at cs (8 * j) 8 k (omega (arith, a))))
    where
      here : (k : ℕ) → k < 8 → slice_get (over cs at new) (8 * j + k) ≡ slice_get cs (8 * j + k)
      here k l =
          elim (cases_lt (8 * j + k) at) [
            | inl low ↦ written_below cs at new fits (8 * j + k) low
            | inr high ↦ elim (cases_lt (8 * j + k) (at + length new)) [
              | inl within ↦ absurd (out (record { below = omega arith; above = omega arith }))
              | inr above ↦ written_above cs at new fits (8 * j + k) above
            ]
          ]

  leaves : AreCells new → Leaves count cs at (length new) (over cs at new)
  leaves a = record {
    stack = record { long = long_over; cells = cells_over cs at new stack.cells a };
    others = λ j h out. ap slot_of (same_slot j h out);
  }

  -- what is written over a whole slot stands there
  whole_slot : (j : ℕ) → at ≡ 8 * j → length new ≡ 8 → take 8 (drop (8 * j) (over cs at new)) ≡ new
  whole_slot j e eight =
      let a = length-piece (over cs at new) (8 * j) 8 (omega (arith, long_over, inside, e, eight)) in
      same_members _ _ (a ∙ sym eight) (λ k l.
      piece_at (over cs at new) (8 * j) 8 k (omega (arith, a))
      ∙ ap (λ n. slice_get (over cs at new) (n + k)) (sym e)
      ∙ written_at cs at new fits k (omega (arith, a, eight)))

pub slots_begin_at_zero : SlotsBeginAtZero
slots_begin_at_zero count =
    let zeros = replicate {A = ℕ} (8 * count) 0 in (
      record { long = length-map zeros Byte ∙ length-replicate {A = ℕ} (8 * count) 0; cells = cells_of zeros (are_zeros (8 * count)) },
      ap (slot_values count) (zeros_are count) ∙ zero_values count,
    )

-- eight bytes are a number
eight_bytes : (cs : List Cell) (bytes : List ℕ) → cs ≡ as_cells bytes → slot_of cs ≡ Some (Num (le_value bytes))
eight_bytes cs bytes e = ap slot_of e ∙ ap (λ (o : Option (List ℕ)). number_or o (place_of (as_cells bytes))) (as_plain bytes)

module _ (count : ℕ) (cs : List Cell) (stack : IsStack count cs) (at : ℕ) (bytes : List ℕ) (inside : at + length bytes ≤ 8 * count) (small : AreBytes bytes) where
  counted : length (as_cells bytes) ≡ length bytes
  counted = length-map bytes Byte

  cells_inside : at + length (as_cells bytes) ≤ 8 * count
  cells_inside = omega (arith, inside, counted)

  abbrev after : List Cell
  after = over cs at (as_cells bytes)

  kept_byte : (j k : ℕ) → j < count → IsNumber (slot_value cs j) → k < 8 → slice_get after (8 * j + k) ≡ slice_get cs (8 * j + k) → IsByteAt after (8 * j + k)
  kept_byte j k h is l e =
      let b = number_byte cs j (omega (arith, stack.long, h)) is (8 * j + k) k l refl in
      (b.0, e ∙ b.1)

  fresh_byte : (n i : ℕ) → n ≡ at + i → i < length bytes → IsByteAt after n
  fresh_byte n i e l =
      let b = byte_at bytes i l in
      (b.0, ap (λ k. slice_get after k) e ∙ written_at cs at (as_cells bytes) (fits count cs stack at (as_cells bytes) cells_inside) i (omega (arith, l, counted)) ∙ b.1)

  byte : (j k : ℕ) → j < count → IsNumber (slot_value cs j) → k < 8 → IsByteAt after (8 * j + k)
  byte j k h is l =
      elim (cases_lt (8 * j + k) at) [
        | inl low ↦ kept_byte j k h is l (written_below cs at (as_cells bytes) (fits count cs stack at (as_cells bytes) cells_inside) (8 * j + k) low)
        | inr high ↦ elim (cases_lt (8 * j + k) (at + length bytes)) [
          | inl within ↦ fresh_byte (8 * j + k) (8 * j + k - at) (omega arith) (omega arith)
          | inr above ↦ kept_byte j k h is l (written_above cs at (as_cells bytes) (fits count cs stack at (as_cells bytes) cells_inside) (8 * j + k) (omega (arith, above, counted)))
        ]
      ]

  number : (j : ℕ) → j < count → IsNumber (slot_value cs j) → IsNumber (slot_value after j)
  number j h is =
      let eight = length-piece after (8 * j) 8 (omega (arith, h, long_over count cs stack at (as_cells bytes) cells_inside)) in
      let are = all_bytes (take 8 (drop (8 * j) after)) (λ k l. piece k (omega (arith, l, eight))) in
      let values = bytes_of are.0 (subst AreCells are.1 (cells_take 8 (drop (8 * j) after) (cells_drop (8 * j) after (cells_over cs at (as_cells bytes) stack.cells (cells_of bytes small))))) in
      let long : length are.0 ≡ 8 = sym (length-map are.0 Byte) ∙ ap length (sym are.1) ∙ eight in
      let below : le_value are.0 < 256 ^ 8 = subst (λ n. le_value are.0 < 256 ^ n) long (value_below are.0 values) in
      subst IsNumber (sym (eight_bytes _ are.0 are.1)) below
    where
      piece : (k : ℕ) → k < 8 → IsByteAt (take 8 (drop (8 * j) after)) k
      piece k l = let b = byte j k h is l in (b.0, piece_at after (8 * j) 8 k l ∙ b.1)

  bytes_leave : LeavesNumbers count cs at bytes after
  bytes_leave = record {
    rest = subst (λ n. Leaves count cs at n after) counted (leaves count cs stack at (as_cells bytes) cells_inside (cells_of bytes small));
    numbers = number;
    whole = λ j e eight. eight_bytes _ bytes (whole_slot count cs stack at (as_cells bytes) cells_inside j e (counted ∙ eight));
  }

pub bytes_are_written : BytesAreWritten
bytes_are_written count cs stack at bytes inside small = bytes_leave count cs stack at bytes inside small

-- ---- places

equal_same : (r : Region) → equal_regions r r ≡ true
equal_same Input = refl
equal_same Output = refl
equal_same Stack = refl

are_own_parts : (r : Region) (at k n : ℕ) → are_parts r at k n (parts_from r at k n) ≡ true
are_own_parts r at k zero = refl
are_own_parts r at k (suc n) =
    and_from _ _ (and_from _ _ (equal_same r) (and_from _ _ (eq-eqb at at refl) (eq-eqb k k refl))) (are_own_parts r at (k + 1) n)

place_there : (r : Region) (at : ℕ) → slot_of (parts_of r at) ≡ Some (Ptr r at)
place_there r at = ap (λ (b : Bool). only b (Some (Ptr r at))) (are_own_parts r at 0 8)

pub places_are_written : PlacesAreWritten
places_are_written count cs stack j h r at = record {
  rest = leaves count cs stack (8 * j) (parts_of r at) (omega (arith, h)) (cells_of_parts r at 0 8);
  whole = ap slot_of (whole_slot count cs stack (8 * j) (parts_of r at) (omega (arith, h)) j refl refl) ∙ place_there r at;
}
