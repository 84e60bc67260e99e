-- Reading loops from left to right, with the first refusal that is met.
use Rattle.std.specs.Prelude.{◌≡◌, ◌⊎◌, ℕ, zero, suc, ◌+◌, ◌==◌, ◌&&◌, not, nat_le, Bool, false, List, [], ◌∷◌}
use Rattle.std.specs.Prelude.{length, drop, get_or, Option, Some, None, Result, Ok, Err, if◌then◌else◌}
use Rattle.std.specs.Int.{w64, cast_signed}
use Rattle.byteorder.specs.Endian.{little_number}
use Rattle.loop_heads.specs.declared.place.PlaceKind.{PlaceKind}
use Rattle.loop_heads.specs.declared.place.PlaceKind.TheVariants.{Unset, Any, Unsigned, Signed, Input, Output, Stack}
use Rattle.loop_heads.specs.declared.place.HeadPlace.{HeadPlace}
use Rattle.loop_heads.specs.declared.limits.TheConstants.{HEAD_LIMIT, BUDGET_LIMIT, PLACE_LIMIT}
use Rattle.loop_heads.specs.Loops.{PlainHead, PlainLoops, is_kind}
use Rattle.loop_bytes.specs.declared.heads_error.HeadsError.{HeadsError}
use Rattle.loop_bytes.specs.declared.heads_error.HeadsError.TheVariants.{NoMemory, Truncated, Limit, Head}

-- what is read from bytes, with the bytes after it, or the refusal
abbrev pub Reading : Type 0 → Type 0
Reading X = List ℕ → Result (X × List ℕ) HeadsError

-- what the function gives of a value; a refusal stays the refusal
infixl 10 ◌>>=◌
abbrev pub ◌>>=◌ : {A B E : Type 0} → Result A E → (A → Result B E) → Result B E
(Ok x) >>= f = f x
(Err e) >>= f = Err e

-- x if the test holds, else that refusal
abbrev pub checked : {A E : Type 0} → Bool → E → A → Result A E
checked test e x = if test then Ok x else Err e

-- n values, each after the one before it, of which `next` makes what the reading of it depends on
unfoldable pub in_turn : {S X : Type 0} → (S → Reading X) → (X → S) → S → ℕ → Reading (List X)
in_turn read next s zero bytes = Ok ([], bytes)
in_turn read next s (suc n) bytes =
    read s bytes >>= λ x. in_turn read next (next x.0) n x.1 >>= λ xs. Ok (x.0 ∷ xs.0, xs.1)

-- ---- fields: each is read whole and then tested

-- a little-endian number of n bytes
abbrev pub number_from : ℕ → Reading ℕ
number_from n bytes = checked (nat_le n (length bytes)) Truncated (little_number n bytes, drop n bytes)

-- the number of heads
unfoldable pub count_from : Reading ℕ
count_from bytes = do
  count ← number_from 2 bytes
  checked (nat_le count.0 HEAD_LIMIT) Limit count

-- the budget
unfoldable pub budget_from : Reading ℕ
budget_from bytes = do
  budget ← number_from 4 bytes
  checked (nat_le 1 budget.0 && nat_le budget.0 BUDGET_LIMIT) Limit budget

-- a head's slot, at which an instruction begins: at least `least`
unfoldable pub slot_from : List Bool → ℕ → Reading ℕ
slot_from starts least bytes = do
  slot ← number_from 2 bytes
  checked (nat_le least slot.0 && get_or starts slot.0 false) (Head slot.0) slot

-- the kinds that have bounds, by their numbers 2 to 6
abbrev pub bounded_kind : ℕ → ℕ → ℕ → PlaceKind
bounded_kind code a b =
    if code == 2 then Unsigned a b else
    (if code == 3 then Signed (cast_signed w64 a) (cast_signed w64 b) else
    (if code == 4 then Input a b else
    (if code == 5 then Output a b else Stack a b)))

-- the two bounds, which have to be in order, as a kind of the head at that slot
unfoldable pub bounds_from : ℕ → ℕ → Reading PlaceKind
bounds_from slot code bytes = do
  a ← number_from 8 bytes
  b ← number_from 8 a.1
  checked (is_kind (bounded_kind code a.0 b.0)) (Head slot) (bounded_kind code a.0 b.0, b.1)

-- what follows a kind's number
unfoldable pub kind_from : ℕ → ℕ → Reading PlaceKind
kind_from slot code bytes =
    if code == 0 then Ok (Unset, bytes) else (if code == 1 then Ok (Any, bytes) else bounds_from slot code bytes)

-- a place may have this number, at least `least`, and its kind that one
abbrev pub is_numbered : ℕ → ℕ → ℕ → Bool
is_numbered least number code =
    nat_le least number && (nat_le number PLACE_LIMIT && (not (number == 10) && nat_le code 6))

-- a place of the head at that slot, with a number that is at least `least`
unfoldable pub place_from : ℕ → ℕ → Reading HeadPlace
place_from slot least bytes = do
  number ← number_from 1 bytes
  code ← number_from 1 number.1
  known ← checked (is_numbered least number.0 code.0) (Head slot) code
  kind ← kind_from slot code.0 code.1
  Ok (record { number = number.0; kind = kind.0 }, kind.1)

-- the number above a place's
abbrev pub after_place : HeadPlace → ℕ
after_place p = p.number + 1

-- n places, by rising numbers
abbrev pub places_from : ℕ → ℕ → Reading (List HeadPlace)
places_from slot n = in_turn (place_from slot) after_place 0 n

-- a head, with a slot that is at least `least`
unfoldable pub head_from : List Bool → ℕ → Reading PlainHead
head_from starts least bytes = do
  slot ← slot_from starts least bytes
  count ← number_from 1 slot.1
  places ← places_from slot.0 count.0 count.1
  Ok (record { slot = slot.0; places = places.0 }, places.1)

-- the slot above a head's
abbrev pub after_head : PlainHead → ℕ
after_head h = h.slot + 1

-- n heads, by rising slots
abbrev pub heads_from : List Bool → ℕ → Reading (List PlainHead)
heads_from starts n = in_turn (head_from starts) after_head 0 n

-- n heads after the budget
unfoldable pub some_from : List Bool → ℕ → Reading (Option PlainLoops)
some_from starts n bytes = do
  budget ← budget_from bytes
  heads ← heads_from starts n budget.1
  Ok (Some (record { budget = budget.0; heads = heads.0 }), heads.1)

-- loops, of a method whose instructions begin at these slots
unfoldable pub loops_from : List Bool → Reading (Option PlainLoops)
loops_from starts bytes = do
  count ← count_from bytes
  if count.0 == 0 then Ok (None, count.1) else some_from starts count.0 count.1

-- ---- what code returns

-- What a function returned, seen by view, is what reading gives.
abbrev pub Reads : {X Y E : Type 0} → (X → Y) → Result X E → Result Y E → Type 0
Reads view (Ok x) read = read ≡ Ok (view x)
Reads view (Err e) read = read ≡ Err e

-- The same, unless memory ran out.
abbrev pub Gives : {X Y : Type 0} → (X → Y) → Result X HeadsError → Result Y HeadsError → Type 0
Gives view (Ok x) read = read ≡ Ok (view x)
Gives view (Err e) read = (e ≡ NoMemory) ⊎ (read ≡ Err e)
