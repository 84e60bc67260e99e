-- What may be declared of a method's loops.
use lib.Signed.{le_z}
use Rattle.std.specs.Prelude.{◌≢◌, ◌≤◌, ◌<◌, ◌≤ℤ◌, ℕ, ◌+◌, List, [], ◌∷◌, Option, Some, None, length}
use Rattle.std.specs.Prelude.{Bool, true, if◌then◌else◌, ◌==◌, nat_le, not, ◌&&◌}
use Rattle.std.specs.List.{AllByRecursion}
use Rattle.loop_heads.specs.declared.place.PlaceKind.{PlaceKind}
use Rattle.loop_heads.specs.declared.place.PlaceKind.TheVariants.{Unset, Any, Unsigned, Signed, Input, Output, Stack}
use Rattle.loop_heads.specs.declared.place.HeadPlace.{HeadPlace}
use Rattle.loop_heads.specs.declared.loops_error.LoopsError.{LoopsError}
use Rattle.loop_heads.specs.declared.loops_error.LoopsError.TheVariants.{Limit, Head}
use Rattle.loop_heads.specs.declared.limits.TheConstants.{HEAD_LIMIT, BUDGET_LIMIT, PLACE_LIMIT}

-- a head: the slot of a backward jump's target, and places with what holds of them whenever a run is there
pub record PlainHead : Type 0 where
  pub slot : ℕ
  pub places : List HeadPlace

-- a method's budget and heads
pub record PlainLoops : Type 0 where
  pub budget : ℕ
  pub heads : List PlainHead

-- bounds in order
abbrev pub IsKind : PlaceKind → Type 0
IsKind Unset = Unit {0}
IsKind Any = Unit {0}
IsKind (Unsigned a b) = a ≤ b
IsKind (Signed a b) = a ≤ℤ b
IsKind (Input a b) = a ≤ b
IsKind (Output a b) = a ≤ b
IsKind (Stack a b) = a ≤ b

-- a register but the last, or a slot of the stack
pub record IsPlace (p : HeadPlace) : Type 0 where
  pub known : p.number ≤ PLACE_LIMIT
  pub not_r10 : p.number ≢ 10
  pub kind : IsKind p.kind

-- the numbers rise
abbrev pub PlacesRise : List HeadPlace → Type 0
PlacesRise [] = Unit {0}
PlacesRise (p ∷ []) = Unit {0}
PlacesRise (p ∷ q ∷ ps) = (p.number < q.number) × PlacesRise (q ∷ ps)

-- each place once, in order
pub record IsHead (h : PlainHead) : Type 0 where
  pub places : AllByRecursion IsPlace h.places
  pub rise : PlacesRise h.places

-- the slots rise
abbrev pub SlotsRise : List PlainHead → Type 0
SlotsRise [] = Unit {0}
SlotsRise (h ∷ []) = Unit {0}
SlotsRise (h ∷ i ∷ hs) = (h.slot < i.slot) × SlotsRise (i ∷ hs)

-- what a method may declare: a budget, and 1 to 64 heads, each once, in order
pub record IsLoops (l : PlainLoops) : Type 0 where
  pub some : 1 ≤ length l.heads
  pub few : length l.heads ≤ HEAD_LIMIT
  pub paid : 1 ≤ l.budget
  pub bounded : l.budget ≤ BUDGET_LIMIT
  pub heads : AllByRecursion IsHead l.heads
  pub rise : SlotsRise l.heads

-- the places that are declared at a slot, if it is a head
abbrev pub head_at : List PlainHead → ℕ → Option (List HeadPlace)
head_at [] p = None
head_at (h ∷ hs) p = if h.slot == p then Some h.places else head_at hs p

-- the same of one head, as tests: bounds in order, a place, places whose numbers rise from some number on, a head
abbrev pub is_kind : PlaceKind → Bool
is_kind Unset = true
is_kind Any = true
is_kind (Unsigned a b) = nat_le a b
is_kind (Signed a b) = le_z a b
is_kind (Input a b) = nat_le a b
is_kind (Output a b) = nat_le a b
is_kind (Stack a b) = nat_le a b

abbrev pub is_place : HeadPlace → Bool
is_place p = nat_le p.number PLACE_LIMIT && (not (p.number == 10) && is_kind p.kind)

abbrev pub are_places : ℕ → List HeadPlace → Bool
are_places least [] = true
are_places least (p ∷ ps) = (nat_le least p.number && is_place p) && are_places (p.number + 1) ps

abbrev pub is_head : PlainHead → Bool
is_head h = are_places 0 h.places

-- the first head that is none, or whose slot is below what it may be: that of the first is any
abbrev pub heads_refusal : ℕ → List PlainHead → Option LoopsError
heads_refusal least [] = None
heads_refusal least (h ∷ hs) =
    if nat_le least h.slot && is_head h then heads_refusal (h.slot + 1) hs else Some (Head h.slot)

-- the number of heads, then the budget
abbrev pub are_within : ℕ → ℕ → Bool
are_within budget count = (nat_le 1 count && nat_le count HEAD_LIMIT) && (nat_le 1 budget && nat_le budget BUDGET_LIMIT)

-- why a budget and heads are refused; they are `IsLoops` exactly where they aren't
abbrev pub loops_refusal : ℕ → List PlainHead → Option LoopsError
loops_refusal budget heads =
    if are_within budget (length heads) then heads_refusal 0 heads else Some Limit
