-- What the code keeps of intervals, and what it reads off them.
use Rattle.std.specs.Prelude.{◌≡◌, ℕ, ◌≤◌, Bool, true, false, ◌&&◌, cond, IsTrue}
use Rattle.std.specs.Prelude.{List, [], ◌∷◌, Option, Some, None, length}
use Rattle.part_names.specs.declared.place.TheConstants.{PLACE_LIMIT}
use Rattle.part_names.specs.Order.{Interval, is_below, is_before, holds, is_held, ends_below, is_bound}
use Rattle.part_names.specs.Answers.{AllHeld}

-- whether an end is below each of some intervals
abbrev pub is_below_all : Option (List ℕ) → List Interval → Bool
is_below_all hi [] = true
is_below_all hi (i ∷ is) = ends_below hi i.lo && is_below_all hi is

-- no interval is empty, and each ends below those after it
abbrev pub AreApart : List Interval → Type 0
AreApart [] = Unit {0}
AreApart (i ∷ is) = IsTrue (is_before i.lo i.hi) × IsTrue (is_bound i.hi) × IsTrue (is_below_all i.hi is) × AreApart is

-- the first interval that holds a string
abbrev pub holder : List Interval → List ℕ → Option Interval
holder [] a = None
holder (i ∷ is) a = cond (holds i a) (Some i) (holder is a)

-- the first string from one on that no interval holds
pub record IsFree (is : List Interval) (lo : List ℕ) (place : List ℕ) : Type 0 where
  pub from : is_below place lo ≡ false
  pub free : is_held is place ≡ false
  pub first : AllHeld is lo (Some place)
  pub short : length place ≤ PLACE_LIMIT

-- that string, or none if intervals hold all strings from one on
abbrev pub IsReach : List Interval → List ℕ → Option (List ℕ) → Type 0
IsReach is lo None = AllHeld is lo None
IsReach is lo (Some place) = IsFree is lo place
