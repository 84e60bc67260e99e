-- What is answered of a name, and of the least name above some bytes.
use Rattle.std.specs.Prelude.{◌≡◌, ℕ, true, false, IsTrue, List, Option, Some, None}
use Rattle.std.specs.FinMap as fin
use Rattle.shared_map.specs.Entries.{key_above}
use Rattle.object_store.specs.Object.{Attributes}
use Rattle.part_names.specs.declared.known.Known.{Known}
use Rattle.part_names.specs.declared.known.Known.TheVariants as known
use Rattle.part_names.specs.declared.above.Above.{Above}
use Rattle.part_names.specs.declared.above.Above.TheVariants as above
use Rattle.part_names.specs.Order.{Interval, is_below, is_before, is_held, least_from}
use Rattle.part_names.specs.Known.{PlainNames, is_known}

-- what is known of a name: nothing exactly if it isn't known, else what its entry says
abbrev pub IsGot : PlainNames → List ℕ → Known → Type 0
IsGot names name known.Unknown = is_known names name ≡ false
IsGot names name known.Absent = (is_known names name ≡ true) × (fin.get names.entries name ≡ None)
IsGot names name (known.Value value) = (is_known names name ≡ true) × (fin.get names.entries name ≡ Some value.now)

-- intervals hold each string from one on that is below an end
abbrev pub AllHeld : List Interval → List ℕ → Option (List ℕ) → Type 0
AllHeld is lo hi = (a : List ℕ) → is_below a lo ≡ false → IsTrue (is_before a hi) → IsTrue (is_held is a)

-- the first string from one on that no interval holds; it is below an end, and isn't known
pub record IsGap (names : PlainNames) (lo : List ℕ) (hi : Option (List ℕ)) (place : List ℕ) : Type 0 where
  pub from : is_below place lo ≡ false
  pub before : IsTrue (is_before place hi)
  pub unknown : is_known names place ≡ false
  pub first : AllHeld names.intervals lo (Some place)

-- the least name above some bytes is that of the entries, if intervals hold all strings between; else there is a gap
abbrev pub IsAbove : PlainNames → List ℕ → Above → Type 0
IsAbove names bytes (above.Name name) =
    AllHeld names.intervals (least_from bytes) (Some name.now) × (key_above names.entries bytes ≡ Some name.now)
IsAbove names bytes above.Absent =
    AllHeld names.intervals (least_from bytes) None × (key_above names.entries bytes ≡ None)
IsAbove names bytes (above.Unknown place) =
    IsGap names (least_from bytes) (key_above names.entries bytes) place

-- a map has this least name above some bytes, unless that is unknown
abbrev pub HasAbove : Attributes → List ℕ → Above → Type 0
HasAbove m bytes (above.Name name) = key_above m bytes ≡ Some name.now
HasAbove m bytes above.Absent = key_above m bytes ≡ None
HasAbove m bytes (above.Unknown place) = Unit {0}
