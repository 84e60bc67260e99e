-- Strings of bytes in their order, and intervals of them.
use Rattle.std.specs.Prelude.{ℕ, ◌==◌, Bool, true, false, ◌&&◌, ◌||◌, not, List, [], ◌∷◌, ◌++◌, Option, Some, None}
use Rattle.std.specs.Prelude.{if◌then◌else◌, length, nat_lt, refl}
use Rattle.std.specs.Ordering.{nat_cmp, is_lt}
use Rattle.std.specs.Cmp.Lexicographic.{slice_cmp}
use Rattle.std.specs.Coded.{Coded, code_by, coded×, coded_ℕ, coded_list, coded_option}
use Rattle.part_names.specs.declared.place.TheConstants.{PLACE_LIMIT}

-- whether a string is below another: by the first byte that differs, or as a proper beginning
abbrev pub is_below : List ℕ → List ℕ → Bool
is_below a b = is_lt (slice_cmp nat_cmp a b)

-- whether a string is below an end; None is the end of all strings
abbrev pub is_before : List ℕ → Option (List ℕ) → Bool
is_before a None = true
is_before a (Some end) = is_below a end

-- the least string above some bytes; above none it is the least of all, since a name has a byte
abbrev pub least_from : List ℕ → List ℕ
least_from bytes = if length bytes == 0 then bytes else bytes ++ 0 ∷ []

-- the strings from lo on that are below hi
pub record Interval : Type 0 where
  pub lo : List ℕ
  pub hi : Option (List ℕ)

-- an interval is stored as its two bounds
abbrev pub interval_code : Coded Interval
interval_code =
    code_by (List ℕ × Option (List ℕ)) (coded× (coded_list coded_ℕ) (coded_option (coded_list coded_ℕ)))
    (λ i. (i.lo, i.hi)) (λ p. record { lo = p.0; hi = p.1 }) (λ _. refl)

-- the interval of all strings
abbrev pub everything : Interval
everything = record { lo = []; hi = None }

-- whether an interval holds a string
abbrev pub holds : Interval → List ℕ → Bool
holds i a = not (is_below a i.lo) && is_before a i.hi

-- whether one of the intervals holds a string
abbrev pub is_held : List Interval → List ℕ → Bool
is_held [] a = false
is_held (i ∷ is) a = holds i a || is_held is a

-- whether an interval ends below a string
abbrev pub ends_below : Option (List ℕ) → List ℕ → Bool
ends_below None a = false
ends_below (Some hi) a = is_below hi a

-- whether all intervals do
abbrev pub all_end_below : List Interval → List ℕ → Bool
all_end_below [] a = true
all_end_below (i ∷ is) a = ends_below i.hi a && all_end_below is a

-- whether a bound of an interval has at most 65 bytes
abbrev pub is_bound : Option (List ℕ) → Bool
is_bound None = true
is_bound (Some a) = not (nat_lt PLACE_LIMIT (length a))

-- whether an interval may follow others: its bounds are such, it isn't empty, and all others end below it
abbrev pub may_follow : List Interval → List ℕ → Option (List ℕ) → Bool
may_follow is lo hi = (is_bound (Some lo) && is_bound hi) && (is_before lo hi && all_end_below is lo)
