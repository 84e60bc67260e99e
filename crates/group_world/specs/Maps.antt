-- The maps of a group, and lists of nodes.
use Rattle.std.specs.Prelude.{ℕ, List, [], ◌∷◌, Bool, true, false, ◌==◌, ◌&&◌}
use Rattle.placement.specs.Placement.{has}

-- a map of a group: who acts in an interval, and who acted in the one that was activated last
pub record GroupMap : Type 0 where
  pub epoch : ℕ
  -- the first epoch of the run of maps with this acting list
  pub interval : ℕ
  pub acting : List ℕ
  -- the interval that was activated last when this one began, 0 if there was none
  pub prev : ℕ
  pub prev_acting : List ℕ

-- what a node or the monitor has before its first map
abbrev pub no_map : GroupMap
no_map = record { epoch = 0; interval = 0; acting = []; prev = 0; prev_acting = [] }

-- an interval and its acting nodes
pub record ActingInterval : Type 0 where
  pub interval : ℕ
  pub acting : List ℕ

-- what the monitor has before an interval was activated
abbrev pub no_interval : ActingInterval
no_interval = record { interval = 0; acting = [] }

-- the interval that a map is of
abbrev pub interval_of : GroupMap → ActingInterval
interval_of m = record { interval = m.interval; acting = m.acting }

-- the node is the map's primary, which is the first of the acting list
abbrev pub is_first : ℕ → List ℕ → Bool
is_first n [] = false
is_first n (m ∷ ms) = n == m

-- by the map
abbrev pub is_primary : ℕ → GroupMap → Bool
is_primary n m = is_first n m.acting

-- each node of the first list is in the second
abbrev pub all_among : List ℕ → List ℕ → Bool
all_among [] ms = true
all_among (n ∷ ns) ms = has n ms && all_among ns ms

-- lists of numbers are equal
abbrev pub is_same_list : List ℕ → List ℕ → Bool
is_same_list [] [] = true
is_same_list [] (y ∷ ys) = false
is_same_list (x ∷ xs) [] = false
is_same_list (x ∷ xs) (y ∷ ys) = (x == y) && is_same_list xs ys
