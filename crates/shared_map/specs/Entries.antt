-- The entries of a map, by keys of bytes.
use Rattle.std.specs.Prelude.{ℕ, Bool, List, [], ◌∷◌, Option, Some, None, slice_get, cond, not, filter}
use Rattle.std.specs.Ordering.{nat_cmp, is_lt, eq_by_cmp}
use Rattle.std.specs.Cmp.Lexicographic.{slice_cmp}
use Rattle.std.specs.Borrow.{Bor}
use Rattle.std.specs.FinMap as fin
use Rattle.std.specs.FinMap.{FinMap, is_sorted}

-- a finite map from bytes to values
abbrev pub ByteMap : Type 0 → Type 0
ByteMap V = FinMap (slice_cmp nat_cmp) V

-- a key and its value
abbrev pub Pair : Type 0 → Type 0
Pair V = List ℕ × V

-- keys with their values, in a list
abbrev pub Entries : Type 0 → Type 0
Entries V = List (Pair V)

-- whether the keys strictly rise by bytes
abbrev pub sorted : {V : Type 0} → Entries V → Bool
sorted es = is_sorted (slice_cmp nat_cmp) es

-- the first key above some bytes, which is the least if the keys rise
abbrev pub least_above : {V : Type 0} → List ℕ → Entries V → Option (List ℕ)
least_above k [] = None
least_above k (e ∷ es) = cond (is_lt (slice_cmp nat_cmp k e.0)) (Some e.0) (least_above k es)

-- the entries of all keys but one
abbrev pub without : {V : Type 0} → List ℕ → Entries V → Entries V
without k es = filter (λ e. not (eq_by_cmp (slice_cmp nat_cmp) k e.0)) es

-- the least key of a map above some bytes
abbrev pub key_above : {V : Type 0} → ByteMap V → List ℕ → Option (List ℕ)
key_above m k = least_above k (fin.entries m)

-- the entry at a place in the order of the keys, from 0 on
abbrev pub nth : {V : Type 0} → ByteMap V → ℕ → Option (Pair V)
nth m n = slice_get (fin.entries m) n

-- the key and the value that two references lead to
abbrev pub entry_behind : {V : Type 0} → Option (Bor (List ℕ) × Bor V) → Option (Pair V)
entry_behind None = None
entry_behind (Some e) = Some (e.0.now, e.1.now)
