-- What is known after a change.
use Rattle.std.specs.Prelude.{◌≡◌, ℕ, Bool, true, false, ◌&&◌, ◌||◌, not, nat_lt}
use Rattle.std.specs.Prelude.{List, [], ◌∷◌, ◌++◌, length, Option, is_some}
use Rattle.std.specs.FinMap as fin
use Rattle.object_store.specs.declared.limits.TheConstants.{VALUE_LIMIT}
use Rattle.object_store.specs.Calls.{is_named}
use Rattle.part_names.specs.declared.set_error.SetError.{SetError}
use Rattle.part_names.specs.declared.set_error.SetError.TheVariants.{Full, NoMemory}
use Rattle.part_names.specs.Order.{everything, is_held}
use Rattle.part_names.specs.Known.{PlainNames}

-- nothing is known
abbrev pub nothing_known : ℕ → PlainNames
nothing_known most = record { most = most; entries = fin.empty; intervals = [] }

-- all names are absent
abbrev pub none_there : ℕ → PlainNames
none_there most = record { most = most; entries = fin.empty; intervals = everything ∷ [] }

-- an interval more, behind the others
abbrev pub with_interval : PlainNames → List ℕ → Option (List ℕ) → PlainNames
with_interval names lo hi = record names { intervals = names.intervals ++ record { lo = lo; hi = hi } ∷ [] }

-- whether an entry may be learned: a name without an entry, that an interval holds, and a value; and there is room
abbrev pub may_enter : PlainNames → List ℕ → List ℕ → Bool
may_enter names name value =
    (is_named name && not (nat_lt VALUE_LIMIT (length value))) &&
    (is_held names.intervals name && not (is_some (fin.get names.entries name)) &&
    nat_lt (fin.len names.entries) names.most)

-- an entry more, or another value of one
abbrev pub with_entry : PlainNames → List ℕ → List ℕ → PlainNames
with_entry names name value = record names { entries = fin.insert names.entries name value }

-- without an entry
abbrev pub without_entry : PlainNames → List ℕ → PlainNames
without_entry names name = record names { entries = fin.remove names.entries name }

-- whether a name may get a value: it has one, or there are fewer entries than there may be
abbrev pub has_room : PlainNames → List ℕ → Bool
has_room names name = is_some (fin.get names.entries name) || nat_lt (fin.len names.entries) names.most

-- without room a set is refused as full, and with room for want of memory alone
abbrev pub IsRefused : Bool → SetError → Type 0
IsRefused room Full = room ≡ false
IsRefused room NoMemory = room ≡ true
