-- One walk over the names of an object, and the intervals and entries of a part.
use Rattle.std.specs.Prelude.{◌≡◌, ◌==◌, ◌&&◌, Bool, true, false, List, [], ◌∷◌, if◌then◌else◌, length}
use Rattle.std.specs.Str.{bytes_eq}
use Rattle.part_bytes.specs.Part.{Interval, Entry}
use Rattle.part_bytes.specs.inner.Reading.{is_begun, past}

-- the same name and value
abbrev pub is_entry : Entry → Entry → Bool
is_entry e f = bytes_eq e.0 f.0 && bytes_eq e.1 f.1

-- the next entry is this one, and the rest goes on after it
abbrev pub is_next : Entry → List Entry → (List Entry → Bool) → Bool
is_next e [] more = false
is_next e (f ∷ fs) more = is_entry f e && more fs

-- each entry of the object that an interval holds is the next one of the part, and the part has no other
unfoldable pub walked : List Interval → List Entry → List Entry → Bool
walked is es [] = length es == 0
walked is es (e ∷ more) =
    if is_begun e.0 (past e.0 is) then is_next e es (λ fs. walked (past e.0 is) fs more)
    else walked (past e.0 is) es more

-- the entries after this one, if an interval holds it, or all of them
abbrev pub IsAfter : Bool → Entry → List Entry → List Entry → Type 0
IsAfter true e es rest = es ≡ e ∷ rest
IsAfter false e es rest = rest ≡ es
