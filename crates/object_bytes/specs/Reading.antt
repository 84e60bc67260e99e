-- Reading a flat form from left to right. An object has one: its names rise.
use Rattle.std.specs.Prelude.{◌≡◌, ◌⊎◌, ℕ, zero, suc, ◌==◌, nat_le, Bool, List, [], ◌∷◌, length, take, drop, Some, None}
use Rattle.std.specs.Prelude.{Result, Ok, Err, if◌then◌else◌}
use Rattle.std.specs.Ordering.{nat_cmp, is_lt}
use Rattle.std.specs.Cmp.Lexicographic.{slice_cmp}
use Rattle.byteorder.specs.Endian.{little_number}
use Rattle.bpf_decode.specs.Reading.{◌>>=◌, checked}
use Rattle.object_store.specs.Object.{Content, PlainObject}
use Rattle.object_store.specs.Calls.{write, set_xattr, set_key}
use Rattle.object_store.specs.declared.store_error.StoreError.{StoreError}
use Rattle.object_bytes.specs.declared.flat.FlatError.{FlatError}
use Rattle.object_bytes.specs.declared.flat.FlatError.TheVariants.{Malformed, NoMemory}
use Rattle.object_bytes.specs.declared.part.Part.{Part}
use Rattle.object_bytes.specs.declared.part.Part.TheVariants.{Xattrs, Keys}

-- ---- fields: what is read is a value and the bytes after it

-- a byte
abbrev pub byte_at : List ℕ → Result (ℕ × List ℕ) FlatError
byte_at [] = Err Malformed
byte_at (b ∷ rest) = Ok (b, rest)

-- a number of n bytes
abbrev pub number_at : ℕ → List ℕ → Result (ℕ × List ℕ) FlatError
number_at n bytes = checked (nat_le n (length bytes)) Malformed (little_number n bytes, drop n bytes)

-- n bytes
abbrev pub bytes_at : ℕ → List ℕ → Result (List ℕ × List ℕ) FlatError
bytes_at n bytes = checked (nat_le n (length bytes)) Malformed (take n bytes, drop n bytes)

-- a name and its value
unfoldable pub entry_at : List ℕ → Result ((List ℕ × List ℕ) × List ℕ) FlatError
entry_at bytes = do
  k ← byte_at bytes
  name ← bytes_at k.0 k.1
  m ← number_at 2 name.1
  value ← bytes_at m.0 m.1
  Ok ((name.0, value.0), value.1)

-- ---- what is read is set in an object by its own calls

-- each refusal of the objects says that there is no such object
abbrev pub stored : {X : Type 0} → Result X StoreError → Result X FlatError
stored (Ok x) = Ok x
stored (Err e) = Err Malformed

-- an entry more of the xattrs, or of the keys
abbrev pub set_in : Part → Content → List ℕ × List ℕ → Result Content FlatError
set_in Xattrs c e = stored (set_xattr (Some c) e.0 e.1)
set_in Keys c e = stored (set_key (Some c) e.0 e.1)

-- a name stands behind another, by their bytes
abbrev pub rises : List ℕ → List ℕ → Bool
rises last name = is_lt (slice_cmp nat_cmp last name)

-- n entries more, each behind the last name
unfoldable pub entries_at : Part → ℕ → List ℕ → Content → List ℕ → Result (Content × List ℕ) FlatError
entries_at part zero last c bytes = Ok (c, bytes)
entries_at part (suc n) last c bytes =
    entry_at bytes >>= λ e. checked (rises last e.0.0) Malformed e.0 >>= λ f. set_in part c f >>=
    λ more. entries_at part n f.0 more e.1

-- entries after their count; the names are behind the empty one
unfoldable pub part_at : Part → Content → List ℕ → Result (Content × List ℕ) FlatError
part_at part c bytes = number_at 2 bytes >>= λ n. entries_at part n.0 [] c n.1

-- data after its length
unfoldable pub data_at : List ℕ → Result (Content × List ℕ) FlatError
data_at bytes = do
  n ← number_at 4 bytes
  text ← bytes_at n.0 n.1
  c ← stored (write None 0 text.0)
  Ok (c, text.1)

-- data, xattrs, keys, and nothing after them
unfoldable pub content_at : List ℕ → Result Content FlatError
content_at bytes = do
  text ← data_at bytes
  xattrs ← part_at Xattrs text.0 text.1
  keys ← part_at Keys xattrs.0 xattrs.1
  checked (length keys.1 == 0) Malformed keys.0

-- an object that is there, or why it isn't read
abbrev pub there : Result Content FlatError → Result PlainObject FlatError
there (Ok c) = Ok (Some c)
there (Err e) = Err e

-- all of the bytes
unfoldable pub object_at : List ℕ → Result PlainObject FlatError
object_at bytes = do
  b ← byte_at bytes
  if b.0 == 0 then checked (length b.1 == 0) Malformed None
      else (if b.0 == 1 then there (content_at b.1) else Err Malformed)

-- What a function returned, seen by view, is what reading gives, unless memory ran out.
abbrev pub Gives : {X Y : Type 0} → (X → Y) → Result X FlatError → Result Y FlatError → Type 0
Gives view (Ok x) read = read ≡ Ok (view x)
Gives view (Err e) read = (e ≡ NoMemory) ⊎ (read ≡ Err e)
