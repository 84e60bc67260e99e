-- Reading a part from left to right: each reading gives a value and the bytes after it, or nothing.
use Rattle.std.specs.Prelude.{◌≡◌, ◌⊎◌, ℕ, zero, suc, ◌*◌, ◌^◌, ◌==◌, ◌&&◌, ◌||◌, not, nat_le, nat_lt, Bool, true}
use Rattle.std.specs.Prelude.{false, List, [], ◌∷◌, length, take, drop, Option, Some, None, Result, Ok, Err}
use Rattle.std.specs.Prelude.{if◌then◌else◌}
use Rattle.std.specs.Ordering.{nat_cmp, is_lt}
use Rattle.std.specs.Cmp.Lexicographic.{slice_cmp}
use Rattle.byteorder.specs.Endian.{little_number}
use Rattle.object_store.specs.declared.limits.TheConstants.{XATTR_LIMIT, KEY_LIMIT, NAME_LIMIT, VALUE_LIMIT}
use Rattle.part_bytes.specs.declared.limits.TheConstants.{BLOCK, BLOCK_LIMIT, INTERVAL_LIMIT, PLACE_LIMIT}
use Rattle.part_bytes.specs.declared.part_error.PartError.{PartError}
use Rattle.part_bytes.specs.declared.part_error.PartError.TheVariants.{NoMemory}
use Rattle.part_bytes.specs.Part.{Block, Interval, Entry, Names, Content, PlainPart, block_length}
use Rattle.part_bytes.specs.Part.{after_block, after_interval, after_entry}

-- ---- readings, and what is made of them

-- what is read from bytes, with the bytes after it
abbrev pub Reading : Type 0 → Type 0
Reading X = List ℕ → Option (X × List ℕ)

-- what the function gives of a value, if there is one
infixl 10 ◌>>=◌
abbrev pub ◌>>=◌ : {A B : Type 0} → Option A → (A → Option B) → Option B
None >>= f = None
(Some x) >>= f = f x

-- the value if the test holds
abbrev pub checked : {A : Type 0} → Bool → A → Option A
checked test x = if test then Some x else None

-- a value that passes the test
abbrev pub passing : {X : Type 0} → Reading X → (X → Bool) → Reading X
passing read test bytes = read bytes >>= λ x. checked (test x.0) x

-- a value, and one that is read after it and may depend on it
abbrev pub followed : {X Y : Type 0} → Reading X → (X → Reading Y) → Reading (X × Y)
followed read more bytes = read bytes >>= λ x. more x.0 x.1 >>= λ y. Some ((x.0, y.0), y.1)

-- another form of the value
abbrev pub formed : {X Y : Type 0} → Reading X → (X → Y) → Reading Y
formed read form bytes = read bytes >>= λ x. Some (form x.0, x.1)

-- n values, each read after the one before it
unfoldable pub in_turn : {S X : Type 0} → (S → Reading X) → (X → S) → S → ℕ → Reading (List X)
in_turn read next s zero bytes = Some ([], bytes)
in_turn read next s (suc n) bytes =
    read s bytes >>= λ x. in_turn read next (next x.0) n x.1 >>= λ xs. Some (x.0 ∷ xs.0, xs.1)

-- all of the bytes, as one value
abbrev pub whole : {X : Type 0} → Reading X → List ℕ → Option X
whole read bytes = read bytes >>= λ x. checked (length x.1 == 0) x.0

-- ---- fields

-- a number of n bytes
abbrev pub number_at : ℕ → Reading ℕ
number_at n bytes = checked (nat_le n (length bytes)) (little_number n bytes, drop n bytes)

-- n bytes
abbrev pub bytes_at : ℕ → Reading (List ℕ)
bytes_at n bytes = checked (nat_le n (length bytes)) (take n bytes, drop n bytes)

-- a count of k bytes that is at most the limit
abbrev pub count_at : ℕ → ℕ → Reading ℕ
count_at k most = passing (number_at k) (λ n. nat_le n most)

-- values after their count
abbrev pub counted : {S X : Type 0} → ℕ → ℕ → (S → Reading X) → (X → S) → S → Reading (List X)
counted k most read next s bytes = count_at k most bytes >>= λ n. in_turn read next s n.0 n.1

-- a text after its length
unfoldable pub text_at : Reading (List ℕ)
text_at bytes = number_at 2 bytes >>= λ n. bytes_at n.0 n.1

-- two texts
abbrev pub pair_at : Reading (List ℕ × List ℕ)
pair_at = followed text_at (λ _. text_at)

-- a name is below another, by bytes
abbrev pub is_below : List ℕ → List ℕ → Bool
is_below a b = is_lt (slice_cmp nat_cmp a b)

-- ---- blocks

-- a block may have this number
abbrev pub is_number : ℕ → ℕ → ℕ → Bool
is_number size least number = nat_le least number && nat_lt (BLOCK * number) size

-- a block of an object of that size, with this number or a greater one
unfoldable pub block_at : ℕ → ℕ → Reading Block
block_at size least = followed (passing (number_at 8) (is_number size least)) (λ b. bytes_at (block_length size b))

-- blocks after their count
abbrev pub blocks_at : ℕ → Reading (List Block)
blocks_at size = counted 4 BLOCK_LIMIT (block_at size) after_block 0

-- ---- names

-- an interval may begin there
abbrev pub is_begin : Option (List ℕ) → List ℕ → Bool
is_begin None low = true
is_begin (Some end) low = nat_le 1 (length end) && is_below end low

-- a place is an interval's end, for its beginning or for a name in it
abbrev pub is_end_of : List ℕ → List ℕ → Bool
is_end_of name high = (length high == 0) || is_below name high

-- an interval after the one that has this end
abbrev pub is_interval : Option (List ℕ) → Interval → Bool
is_interval before i =
    nat_le (length i.0) PLACE_LIMIT && nat_le (length i.1) PLACE_LIMIT && is_end_of i.0 i.1 && is_begin before i.0

-- an interval after the one that has this end
unfoldable pub interval_at : Option (List ℕ) → Reading Interval
interval_at before = passing pair_at (is_interval before)

-- intervals after their count
abbrev pub intervals_at : Reading (List Interval)
intervals_at = counted 2 INTERVAL_LIMIT interval_at after_interval None

-- an entry whose name is above the one before it
abbrev pub is_entry : List ℕ → Entry → Bool
is_entry before e = is_below before e.0 && nat_le (length e.0) NAME_LIMIT && nat_le (length e.1) VALUE_LIMIT

-- an entry whose name is above the one before it
unfoldable pub entry_at : List ℕ → Reading Entry
entry_at before = passing pair_at (is_entry before)

-- entries after their count
abbrev pub entries_at : ℕ → Reading (List Entry)
entries_at most = counted 2 most entry_at after_entry []

-- the intervals that don't end at the name or below it
unfoldable pub past : List ℕ → List Interval → List Interval
past name [] = []
past name (i ∷ is) = if is_end_of name i.1 then i ∷ is else past name is

-- the first interval begins at the name or below it
abbrev pub is_begun : List ℕ → List Interval → Bool
is_begun name [] = false
is_begun name (i ∷ is) = not (is_below name i.0)

-- each entry is in one of the intervals: both are walked once, from the least name on
unfoldable pub covers : List Interval → List Entry → Bool
covers is [] = true
covers is (e ∷ es) = is_begun e.0 (past e.0 is) && covers (past e.0 is) es

-- intervals, and entries
abbrev pub Both : Type 0
Both = List Interval × List Entry

-- what is known of the xattrs, or of the keys
unfoldable pub names_at : ℕ → Reading Both
names_at most = passing (followed intervals_at (λ _. entries_at most)) (λ n. covers n.0 n.1)

-- ---- the part

-- intervals and entries, as one value
abbrev pub names_of : Both → Names
names_of n = record { intervals = n.0; entries = n.1 }

-- an object's size
abbrev pub size_at : Reading ℕ
size_at = passing (number_at 8) (λ n. nat_lt n (2 ^ 63))

-- size, blocks, xattrs and keys
abbrev pub Fields : Type 0
Fields = ℕ × (List Block × (Both × Both))

-- the xattrs, and then the keys
abbrev pub both_at : Reading (Both × Both)
both_at = followed (names_at XATTR_LIMIT) (λ _. names_at KEY_LIMIT)

-- what is known of an object that is there, field by field
abbrev pub fields_at : Reading Fields
fields_at = followed size_at (λ size. followed (blocks_at size) (λ _. both_at))

-- the fields, as one value
abbrev pub content_of : Fields → Content
content_of f = record { size = f.0; blocks = f.1.0; xattrs = names_of f.1.1.0; keys = names_of f.1.1.1 }

-- all of the bytes, after the first one
abbrev pub after_kind : ℕ → List ℕ → Option PlainPart
after_kind kind rest =
    if kind == 0 then checked (length rest == 0) None
    else (if kind == 1 then (whole (formed fields_at content_of) rest >>= λ c. Some (Some c)) else None)

-- all of the bytes
unfoldable pub part_at : List ℕ → Option PlainPart
part_at [] = None
part_at (kind ∷ rest) = after_kind kind rest

-- What a function returned, seen by view, is what reading gives.
abbrev pub Reads : {X Y : Type 0} → (X → Y) → Option X → Option Y → Type 0
Reads view None read = read ≡ None
Reads view (Some x) read = read ≡ Some (view x)

-- The same of a function that memory may be refused.
abbrev pub Gives : {X Y : Type 0} → (X → Y) → Result X PartError → Option Y → Type 0
Gives view (Ok x) read = read ≡ Some (view x)
Gives view (Err e) read = (e ≡ NoMemory) ⊎ (read ≡ None)
