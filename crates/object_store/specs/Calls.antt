-- What each call on an object answers, absent or there: the first refusal that applies, or the
-- answer. Of several refusals the first is of a name's length, then of a size, then absent,
-- present, no such name, too many.
use Rattle.std.specs.Prelude.{ℕ, ◌+◌, Bool, ◌&&◌, not, List, Some, None, Result, Ok, Err, if◌then◌else◌, nat_lt, ◌==◌}
use Rattle.std.specs.Prelude.{length, is_some}
use Rattle.std.specs.Option.{ok_or}
use Rattle.std.specs.FinMap as fin
use Rattle.shared_map.specs.Entries.{key_above}
use Rattle.object_store.specs.declared.limits.TheConstants.{DATA_LIMIT, XATTR_LIMIT, KEY_LIMIT, NAME_LIMIT, VALUE_LIMIT}
use Rattle.object_store.specs.declared.store_error.StoreError.{StoreError}
use Rattle.object_store.specs.declared.store_error.StoreError.TheVariants.{Absent, Exists, NoAttr, TooBig, TooMany}
use Rattle.object_store.specs.declared.store_error.StoreError.TheVariants.{Range}
use Rattle.object_store.specs.Edits.{overlaid}
use Rattle.object_store.specs.Object.{Attributes, Content, PlainObject, nothing, content_of, part, spliced, resized}

-- whether a name, or a key, has 1 to that many bytes, and whether it has 1 to 64
abbrev pub is_named_within : ℕ → List ℕ → Bool
is_named_within most name = not (length name == 0) && not (nat_lt most (length name))

abbrev pub is_named : List ℕ → Bool
is_named name = is_named_within NAME_LIMIT name

-- of an object that has to be there
abbrev pub if_there : {X : Type 0} → PlainObject → (Content → Result X StoreError) → Result X StoreError
if_there None answer = Err Absent
if_there (Some c) answer = answer c

-- ---- reads
-- the length of the data
abbrev pub stat : PlainObject → Result ℕ StoreError
stat object = if_there object (λ c. Ok (length c.bytes))

-- the bytes from a place on that there are, at most n
abbrev pub read : PlainObject → ℕ → ℕ → Result (List ℕ) StoreError
read object at n = if_there object (λ c. Ok (part c.bytes at n))

-- the value of a name
abbrev pub value_in : Attributes → List ℕ → Result (List ℕ) StoreError
value_in m name = ok_or (fin.get m name) NoAttr

-- the value of an xattr, and of a key of the omap
abbrev pub get_xattr : PlainObject → List ℕ → Result (List ℕ) StoreError
get_xattr object name = if is_named name then if_there object (λ c. value_in c.xattrs name) else Err Range

abbrev pub get_key : PlainObject → List ℕ → Result (List ℕ) StoreError
get_key object key = if is_named key then if_there object (λ c. value_in c.omap key) else Err Range

-- the least name above some bytes, which may be none; these are at most as long as a name
abbrev pub next_in : (Content → Attributes) → PlainObject → List ℕ → Result (List ℕ) StoreError
next_in names object name = if nat_lt NAME_LIMIT (length name) then Err Range
    else if_there object (λ c. ok_or (key_above (names c) name) NoAttr)

-- the least xattr's name, and the least key of the omap, above some bytes
abbrev pub next_xattr : PlainObject → List ℕ → Result (List ℕ) StoreError
next_xattr object name = next_in (λ c. c.xattrs) object name

abbrev pub next_key : PlainObject → List ℕ → Result (List ℕ) StoreError
next_key object key = next_in (λ c. c.omap) object key

-- ---- changes: what the object holds afterwards
-- with text written into the data at a place; an absent object is created
abbrev pub write : PlainObject → ℕ → List ℕ → Result Content StoreError
write object at text =
    if nat_lt DATA_LIMIT (at + length text) then Err TooBig else
    Ok (record (content_of object) { bytes = spliced (content_of object).bytes at text })

-- with the data cut, or extended with zeros, to a length
abbrev pub truncate : PlainObject → ℕ → Result Content StoreError
truncate object len =
    if nat_lt DATA_LIMIT len then Err TooBig else if_there object (λ c. Ok (record c { bytes = resized c.bytes len }))

-- names with one set, if they are at most that many
abbrev pub set_in : ℕ → Attributes → List ℕ → List ℕ → Result Attributes StoreError
set_in most m name value =
    if is_some (fin.get m name) then Ok (fin.insert m name value) else
    if nat_lt (fin.len m) most then Ok (fin.insert m name value) else Err TooMany

-- names without one that has to be among them
abbrev pub removed_in : Attributes → List ℕ → Result Attributes StoreError
removed_in m name = if is_some (fin.get m name) then Ok (fin.remove m name) else Err NoAttr

-- with other xattrs, or with another omap, if these weren't refused
abbrev pub with_xattrs : Content → Result Attributes StoreError → Result Content StoreError
with_xattrs c (Ok m) = Ok (record c { xattrs = m })
with_xattrs c (Err e) = Err e

abbrev pub with_omap : Content → Result Attributes StoreError → Result Content StoreError
with_omap c (Ok m) = Ok (record c { omap = m })
with_omap c (Err e) = Err e

-- with a value for the name of an xattr, or for a key of the omap; an absent object is created
abbrev pub set_xattr : PlainObject → List ℕ → List ℕ → Result Content StoreError
set_xattr object name value =
    if is_named name then
    if nat_lt VALUE_LIMIT (length value) then Err TooBig else
    with_xattrs (content_of object) (set_in XATTR_LIMIT (content_of object).xattrs name value)
    else Err Range

abbrev pub set_key : PlainObject → List ℕ → List ℕ → Result Content StoreError
set_key object key value =
    if is_named key then
    if nat_lt VALUE_LIMIT (length value) then Err TooBig else
    with_omap (content_of object) (set_in KEY_LIMIT (content_of object).omap key value)
    else Err Range

-- without an xattr, or without a key of the omap, which has to be there
abbrev pub remove_xattr : PlainObject → List ℕ → Result Content StoreError
remove_xattr object name =
    if is_named name then if_there object (λ c. with_xattrs c (removed_in c.xattrs name)) else Err Range

abbrev pub remove_key : PlainObject → List ℕ → Result Content StoreError
remove_key object key =
    if is_named key then if_there object (λ c. with_omap c (removed_in c.omap key)) else Err Range

-- an exclusive creation wants no object there, another leaves the one that is
abbrev pub create : PlainObject → Bool → Result Content StoreError
create None exclusive = Ok nothing
create (Some c) exclusive = if exclusive then Err Exists else Ok c

-- the object is absent afterwards
abbrev pub remove : PlainObject → Result (Unit {0}) StoreError
remove object = if_there object (λ c. Ok tt)

-- ---- what a read copies into a buffer: how many bytes, and the buffer afterwards
abbrev pub count : Result (List ℕ) StoreError → Result ℕ StoreError
count (Ok bytes) = Ok (length bytes)
count (Err e) = Err e

-- the buffer afterwards; a refusal leaves it as it is
abbrev pub filled : Result (List ℕ) StoreError → List ℕ → List ℕ
filled (Ok bytes) buffer = overlaid bytes buffer
filled (Err e) buffer = buffer
