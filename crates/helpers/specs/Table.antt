-- The helpers, one row each: what it takes and what it does. If a row names several conditions
-- they are tried in the order in which they stand. Numbers are whole numbers: nothing wraps. The
-- limits of data, of names and of their number are the host's.
use Rattle.std.specs.Prelude.{ℕ, ◌+◌, ◌-◌, ◌^◌, ◌==◌, List, [], ◌∷◌, Option, Some, None, true, false, if◌then◌else◌}
use Rattle.std.specs.Prelude.{not, nat_lt, length}
use Rattle.std.specs.Option.{option_map}
use Rattle.std.specs.FinMap as fin
use Rattle.std.specs.Ordering.{nat_cmp}
use Rattle.std.specs.Cmp.Lexicographic.{slice_cmp}
use Rattle.std.specs.declared.cmp.Ordering.{Ordering}
use Rattle.std.specs.declared.cmp.Ordering.TheVariants.{Less, Equal, Greater}
use Rattle.shared_map.specs.Entries.{key_above}
use Rattle.object_store.specs.Object.{Attributes, Content, PlainObject, nothing, content_of, part, spliced, resized}
use Rattle.object_store.specs.declared.limits.Limits.{Limits}
use Rattle.object_store.specs.declared.limits.TheConstants.{VALUE_LIMIT}
use Rattle.object_store.specs.Calls.{is_named_within}
use Rattle.helpers.specs.declared.errno.TheConstants.{EEXIST, EINVAL, EFBIG, ENOSPC, ERANGE, ENODATA}
use Rattle.helpers.specs.declared.helper.Helper.{Helper}
use Rattle.helpers.specs.declared.helper.Helper.TheVariants.{Stat, Read, Write, Truncate, Remove, GetXattr, SetXattr}
use Rattle.helpers.specs.declared.helper.Helper.TheVariants.{RmXattr, MapGet, MapSet, MapRm, MapNext, OutLen, Create}
use Rattle.helpers.specs.declared.helper.Helper.TheVariants.{Caller, Compare, Copy, XattrNext}
use Rattle.helpers.specs.declared.argument.Argument.{Argument}
use Rattle.helpers.specs.declared.argument.Argument.TheVariants.{Number, OutputLength, Readable, Writable}
use Rattle.helpers.specs.Effect.{Takes, Given, number, text, Answer, gives, refuses, copies, where_present, Effect}
use Rattle.helpers.specs.Effect.{leaves, refused, changes, on_present, is_full}

-- stat: the length of the data
abbrev pub stat_answer : PlainObject → Answer
stat_answer object = where_present object (λ o. gives (length o.bytes))

-- read: copies the bytes from a place on that exist, at most as many as there is room for; answers
-- their count
abbrev pub read_answer : PlainObject → ℕ → ℕ → Answer
read_answer object at room = where_present object (λ o. copies (part o.bytes at room))

-- write: refused if it would pass the limit; creates an absent object, zeros fill a gap, and no
-- bytes leave the data as it is; answers how many bytes it wrote
abbrev pub write_effect : Limits → PlainObject → ℕ → List ℕ → Effect
write_effect limits object at bytes =
    if nat_lt limits.bytes (at + length bytes) then refused EFBIG object else
    changes (Some (record (content_of object) { bytes = spliced (content_of object).bytes at bytes })) (length bytes)

-- truncate: refused past the limit, then if the object is absent; cuts the data or extends it
-- with zeros
abbrev pub truncate_effect : Limits → PlainObject → ℕ → Effect
truncate_effect limits object size =
    if nat_lt limits.bytes size then refused EFBIG object else
    on_present object (λ o. changes (Some (record o { bytes = resized o.bytes size })) 0)

-- remove: data, xattrs and omap go
abbrev pub remove_effect : PlainObject → Effect
remove_effect object = on_present object (λ o. changes None 0)

-- copy: refused if there is too little room; copies the bytes and answers their count
abbrev pub copy_answer : List ℕ → ℕ → Answer
copy_answer bytes room = if nat_lt room (length bytes) then refuses ERANGE else copies bytes

-- a value or a key that is looked up: refused if there is none; copies it
abbrev pub found_answer : Option (List ℕ) → ℕ → Answer
found_answer None room = refuses ENODATA
found_answer (Some bytes) room = copy_answer bytes room

-- getxattr: refused if the name is none, then if the object is absent
abbrev pub getxattr_answer : Limits → PlainObject → List ℕ → ℕ → Answer
getxattr_answer limits object name room =
    if not (is_named_within limits.xattrs.length name) then refuses EINVAL else
    where_present object (λ o. found_answer (fin.get o.xattrs name) room)

-- setxattr: refused if the name is none, then if the value is too long, then if the name
-- is new and past the limit; creates an absent object
abbrev pub setxattr_effect : Limits → PlainObject → List ℕ → List ℕ → Effect
setxattr_effect limits object name value =
    if not (is_named_within limits.xattrs.length name) then refused EINVAL object else
    if nat_lt VALUE_LIMIT (length value) then refused EFBIG object else
    if is_full limits.xattrs.count (content_of object).xattrs name then refused ENOSPC object else
    changes (Some (record (content_of object) { xattrs = fin.insert (content_of object).xattrs name value })) 0

-- rmxattr: refused if the name is none, then if the object is absent, then if it has no
-- such xattr
abbrev pub rmxattr_effect : Limits → PlainObject → List ℕ → Effect
rmxattr_effect limits object name =
    if not (is_named_within limits.xattrs.length name) then refused EINVAL object else
    on_present object (λ o. if not (fin.contains_key o.xattrs name) then refused ENODATA (Some o) else
    changes (Some (record o { xattrs = fin.remove o.xattrs name })) 0)

-- map_get: as getxattr, on the omap
abbrev pub map_get_answer : Limits → PlainObject → List ℕ → ℕ → Answer
map_get_answer limits object key room =
    if not (is_named_within limits.keys.length key) then refuses EINVAL else
    where_present object (λ o. found_answer (fin.get o.omap key) room)

-- map_set: as setxattr, on the omap with its limit
abbrev pub map_set_effect : Limits → PlainObject → List ℕ → List ℕ → Effect
map_set_effect limits object key value =
    if not (is_named_within limits.keys.length key) then refused EINVAL object else
    if nat_lt VALUE_LIMIT (length value) then refused EFBIG object else
    if is_full limits.keys.count (content_of object).omap key then refused ENOSPC object else
    changes (Some (record (content_of object) { omap = fin.insert (content_of object).omap key value })) 0

-- map_rm: as rmxattr, on the omap
abbrev pub map_rm_effect : Limits → PlainObject → List ℕ → Effect
map_rm_effect limits object key =
    if not (is_named_within limits.keys.length key) then refused EINVAL object else
    on_present object (λ o. if not (fin.contains_key o.omap key) then refused ENODATA (Some o) else
    changes (Some (record o { omap = fin.remove o.omap key })) 0)

-- the least name above the given bytes, which are no name if they are none; refused if these
-- are too many, then if the object is absent
abbrev pub next_answer : ℕ → (Content → Attributes) → PlainObject → List ℕ → ℕ → Answer
next_answer most names object name room =
    if nat_lt most (length name) then refuses EINVAL else
    where_present object (λ o. found_answer (key_above (names o) name) room)

-- map_next: the next key of the omap
abbrev pub map_next_answer : Limits → PlainObject → List ℕ → ℕ → Answer
map_next_answer limits object key room = next_answer limits.keys.length (λ o. o.omap) object key room

-- out_len: that many bytes of the output region are output
abbrev pub out_len_effect : PlainObject → ℕ → Effect
out_len_effect object n = record { answer = 0; bytes = []; object = object; out_len = Some n }

-- create: creates an absent object; refused if it is there and is to be new
abbrev pub create_effect : PlainObject → ℕ → Effect
create_effect None exclusive = changes (Some nothing) 0
create_effect (Some o) exclusive = if exclusive == 0 then changes (Some o) 0 else refused EEXIST (Some o)

-- compare: 1 less, as a register holds it, equal, or 1 more
abbrev pub order_answer : Ordering → Answer
order_answer Less = gives (2 ^ 64 - 1)
order_answer Equal = gives 0
order_answer Greater = gives 1

-- by bytes, which are numbers from 0 to 255; a proper beginning is below
abbrev pub compare_answer : List ℕ → List ℕ → Answer
compare_answer left right = order_answer (slice_cmp nat_cmp left right)

-- xattr_next: as map_next, on the xattrs
abbrev pub xattr_next_answer : Limits → PlainObject → List ℕ → ℕ → Answer
xattr_next_answer limits object name room = next_answer limits.xattrs.length (λ o. o.xattrs) object name room

-- what a helper takes, whether it may change the object, and what it does
pub record Row : Type 0 where
  pub takes : Takes
  pub effect : PlainObject → Given → Effect

-- a helper that only reads the object, and one that may change it
abbrev pub reads : List Argument → (PlainObject → Given → Effect) → Row
reads arguments effect = record { takes = record { arguments = arguments; writes = false }; effect = effect }

abbrev pub writes : List Argument → (PlainObject → Given → Effect) → Row
writes arguments effect = record { takes = record { arguments = arguments; writes = true }; effect = effect }

-- the table
abbrev pub row : Helper → Row
row Stat = reads [] (λ object g. leaves object (stat_answer object))
row Read = reads (Number ∷ Writable ∷ []) (λ object g. leaves object (read_answer object (number g 0) g.room))
row Write = writes (Number ∷ Readable ∷ []) (λ object g. write_effect g.limits object (number g 0) (text g 0))
row Truncate = writes (Number ∷ []) (λ object g. truncate_effect g.limits object (number g 0))
row Remove = writes [] (λ object g. remove_effect object)
row GetXattr =
    reads (Readable ∷ Writable ∷ []) (λ object g. leaves object (getxattr_answer g.limits object (text g 0) g.room))
row SetXattr = writes (Readable ∷ Readable ∷ []) (λ object g. setxattr_effect g.limits object (text g 0) (text g 1))
row RmXattr = writes (Readable ∷ []) (λ object g. rmxattr_effect g.limits object (text g 0))
row MapGet =
    reads (Readable ∷ Writable ∷ []) (λ object g. leaves object (map_get_answer g.limits object (text g 0) g.room))
row MapSet = writes (Readable ∷ Readable ∷ []) (λ object g. map_set_effect g.limits object (text g 0) (text g 1))
row MapRm = writes (Readable ∷ []) (λ object g. map_rm_effect g.limits object (text g 0))
row MapNext =
    reads (Readable ∷ Writable ∷ []) (λ object g. leaves object (map_next_answer g.limits object (text g 0) g.room))
row OutLen = reads (OutputLength ∷ []) (λ object g. out_len_effect object (number g 0))
row Create = writes (Number ∷ []) (λ object g. create_effect object (number g 0))
row Caller = reads [] (λ object g. leaves object (gives g.caller))
row Compare = reads (Readable ∷ Readable ∷ []) (λ object g. leaves object (compare_answer (text g 0) (text g 1)))
row Copy = reads (Writable ∷ Readable ∷ []) (λ object g. leaves object (copy_answer (text g 0) g.room))
row XattrNext =
    reads (Readable ∷ Writable ∷ []) (λ object g. leaves object (xattr_next_answer g.limits object (text g 0) g.room))

-- the helpers by id
abbrev pub helper_of : ℕ → Option Helper
helper_of id =
    if id == 1 then Some Stat else
    if id == 2 then Some Read else
    if id == 3 then Some Write else
    if id == 4 then Some Truncate else
    if id == 5 then Some Remove else
    if id == 6 then Some GetXattr else
    if id == 7 then Some SetXattr else
    if id == 8 then Some RmXattr else
    if id == 9 then Some MapGet else
    if id == 10 then Some MapSet else
    if id == 11 then Some MapRm else
    if id == 12 then Some MapNext else
    if id == 13 then Some OutLen else
    if id == 14 then Some Create else
    if id == 15 then Some Caller else
    if id == 16 then Some Compare else
    if id == 17 then Some Copy else
    if id == 18 then Some XattrNext else None

-- what the helper of an id takes; none if no helper has that id
abbrev pub signature_of : ℕ → Option Takes
signature_of id = option_map (λ h. (row h).takes) (helper_of id)

-- what a helper does; none does nothing
abbrev pub effect_of : Option Helper → PlainObject → Given → Effect
effect_of None object g = leaves object (gives 0)
effect_of (Some h) object g = (row h).effect object g

-- what the helper of an id does
abbrev pub effect : ℕ → PlainObject → Given → Effect
effect id object g = effect_of (helper_of id) object g
