-- A flat form is read as its object, so equal flat forms are of equal objects.
use Rattle.std.proofs.Common.{◌≡◌, ◌∙◌, ℕ, suc, ◌+◌, ◌<◌, ◌≤◌, Bool, true, false, List, [], ◌∷◌, ◌++◌, Some, None, Result, Ok, Err, is_some, refl, ap, sym, subst, arith, length, append_assoc, drop}
use Rattle.std.specs.Prelude.{T, slice_get, if◌then◌else◌, nat_lt, ◌==◌, not, ◌&&◌}
use Rattle.std.specs.List.{flat_map}
use Rattle.std.specs.FinMap as fin
use Rattle.std.specs.FinMap.{is_sorted}
use Rattle.std.specs.FinMap.Entries.{below_all}
use Rattle.std.proofs.lemmas.Bool.{le-ltb, ne_eqb}
use Rattle.std.proofs.lemmas.List.{append-nil, drop_all}
use Rattle.byteorder.specs.Endian.{little_bytes}
use Rattle.bpf_decode.specs.Reading.{◌>>=◌, checked}
use Rattle.object_store.specs.declared.limits.TheConstants.{DATA_LIMIT, XATTR_LIMIT, KEY_LIMIT, NAME_LIMIT, VALUE_LIMIT}
use Rattle.object_store.specs.declared.store_error.StoreError.{StoreError}
use Rattle.object_store.specs.declared.store_error.StoreError.TheVariants.{TooBig, Range}
use Rattle.object_store.specs.Object.{Attributes, Content, PlainObject, IsName, IsValue, IsContent, IsObject, AreWithin, nothing, spliced}
use Rattle.object_store.specs.Calls as calls
use Rattle.object_bytes.specs.declared.flat.FlatError.{FlatError}
use Rattle.object_bytes.specs.declared.flat.FlatError.TheVariants.{Malformed}
use Rattle.object_bytes.specs.declared.part.Part.{Part}
use Rattle.object_bytes.specs.declared.part.Part.TheVariants.{Xattrs, Keys}
use Rattle.object_bytes.specs.Part.{names, IsShort}
use Rattle.object_bytes.specs.Flat.{entry_bytes, entries_bytes, content_bytes, flat}
use Rattle.object_bytes.specs.Reading.{stored, set_in, rises, entries_at, part_at, data_at, content_at, object_at, bytes_at, there}
use Rattle.std.proofs.lemmas.Option.{none-some}
use Rattle.object_bytes.proofs.Entries.{R, Rows, first as before, second as after, got_at}
use Rattle.object_bytes.proofs.Maps.{AreAmong, fewer_among, among_set, among_empty, set_fits, inserted, inserted_all}
use Rattle.object_bytes.proofs.Fields.{entry_again, number_again_2, number_again_4, bytes_again}

-- ---- a set of an entry that is within the limits, into names among those of a map within the
-- limits

abbrev pub with_names : Part → Content → Attributes → Content
with_names Xattrs c m = record c { xattrs = m }
with_names Keys c m = record c { omap = m }

abbrev pub most_of : Part → ℕ
most_of Xattrs = XATTR_LIMIT
most_of Keys = KEY_LIMIT

-- an entry within the limits
pub record IsEntry (e : List ℕ × List ℕ) : Type 0 where
  pub name : IsName e.0
  pub value : IsValue e.1

pub named_is : (name : List ℕ) → IsName name → calls.is_named name ≡ true
named_is [] h = absurd (omega (arith, h.0))
named_is (b ∷ bs) h =
    let some : (length (b ∷ bs) == 0) ≡ false = ne_eqb (length (b ∷ bs)) 0 (λ e. absurd (omega (arith, e))) in
    let few : nat_lt NAME_LIMIT (length (b ∷ bs)) ≡ false = le-ltb NAME_LIMIT (length (b ∷ bs)) h.1 in
    ap (λ (t : Bool). not t && not (nat_lt NAME_LIMIT (length (b ∷ bs)))) some ∙ ap (λ (t : Bool). true && not t) few

short_is : (value : List ℕ) → IsValue value → nat_lt VALUE_LIMIT (length value) ≡ false
short_is value h = le-ltb VALUE_LIMIT (length value) h.0

abbrev Made : Type 0
Made = Result Content StoreError

pub set_xattr_is : (c : Content) (k v : List ℕ) → IsName k → IsValue v → fin.len (fin.insert c.xattrs k v) ≤ XATTR_LIMIT → calls.set_xattr (Some c) k v ≡ Ok (record c { xattrs = fin.insert c.xattrs k v })
set_xattr_is c k v name value fits =
    let inner : Made = calls.with_xattrs c (calls.set_in XATTR_LIMIT c.xattrs k v) in
    ap (λ (b : Bool). if b then (if nat_lt VALUE_LIMIT (length v) then Err TooBig else inner) else Err Range) (named_is k name)
    ∙ ap (λ (b : Bool). if b then Err TooBig else inner) (short_is v value)
    ∙ ap (calls.with_xattrs c) (set_fits XATTR_LIMIT c.xattrs k v fits)

pub set_key_is : (c : Content) (k v : List ℕ) → IsName k → IsValue v → fin.len (fin.insert c.omap k v) ≤ KEY_LIMIT → calls.set_key (Some c) k v ≡ Ok (record c { omap = fin.insert c.omap k v })
set_key_is c k v name value fits =
    let inner : Made = calls.with_omap c (calls.set_in KEY_LIMIT c.omap k v) in
    ap (λ (b : Bool). if b then (if nat_lt VALUE_LIMIT (length v) then Err TooBig else inner) else Err Range) (named_is k name)
    ∙ ap (λ (b : Bool). if b then Err TooBig else inner) (short_is v value)
    ∙ ap (calls.with_omap c) (set_fits KEY_LIMIT c.omap k v fits)

set_again : (part : Part) (c : Content) (e : List ℕ × List ℕ) → IsEntry e → fin.len (fin.insert (names part c) e.0 e.1) ≤ most_of part → set_in part c e ≡ Ok (with_names part c (fin.insert (names part c) e.0 e.1))
set_again Xattrs c e h fits = ap stored (set_xattr_is c e.0 e.1 h.name h.value fits)
set_again Keys c e h fits = ap stored (set_key_is c e.0 e.1 h.name h.value fits)

-- ---- all entries

-- entries that a map has
pub record AreOf (n : Attributes) (es : Rows) : Type 0 where
  pub got : (k : ℕ) (e : List ℕ × List ℕ) → slice_get es k ≡ Some e → (fin.get n e.0 ≡ Some e.1) × IsEntry e

pub rest_of : (n : Attributes) (e : List ℕ × List ℕ) (es : Rows) → AreOf n (e ∷ es) → AreOf n es
rest_of n e es h = record { got = λ k f at. h.got (suc k) f at }

pub all_of : (most : ℕ) (m : Attributes) → AreWithin most m → AreOf m (fin.entries m)
all_of most m h = record { got = λ k e at. let got = got_at m k e at in let w = h.each e.0 e.1 got in (got, record { name = w.0; value = w.1 }) }

entry_short : (e : List ℕ × List ℕ) → IsEntry e → IsShort e
entry_short e h = record { name = omega (arith, h.name.1); value = omega (arith, h.value.0) }

pub with_same : (part : Part) (c : Content) → with_names part c (names part c) ≡ c
with_same Xattrs c = refl
with_same Keys c = refl

pub with_twice : (part : Part) (c : Content) (m n : Attributes) → with_names part (with_names part c m) n ≡ with_names part c n
with_twice Xattrs c m n = refl
with_twice Keys c m n = refl

pub names_with : (part : Part) (c : Content) (m : Attributes) → names part (with_names part c m) ≡ m
names_with Xattrs c m = refl
names_with Keys c m = refl

abbrev Read : Type 0
Read = Result (Content × List ℕ) FlatError

true_is : (b : Bool) → T b → b ≡ true
true_is true p = refl
true_is false p = absurd p

entries_again : (part : Part) (n : Attributes) (last : List ℕ) (es : Rows) (m : Attributes) (c : Content) (rest : List ℕ) → fin.len n ≤ most_of part → AreOf n es → AreAmong m n → T (below_all R last es) → T (is_sorted R es)
    → entries_at part (length es) last (with_names part c m) (flat_map entry_bytes es ++ rest) ≡ Ok (with_names part c (inserted m es), rest)
unfolding entries_at
entries_again part n last [] m c rest most h among above sorted = refl
entries_again part n last (e ∷ es) m c rest most h among above sorted =
    let first = h.got 0 e refl in
    let grown : AreAmong (fin.insert m e.0 e.1) n = among_set m n e.0 e.1 among (ap is_some first.0) in
    let fits : fin.len (fin.insert m e.0 e.1) ≤ most_of part = omega (arith, fewer_among (fin.insert m e.0 e.1) n grown, most) in
    let here = with_names part c m in
    let fits_here : fin.len (fin.insert (names part here) e.0 e.1) ≤ most_of part = subst (λ (x : Attributes). fin.len (fin.insert x e.0 e.1) ≤ most_of part) (sym (names_with part c m)) fits in
    let set : set_in part here e ≡ Ok (with_names part c (fin.insert m e.0 e.1)) = set_again part here e first.1 fits_here ∙ ap (λ (x : Attributes). Ok (with_names part here (fin.insert x e.0 e.1))) (names_with part c m) ∙ ap (λ (x : Content). Ok x) (with_twice part c m (fin.insert m e.0 e.1)) in
    let behind = flat_map entry_bytes es ++ rest in
    let behind_last : rises last e.0 ≡ true = true_is (rises last e.0) (before _ _ above) in
    ap (λ (bytes : List ℕ). entries_at part (suc (length es)) last here bytes) (append_assoc (entry_bytes e) (flat_map entry_bytes es) rest)
    ∙ ap (λ (r : Result ((List ℕ × List ℕ) × List ℕ) FlatError). r >>= λ x. checked (rises last x.0.0) Malformed x.0 >>= λ f. set_in part here f >>= λ more. entries_at part (length es) f.0 more x.1) (entry_again e behind (entry_short e first.1))
    ∙ ap (λ (b : Bool). checked b Malformed e >>= λ f. set_in part here f >>= λ more. entries_at part (length es) f.0 more behind) behind_last
    ∙ ap (λ (r : Result Content FlatError). r >>= λ more. entries_at part (length es) e.0 more behind) set
    ∙ entries_again part n e.0 es (fin.insert m e.0 e.1) c rest most (rest_of n e es h) grown (before _ _ sorted) (after _ _ sorted)

-- names of one byte or more are behind the empty one
above_empty : (n : Attributes) (es : Rows) → AreOf n es → T (below_all R [] es)
above_empty n [] h = tt
above_empty n (e ∷ es) h = both_true _ _ (is_behind e.0 (h.got 0 e refl).1.name) (above_empty n es (rest_of n e es h))
  where
    is_behind : (name : List ℕ) → IsName name → T (rises [] name)
    is_behind [] g = absurd (omega (arith, g.0))
    is_behind (b ∷ bs) g = tt

    both_true : (a b : Bool) → T a → T b → T (a && b)
    both_true true b p q = q
    both_true false b p q = absurd p

most_fits : (part : Part) → most_of part < 65536
most_fits Xattrs = omega arith
most_fits Keys = omega arith

-- ---- a part

part_again : (part : Part) (n : Attributes) (c : Content) (rest : List ℕ) → AreWithin (most_of part) n → names part c ≡ fin.empty → part_at part c (entries_bytes n ++ rest) ≡ Ok (with_names part c n, rest)
unfolding part_at
part_again part n c rest h none =
    let lines = flat_map entry_bytes (fin.entries n) in
    let few : fin.len n < 65536 = omega (arith, h.number, most_fits part) in
    let start : with_names part c fin.empty ≡ c = ap (with_names part c) (sym none) ∙ with_same part c in
    ap (part_at part c) (append_assoc (little_bytes 2 (fin.len n)) lines rest)
    ∙ ap (λ (r : Result (ℕ × List ℕ) FlatError). r >>= λ x. entries_at part x.0 [] c x.1) (number_again_2 (fin.len n) (lines ++ rest) few)
    ∙ ap (λ (k : ℕ). entries_at part k [] c (lines ++ rest)) (fin.len-entries n)
    ∙ ap (λ (x : Content). entries_at part (length (fin.entries n)) [] x (lines ++ rest)) (sym start)
    ∙ entries_again part n [] (fin.entries n) fin.empty c rest h.number (all_of (most_of part) n h) (among_empty n) (above_empty n (fin.entries n) (all_of (most_of part) n h)) (fin.entries_sorted n)
    ∙ ap (λ (m : Attributes). Ok (with_names part c m, rest)) (inserted_all n)

-- ---- data

pub spliced_whole : (text : List ℕ) → spliced [] 0 text ≡ text
spliced_whole [] = refl
spliced_whole (b ∷ text) =
    let whole = b ∷ text in
    let some : (length whole == 0) ≡ false = ne_eqb (length whole) 0 (λ e. absurd (omega (arith, e))) in
    ap (λ (t : Bool). if t then [] else whole ++ drop (0 + length whole) []) some ∙ ap (λ (more : List ℕ). whole ++ more) (drop_all (0 + length whole) [] (omega arith)) ∙ append-nil whole

write_is : (text : List ℕ) → length text ≤ DATA_LIMIT → calls.write None 0 text ≡ Ok (record nothing { bytes = text })
write_is text h =
    let made : Made = Ok (record nothing { bytes = spliced [] 0 text }) in
    let fits : nat_lt DATA_LIMIT (0 + length text) ≡ false = le-ltb DATA_LIMIT (0 + length text) (omega (arith, h)) in
    ap (λ (b : Bool). if b then Err TooBig else made) fits ∙ ap (λ (bytes : List ℕ). Ok (record nothing { bytes = bytes })) (spliced_whole text)

data_again : (text rest : List ℕ) → length text ≤ DATA_LIMIT → data_at (little_bytes 4 (length text) ++ (text ++ rest)) ≡ Ok (record nothing { bytes = text }, rest)
unfolding data_at
data_again text rest h =
    ap (λ (r : Result (ℕ × List ℕ) FlatError). r >>= λ n. bytes_at n.0 n.1 >>= λ t. stored (calls.write None 0 t.0) >>= λ c. Ok (c, t.1)) (number_again_4 (length text) (text ++ rest) (omega (arith, h)))
    ∙ ap (λ (r : Result (List ℕ × List ℕ) FlatError). r >>= λ t. stored (calls.write None 0 t.0) >>= λ c. Ok (c, t.1)) (bytes_again text rest)
    ∙ ap (λ (r : Made). stored r >>= λ c. Ok (c, rest)) (write_is text h)

-- ---- an object

content_again : (c : Content) → IsContent c → content_at (content_bytes c) ≡ Ok c
unfolding content_at
content_again c h =
    let xattrs = entries_bytes c.xattrs in
    let keys = entries_bytes c.omap in
    let shape : content_bytes c ≡ little_bytes 4 (length c.bytes) ++ (c.bytes ++ (xattrs ++ (keys ++ []))) = simp (append_assoc, append-nil) in
    let c1 : Content = record nothing { bytes = c.bytes } in
    let c2 : Content = record c1 { xattrs = c.xattrs } in
    ap content_at shape
    ∙ ap (λ (r : Read). r >>= λ t. part_at Xattrs t.0 t.1 >>= λ x. part_at Keys x.0 x.1 >>= λ k. checked (length k.1 == 0) Malformed k.0) (data_again c.bytes (xattrs ++ (keys ++ [])) h.length)
    ∙ ap (λ (r : Read). r >>= λ x. part_at Keys x.0 x.1 >>= λ k. checked (length k.1 == 0) Malformed k.0) (part_again Xattrs c.xattrs c1 (keys ++ []) h.xattrs refl)
    ∙ ap (λ (r : Read). r >>= λ k. checked (length k.1 == 0) Malformed k.0) (part_again Keys c.omap c2 [] h.omap refl)

pub object_again : (o : PlainObject) → IsObject o → object_at (flat o) ≡ Ok o
unfolding object_at
object_again None h = refl
object_again (Some c) h = ap there (content_again c h)

ok_is : (o p : PlainObject) → ◌≡◌ {A = Result PlainObject FlatError} (Ok o) (Ok p) → o ≡ p
ok_is o p e = cc

-- equal flat forms are of equal objects
pub one_object : (o p : PlainObject) → IsObject o → IsObject p → flat o ≡ flat p → o ≡ p
one_object o p g h e = ok_is o p (sym (object_again o g) ∙ ap object_at e ∙ object_again p h)

-- what was read is the object of the flat form
pub read_is : (bytes : List ℕ) (o p : PlainObject) → object_at bytes ≡ Ok o → IsObject p → flat p ≡ bytes → o ≡ p
read_is bytes o p read h e = ok_is o p (sym read ∙ ap object_at (sym e) ∙ object_again p h)

refused_not : (o : PlainObject) (e : FlatError) → ◌≡◌ {A = Result PlainObject FlatError} (Err e) (Ok o) → ⊥
refused_not o e h = cc

-- a flat form is not refused
pub never_refused : (bytes : List ℕ) (e : FlatError) (p : PlainObject) → object_at bytes ≡ Err e → IsObject p → flat p ≡ bytes → ⊥
never_refused bytes e p read h is = refused_not p e (sym read ∙ ap object_at (sym is) ∙ object_again p h)

-- an object that was just created
none_within : (most : ℕ) → AreWithin most fin.empty
none_within most = record { number = omega (arith, fin.len-empty R (List ℕ)); each = λ q x e. absurd (none-some x (sym (fin.get-empty R q) ∙ e)) }

pub nothing_is : IsContent nothing
nothing_is = record { length = omega arith; bytes = tt; xattrs = none_within XATTR_LIMIT; omap = none_within KEY_LIMIT }
