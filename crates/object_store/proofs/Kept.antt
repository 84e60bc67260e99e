-- Each change keeps the limits.
use Rattle.std.proofs.Common.{◌≡◌, ℕ, ◌+◌, ◌≤◌, Bool, true, false, not, ◌&&◌, List, Option, Some, None, Result, Ok, Err, length, refl, ap, sym, subst, ◌∙◌, arith, nat_lt}
use Rattle.std.specs.Prelude.{if◌then◌else◌, ◌==◌}
use Rattle.std.specs.Option.{ok_or}
use Rattle.std.specs.FinMap as fin
use Rattle.std.proofs.lemmas.Bool.{ltb-false}
use Rattle.object_store.specs.declared.limits.TheConstants.{DATA_LIMIT, XATTR_LIMIT, KEY_LIMIT, NAME_LIMIT, VALUE_LIMIT}
use Rattle.object_store.specs.declared.store_error.StoreError.{StoreError}
use Rattle.object_store.specs.declared.store_error.StoreError.TheVariants.{NoAttr}
use Rattle.object_store.specs.Object.{Attributes, Content, PlainObject, AreBytes, AreWithin, IsName, IsValue, IsContent, IsObject, nothing, content_of}
use Rattle.object_store.specs.Calls as calls
use Rattle.object_store.specs.Laws.{Keeps, Reads}
use Rattle.object_store.proofs.Bytes.{are_spliced, spliced_short, are_resized, are_part, some_bytes}
use Rattle.object_store.proofs.Flats.{length_resized}
use Rattle.object_store.proofs.Within.{none_within, after_set, after_removal}

module _ {X : Type 0} where
  same_ok : (a b : X) → ◌≡◌ {A = Result X StoreError} (Ok a) (Ok b) → a ≡ b
  same_ok a b e = cc

  no_ok : (d : StoreError) (b : X) → ◌≡◌ {A = Result X StoreError} (Err d) (Ok b) → ⊥
  no_ok d b e = cc

  -- what isn't refused by a test
  past : (b : Bool) (d : StoreError) (r : Result X StoreError) (x : X) → (if b then Err d else r) ≡ Ok x → (b ≡ false) × (r ≡ Ok x)
  past true d r x e = absurd (no_ok d x e)
  past false d r x e = (refl, e)

  named : (b : Bool) (d : StoreError) (r : Result X StoreError) (x : X) → (if b then r else Err d) ≡ Ok x → (b ≡ true) × (r ≡ Ok x)
  named true d r x e = (refl, e)
  named false d r x e = absurd (no_ok d x e)

  found : (o : PlainObject) (f : Content → Result X StoreError) (x : X) → calls.if_there o f ≡ Ok x → (c : Content) × (o ≡ Some c) × (f c ≡ Ok x)
  found None f x e = absurd (no_ok _ x e)
  found (Some c) f x e = (c, refl, e)

content_within : (o : PlainObject) → IsObject o → IsContent (content_of o)
content_within None h = record { length = omega arith; bytes = tt; xattrs = none_within XATTR_LIMIT; omap = none_within KEY_LIMIT }
content_within (Some c) h = h

within_some : (o : PlainObject) (c : Content) → IsObject o → o ≡ Some c → IsContent c
within_some o c h e = subst IsObject e h

le_from : (a b : ℕ) → nat_lt a b ≡ false → b ≤ a
le_from a b e = ltb-false a b e

is_name : (name : List ℕ) → AreBytes name → calls.is_named name ≡ true → IsName name
is_name name h e = by (length name == 0) (nat_lt NAME_LIMIT (length name)) refl refl e
  where
    by : (a b : Bool) → (length name == 0) ≡ a → nat_lt NAME_LIMIT (length name) ≡ b → (not a && not b) ≡ true → IsName name
    by true b p q f = absurd (cc)
    by false true p q f = absurd (cc)
    by false false p q f = (some_bytes name p, le_from _ _ q, h)

pub write_keeps : (at : ℕ) (text : List ℕ) → AreBytes text → Keeps (λ o. calls.write o at text)
write_keeps at text t o c h e =
    let p = past (nat_lt DATA_LIMIT (at + length text)) _ _ c e in
    let w = content_within o h in
    subst IsContent (same_ok _ c p.1) (record {
      length = spliced_short (content_of o).bytes at text DATA_LIMIT w.length (le_from _ _ p.0);
      bytes = are_spliced (content_of o).bytes at text w.bytes t;
      xattrs = w.xattrs;
      omap = w.omap;
    })

pub truncate_keeps : (len : ℕ) → Keeps (λ o. calls.truncate o len)
truncate_keeps len o c h e =
    let p = past (nat_lt DATA_LIMIT len) _ _ c e in
    let f = found o _ c p.1 in
    let w = within_some o f.0 h f.1 in
    subst IsContent (same_ok _ c f.2) (record {
      length = subst (λ n. n ≤ DATA_LIMIT) (sym (length_resized f.0.bytes len)) (le_from _ _ p.0);
      bytes = are_resized f.0.bytes len w.bytes;
      xattrs = w.xattrs;
      omap = w.omap;
    })

with_xattrs_is : (a c : Content) (r : Result Attributes StoreError) → calls.with_xattrs a r ≡ Ok c → (m : Attributes) × (r ≡ Ok m) × (record a { xattrs = m } ≡ c)
with_xattrs_is a c (Ok m) e = (m, refl, same_ok _ c e)
with_xattrs_is a c (Err d) e = absurd (no_ok d c e)

with_omap_is : (a c : Content) (r : Result Attributes StoreError) → calls.with_omap a r ≡ Ok c → (m : Attributes) × (r ≡ Ok m) × (record a { omap = m } ≡ c)
with_omap_is a c (Ok m) e = (m, refl, same_ok _ c e)
with_omap_is a c (Err d) e = absurd (no_ok d c e)

with_xattrs_within : (a c : Content) (m : Attributes) → IsContent a → AreWithin XATTR_LIMIT m → record a { xattrs = m } ≡ c → IsContent c
with_xattrs_within a c m w k e = subst IsContent e (record { length = w.length; bytes = w.bytes; xattrs = k; omap = w.omap })

with_omap_within : (a c : Content) (m : Attributes) → IsContent a → AreWithin KEY_LIMIT m → record a { omap = m } ≡ c → IsContent c
with_omap_within a c m w k e = subst IsContent e (record { length = w.length; bytes = w.bytes; xattrs = w.xattrs; omap = k })

pub set_xattr_keeps : (name value : List ℕ) → AreBytes name → AreBytes value → Keeps (λ o. calls.set_xattr o name value)
set_xattr_keeps name value n v o c h e =
    let p = named (calls.is_named name) _ _ c e in
    let q = past (nat_lt VALUE_LIMIT (length value)) _ _ c p.1 in
    let w = content_within o h in
    let r = with_xattrs_is (content_of o) c _ q.1 in
    with_xattrs_within (content_of o) c r.0 w
    (after_set XATTR_LIMIT (content_of o).xattrs name value (Ok (tt {0})) r.0 r.1 tt w.xattrs (is_name name n p.0) (le_from _ _ q.0, v)) r.2

pub set_key_keeps : (name value : List ℕ) → AreBytes name → AreBytes value → Keeps (λ o. calls.set_key o name value)
set_key_keeps name value n v o c h e =
    let p = named (calls.is_named name) _ _ c e in
    let q = past (nat_lt VALUE_LIMIT (length value)) _ _ c p.1 in
    let w = content_within o h in
    let r = with_omap_is (content_of o) c _ q.1 in
    with_omap_within (content_of o) c r.0 w
    (after_set KEY_LIMIT (content_of o).omap name value (Ok (tt {0})) r.0 r.1 tt w.omap (is_name name n p.0) (le_from _ _ q.0, v)) r.2

pub remove_xattr_keeps : (name : List ℕ) → Keeps (λ o. calls.remove_xattr o name)
remove_xattr_keeps name o c h e =
    let p = named (calls.is_named name) _ _ c e in
    let f = found o _ c p.1 in
    let w = within_some o f.0 h f.1 in
    let r = with_xattrs_is f.0 c _ f.2 in
    with_xattrs_within f.0 c r.0 w (after_removal XATTR_LIMIT f.0.xattrs name name (Ok (tt {0})) r.0 r.1 tt w.xattrs) r.2

pub remove_key_keeps : (name : List ℕ) → Keeps (λ o. calls.remove_key o name)
remove_key_keeps name o c h e =
    let p = named (calls.is_named name) _ _ c e in
    let f = found o _ c p.1 in
    let w = within_some o f.0 h f.1 in
    let r = with_omap_is f.0 c _ f.2 in
    with_omap_within f.0 c r.0 w (after_removal KEY_LIMIT f.0.omap name name (Ok (tt {0})) r.0 r.1 tt w.omap) r.2

pub create_keeps : (exclusive : Bool) → Keeps (λ o. calls.create o exclusive)
create_keeps exclusive None c h e = subst IsContent (same_ok nothing c e) (content_within None tt)
create_keeps exclusive (Some a) c h e = subst IsContent (same_ok a c (past exclusive _ _ c e).1) h

-- ---- reads
pub read_bytes : (at n : ℕ) → Reads (λ o. calls.read o at n) AreBytes
read_bytes at n o bytes h e =
    let f = found o _ bytes e in
    subst AreBytes (same_ok _ bytes f.2) (are_part f.0.bytes at n (within_some o f.0 h f.1).bytes)

value_found : (m : Attributes) (name value : List ℕ) → calls.value_in m name ≡ Ok value → fin.get m name ≡ Some value
value_found m name value e = by (fin.get m name) refl e
  where
    by : (r : Option (List ℕ)) → fin.get m name ≡ r → ok_or r NoAttr ≡ Ok value → fin.get m name ≡ Some value
    by None q f = absurd (no_ok _ value f)
    by (Some x) q f = q ∙ ap (λ y. Some y) (same_ok x value f)

pub xattr_value : (name : List ℕ) → Reads (λ o. calls.get_xattr o name) IsValue
xattr_value name o value h e =
    let f = found o _ value (named (calls.is_named name) _ _ value e).1 in
    ((within_some o f.0 h f.1).xattrs.each name value (value_found f.0.xattrs name value f.2)).1

pub key_value : (name : List ℕ) → Reads (λ o. calls.get_key o name) IsValue
key_value name o value h e =
    let f = found o _ value (named (calls.is_named name) _ _ value e).1 in
    ((within_some o f.0 h f.1).omap.each name value (value_found f.0.omap name value f.2)).1
