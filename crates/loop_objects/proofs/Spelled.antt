-- A list of edits that makes an object of another is read and made edit by edit.
use Rattle.std.proofs.Common.{◌≡◌, ◌∙◌, ℕ, ◌+◌, ◌<◌, ◌≤◌, Bool, true, false, List, [], ◌∷◌, ◌++◌, Option, Some, None, Result, Ok, Err, refl, ap, sym, subst, arith, suc, length}
use Rattle.std.specs.Prelude.{◌==◌, ◌&&◌, nat_lt, not, if◌then◌else◌}
use Rattle.std.proofs.lemmas.Bool.Decides.{leb_tells}
use Rattle.object_store.specs.declared.limits.TheConstants.{DATA_LIMIT, NAME_LIMIT, VALUE_LIMIT}
use Rattle.object_store.specs.declared.store_error.StoreError.{StoreError}
use Rattle.object_store.specs.declared.store_error.StoreError.TheVariants as store
use Rattle.object_store.specs.Calls as calls
use Rattle.object_store.specs.Calls.{is_named}
use Rattle.object_store.specs.Object.{Content, PlainObject, content_of, spliced}
use Rattle.part_bytes.proofs.Exact.{some_is}
use Rattle.txn.specs.Edits.{Edit, Create, Remove, SetXattr, RemoveXattr, SetKey, RemoveKey, SetLength, Write, edit_bytes, spelled, there, and_then, edited, all_edited}
use Rattle.edit_bytes.specs.Reading.{edit_at}
use Rattle.edit_bytes.proofs.Spelled.{Fits, edit_again, some_byte}
use Rattle.loop_objects.specs.inner.Making.{Makes}

-- ---- the fields of an edit that isn't refused fit
at_most : (m n : ℕ) → nat_lt m n ≡ false → n ≤ m
at_most m n e = grind (arith, leb_tells (suc m) n)

long_not : (a b : Bool) → (not a && not b) ≡ true → b ≡ false
long_not true b e = absurd cc
long_not false true e = absurd cc
long_not false false e = cc

short_name : (name : List ℕ) → is_named name ≡ true → length name < 65536
short_name name e =
    let most = at_most NAME_LIMIT (length name) (long_not (length name == 0) (nat_lt NAME_LIMIT (length name)) e) in
    omega (arith, most)

short_value : (value : List ℕ) → nat_lt VALUE_LIMIT (length value) ≡ false → length value < 65536
short_value value e =
    let most = at_most VALUE_LIMIT (length value) e in
    omega (arith, most)

named_not : (b : Bool) (r : Result Content StoreError) (o : PlainObject) → there (if b then r else Err store.Range) ≡ Ok o → b ≡ true
named_not true r o e = refl
named_not false r o e = absurd cc

set_not : (a b : Bool) (r : Result Content StoreError) (o : PlainObject) → there (if a then if b then Err store.TooBig else r else Err store.Range) ≡ Ok o → (a ≡ true) × (b ≡ false)
set_not true true r o e = absurd cc
set_not true false r o e = (refl, refl)
set_not false b r o e = absurd cc

big_not : (b : Bool) (r : Result Content StoreError) (o : PlainObject) → there (if b then Err store.TooBig else r) ≡ Ok o → b ≡ false
big_not true r o e = absurd cc
big_not false r o e = refl

fits : (e : Edit) (o p : PlainObject) → edited e o ≡ Ok p → Fits e
fits Create o p h = tt
fits Remove o p h = tt
fits (SetXattr name value) o p h =
    let t = set_not (is_named name) (nat_lt VALUE_LIMIT (length value)) (calls.with_xattrs (content_of o) (calls.set_in 32 (content_of o).xattrs name value)) p h in
    (short_name name t.0, short_value value t.1)
fits (RemoveXattr name) o p h = short_name name (named_not (is_named name) (calls.if_there o (λ c. calls.with_xattrs c (calls.removed_in c.xattrs name))) p h)
fits (SetKey key value) o p h =
    let t = set_not (is_named key) (nat_lt VALUE_LIMIT (length value)) (calls.with_omap (content_of o) (calls.set_in 1024 (content_of o).omap key value)) p h in
    (short_name key t.0, short_value value t.1)
fits (RemoveKey key) o p h = short_name key (named_not (is_named key) (calls.if_there o (λ c. calls.with_omap c (calls.removed_in c.omap key))) p h)
fits (SetLength len) o p h =
    let most = at_most DATA_LIMIT len (big_not (nat_lt DATA_LIMIT len) _ p h) in
    omega (arith, most)
fits (Write at text) o p h =
    let most = at_most DATA_LIMIT (at + length text) (big_not (nat_lt DATA_LIMIT (at + length text)) (Ok (record (content_of o) { bytes = spliced (content_of o).bytes at text })) p h) in
    (omega (arith, most), omega (arith, most))

-- ---- along a list
ok_is : (o p : PlainObject) → ◌≡◌ {A = Result PlainObject StoreError} (Ok o) (Ok p) → o ≡ p
ok_is o p e = cc

-- no bytes make nothing
pub made_none : (bytes : List ℕ) (o after : PlainObject) → bytes ≡ [] → Makes bytes o after → o ≡ after
made_none bytes o after none m = by m.list m.leads (m.spells ∙ none)
  where
    by : (list : List Edit) → all_edited list o ≡ Ok after → spelled list ≡ [] → o ≡ after
    by [] leads s = ok_is o after leads
    by (x ∷ list) leads s = absurd (some_byte x (spelled list) s)

-- the first edit of some bytes, and the rest
pub record Next (bytes : List ℕ) (o after : PlainObject) : Type 0 where
  pub edit : Edit
  pub rest : List ℕ
  pub mid : PlainObject
  pub is : edit_at bytes ≡ Some (edit, rest)
  pub done : edited edit o ≡ Ok mid
  pub makes : Makes rest mid after

pub next : (bytes : List ℕ) (o after : PlainObject) → (bytes ≡ [] → ⊥) → Makes bytes o after → Next bytes o after
next bytes o after some m = by m.list m.leads m.spells
  where
    on : (x : Edit) (list : List Edit) (r : Result PlainObject StoreError) → edited x o ≡ r → and_then r (λ p. all_edited list p) ≡ Ok after → edit_bytes x ++ spelled list ≡ bytes → Next bytes o after
    on x list (Ok p) is leads s = record {
      edit = x;
      rest = spelled list;
      mid = p;
      is = ap edit_at (sym s) ∙ edit_again x (spelled list) (fits x o p is);
      done = is;
      makes = record { list = list; leads = leads; spells = refl };
    }
    on x list (Err e) is leads s = absurd cc

    by : (list : List Edit) → all_edited list o ≡ Ok after → spelled list ≡ bytes → Next bytes o after
    by [] leads s = absurd (some (sym s))
    by (x ∷ list) leads s = on x list (edited x o) refl leads s

-- what is read is the first
pub read_next : (bytes : List ℕ) (o after : PlainObject) → (bytes ≡ [] → ⊥) → Makes bytes o after → (e : Edit) (rest : List ℕ) → edit_at bytes ≡ Some (e, rest) → (mid : PlainObject) × (edited e o ≡ Ok mid) × Makes rest mid after
read_next bytes o after some m e rest is =
    let n = next bytes o after some m in
    let both : ◌≡◌ {A = Option (Edit × List ℕ)} (Some (n.edit, n.rest)) (Some (e, rest)) = sym n.is ∙ is in
    let same : n.edit ≡ e = ap (λ (q : Edit × List ℕ). q.0) (some_is (n.edit, n.rest) (e, rest) both) in
    let behind : n.rest ≡ rest = ap (λ (q : Edit × List ℕ). q.1) (some_is (n.edit, n.rest) (e, rest) both) in
    (n.mid, subst (λ (x : Edit). edited x o ≡ Ok n.mid) same n.done, subst (λ (b : List ℕ). Makes b n.mid after) behind n.makes)

-- and one is read
pub none_next : (bytes : List ℕ) (o after : PlainObject) → (bytes ≡ [] → ⊥) → Makes bytes o after → edit_at bytes ≡ None → ⊥
none_next bytes o after some m none = let n = next bytes o after some m in let is = n.is in cc

-- once it is made, the rest makes the same
pub made_next : (bytes : List ℕ) (o after : PlainObject) → (bytes ≡ [] → ⊥) → Makes bytes o after → (e : Edit) (rest : List ℕ) → edit_at bytes ≡ Some (e, rest) → (new : PlainObject) → edited e o ≡ Ok new → Makes rest new after
made_next bytes o after some m e rest is new done =
    let n = read_next bytes o after some m e rest is in
    subst (λ (p : PlainObject). Makes rest p after) (ok_is n.0 new (sym n.1 ∙ done)) n.2
