-- A list of edits that is allowed is read and made edit by edit.
use Rattle.std.proofs.Common.{◌≡◌, ◌∙◌, ℕ, Bool, List, [], ◌∷◌, Option, Some, None, Result, Ok, Err, refl, ap, sym, subst, arith, length}
use Rattle.std.specs.Prelude.{if◌then◌else◌}
use Rattle.object_store.specs.declared.store_error.StoreError.{StoreError}
use Rattle.object_store.specs.declared.store_error.StoreError.TheVariants as store
use Rattle.object_store.specs.Object.{PlainObject}
use Rattle.part_bytes.proofs.Exact.{some_is}
use Rattle.txn.specs.Edits.{Edit, Create, Remove, SetXattr, RemoveXattr, SetKey, RemoveKey, SetLength, Write, spelled}
use Rattle.txn.specs.Made.{made, all_made}
use Rattle.edit_bytes.specs.Reading.{edit_at}
use Rattle.edit_bytes.proofs.Spelled.{Fits, edit_again, some_byte}
use Rattle.large_objects.specs.Large.{AreFormed, IsFormed, after, unless}
use Rattle.large_objects.proofs.Allowed.{short_set, short_name, at_most_data}

-- ---- the fields of an edit that isn't refused fit
fits : (e : Edit) → IsFormed e → Fits e
fits Create h = tt
fits Remove h = tt
fits (SetXattr name value) h = short_set name value h
fits (RemoveXattr name) h = short_name name h
fits (SetKey key value) h = short_set key value h
fits (RemoveKey key) h = short_name key h
fits (SetLength len) h =
    let s = at_most_data len 0 h in
    omega (arith, s)
fits (Write at text) h =
    let s = at_most_data at (length text) h in
    (omega (arith, s), omega (arith, s))

-- ---- along a list
ok_is : (o p : PlainObject) → ◌≡◌ {A = Result PlainObject StoreError} (Ok o) (Ok p) → o ≡ p
ok_is o p e = cc

-- an edit that isn't refused is made
formed_after : (e : Edit) (o : PlainObject) → IsFormed e → after e o ≡ Ok (made e o)
formed_after Create o h = refl
formed_after Remove o h = refl
formed_after (SetXattr name value) o h = ap (λ (r : Option StoreError). unless r (made (SetXattr name value) o)) h
formed_after (RemoveXattr name) o h = refl
formed_after (SetKey key value) o h = ap (λ (r : Option StoreError). unless r (made (SetKey key value) o)) h
formed_after (RemoveKey key) o h = refl
formed_after (SetLength len) o h = ap (λ (b : Bool). unless (if b then None else Some store.TooBig) (made (SetLength len) o)) h
formed_after (Write at text) o h = ap (λ (b : Bool). unless (if b then None else Some store.TooBig) (made (Write at text) o)) h

-- edits that are left, which make of an object what all of them make of another
pub record Left (list : List Edit) (first : PlainObject) (bytes : List ℕ) (o : PlainObject) : Type 0 where
  pub tail : List Edit
  pub formed : AreFormed tail
  pub left : spelled tail ≡ bytes
  pub makes : all_made list first ≡ all_made tail o

-- of each list that the bytes spell
pub record Goes (edits : List ℕ) (first : PlainObject) (bytes : List ℕ) (o : PlainObject) : Type 0 where
  pub by : (list : List Edit) → AreFormed list → spelled list ≡ edits → Left list first bytes o

pub begin : (edits : List ℕ) (o : PlainObject) → Goes edits o edits o
begin edits o = record { by = λ list h e. record { tail = list; formed = h; left = e; makes = refl } }

-- the last edit was made
pub is_made : (edits : List ℕ) (first o : PlainObject) (bytes : List ℕ) → bytes ≡ [] → Goes edits first bytes o → (list : List Edit) → AreFormed list → spelled list ≡ edits → o ≡ all_made list first
is_made edits first o bytes none g list h e = let l = g.by list h e in by l.tail (l.left ∙ none) (sym l.makes)
  where
    by : (tail : List Edit) → spelled tail ≡ [] → all_made tail o ≡ all_made list first → o ≡ all_made list first
    by [] s m = m
    by (x ∷ tail) s m = absurd (some_byte x (spelled tail) s)

-- the next one
module _ (edits : List ℕ) (first o : PlainObject) (bytes : List ℕ) (some : bytes ≡ [] → ⊥) (g : Goes edits first bytes o) (list : List Edit) (h : AreFormed list) (s : spelled list ≡ edits) where
  record Next : Type 0 where
    pub edit : Edit
    pub rest : List Edit
    pub is_formed : IsFormed edit
    pub are_formed : AreFormed rest
    pub is : edit_at bytes ≡ Some (edit, spelled rest)
    pub makes : all_made list first ≡ all_made rest (made edit o)

  next : Next
  next = let l = g.by list h s in by l.tail l.formed l.left l.makes
    where
      by : (tail : List Edit) → AreFormed tail → spelled tail ≡ bytes → all_made list first ≡ all_made tail o → Next
      by [] f e m = absurd (some (sym e))
      by (x ∷ tail) f e m = record {
        edit = x;
        rest = tail;
        is_formed = f.0;
        are_formed = f.1;
        is = ap edit_at (sym e) ∙ edit_again x (spelled tail) (fits x f.0);
        makes = m;
      }

-- where none is read there was none
pub none_next : (edits : List ℕ) (first o : PlainObject) (bytes : List ℕ) → (bytes ≡ [] → ⊥) → Goes edits first bytes o → edit_at bytes ≡ None → (list : List Edit) → AreFormed list → spelled list ≡ edits → ⊥
none_next edits first o bytes some g none list h s = let n = next edits first o bytes some g list h s in let is = n.is in cc

-- one that is refused wasn't such
pub refused_next : (edits : List ℕ) (first o : PlainObject) (bytes : List ℕ) → (bytes ≡ [] → ⊥) → Goes edits first bytes o → (e : Edit) (rest : List ℕ) → edit_at bytes ≡ Some (e, rest) → (why : StoreError) → after e o ≡ Err why →
    (list : List Edit) → AreFormed list → spelled list ≡ edits → ⊥
refused_next edits first o bytes some g e rest is why refused list h s =
    let n = next edits first o bytes some g list h s in
    let both : ◌≡◌ {A = Option (Edit × List ℕ)} (Some (e, rest)) (Some (n.edit, spelled n.rest)) = sym is ∙ n.is in
    let same : e ≡ n.edit = ap (λ (q : Edit × List ℕ). q.0) (some_is (e, rest) (n.edit, spelled n.rest) both) in
    let fine : after e o ≡ Ok (made e o) = formed_after e o (subst IsFormed (sym same) n.is_formed) in
    cc

-- one that is made
pub made_next : (edits : List ℕ) (first o : PlainObject) (bytes : List ℕ) → (bytes ≡ [] → ⊥) → Goes edits first bytes o → (e : Edit) (rest : List ℕ) → edit_at bytes ≡ Some (e, rest) → (new : PlainObject) → after e o ≡ Ok new → Goes edits first rest new
made_next edits first o bytes some g e rest is new done = record {
  by = λ list h s.
      let n = next edits first o bytes some g list h s in
      let both : ◌≡◌ {A = Option (Edit × List ℕ)} (Some (e, rest)) (Some (n.edit, spelled n.rest)) = sym is ∙ n.is in
      let same : e ≡ n.edit = ap (λ (q : Edit × List ℕ). q.0) (some_is (e, rest) (n.edit, spelled n.rest) both) in
      let behind : spelled n.rest ≡ rest = sym (ap (λ (q : Edit × List ℕ). q.1) (some_is (e, rest) (n.edit, spelled n.rest) both)) in
      let fine : after e o ≡ Ok (made e o) = formed_after e o (subst IsFormed (sym same) n.is_formed) in
      let object : made n.edit o ≡ new = ap (λ (x : Edit). made x o) (sym same) ∙ ok_is (made e o) new (sym fine ∙ done) in
      record { tail = n.rest; formed = n.are_formed; left = behind; makes = n.makes ∙ ap (all_made n.rest) object };
}
