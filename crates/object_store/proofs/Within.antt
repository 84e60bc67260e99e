-- Names and values stay within the limits.
use Rattle.std.proofs.Common.{◌≡◌, ℕ, ◌+◌, ◌-◌, ◌<◌, ◌≤◌, Bool, true, false, cond, List, Option, Some, None, Result, Ok, Err, is_some, refl, ap, sym, subst, ◌∙◌, arith, nat_lt}
use Rattle.std.specs.Prelude.{OnErr, if◌then◌else◌}
use Rattle.std.specs.Ordering.{nat_cmp, is_eq, eq_by_cmp}
use Rattle.std.specs.declared.cmp.Ordering.{Ordering}
use Rattle.std.specs.declared.cmp.Ordering.TheVariants.{Less, Equal, Greater}
use Rattle.std.specs.Cmp.Lexicographic.{slice_cmp}
use Rattle.std.proofs.lemmas.Bool.{ltb-true}
use Rattle.std.proofs.lemmas.Cmp.{nat_list_cmp_total}
use Rattle.std.proofs.lemmas.Map.Lookups.{exact_bytes}
use Rattle.std.specs.FinMap as fin
use Rattle.object_store.specs.declared.store_error.StoreError.{StoreError}
use Rattle.object_store.specs.declared.store_error.StoreError.TheVariants.{TooMany, NoAttr}
use Rattle.object_store.specs.declared.limits.TheConstants.{XATTR_LIMIT, KEY_LIMIT}
use Rattle.object_store.specs.Object.{Attributes, PlainObject, AreWithin, IsContent, IsObject, IsName, IsValue, nothing}
use Rattle.object_store.specs.Limits.{AreNames, IsAnyObject}
use Rattle.object_store.specs.Calls.{set_in, removed_in}
use Rattle.object_store.specs.Returned.{Gives}

same_some : (x y : List ℕ) → ◌≡◌ {A = Option (List ℕ)} (Some x) (Some y) → x ≡ y
same_some x y e = cc

none_some : (y : List ℕ) → ◌≡◌ {A = Option (List ℕ)} None (Some y) → ⊥
none_some y e = cc

lt_from : (a b : ℕ) → nat_lt a b ≡ true → a < b
lt_from a b e = ltb-true a b e

tied : (r : Ordering) → is_eq r ≡ true → r ≡ Equal
tied Less p = absurd (cc)
tied Equal p = refl
tied Greater p = absurd (cc)

tied_key : (q k : List ℕ) → eq_by_cmp (slice_cmp nat_cmp) q k ≡ true → q ≡ k
tied_key q k e = exact_bytes q k (tied _ e)

pub none_within : (most : ℕ) → AreWithin most fin.empty
none_within most = record { number = omega (arith, fin.len-empty (slice_cmp nat_cmp) (List ℕ)); each = λ q x e. absurd (none_some x (sym (fin.get-empty (slice_cmp nat_cmp) q) ∙ e)) }

-- an object that was just created
pub nothing_within : IsContent nothing
nothing_within = record { length = omega arith; bytes = tt; xattrs = none_within XATTR_LIMIT; omap = none_within KEY_LIMIT }

-- names stay names, however many there are
pub none_named : AreNames fin.empty
none_named q x e = absurd (none_some x (sym (fin.get-empty (slice_cmp nat_cmp) q) ∙ e))

pub inserted_named : (m : Attributes) (k v : List ℕ) → AreNames m → IsName k → IsValue v → AreNames (fin.insert m k v)
inserted_named m k v h n w q x e = by (sym (fin.get-insert nat_list_cmp_total m k v q) ∙ e)
  where
    by : cond (eq_by_cmp (slice_cmp nat_cmp) q k) (Some v) (fin.get m q) ≡ Some x → IsName q × IsValue x
    by e =
        elim (eq_by_cmp (slice_cmp nat_cmp) q k) as (λ b. eq_by_cmp (slice_cmp nat_cmp) q k ≡ b → cond b (Some v) (fin.get m q) ≡ Some x → IsName q × IsValue x) [
          | true ↦ λ t f. (subst IsName (sym (tied_key q k t)) n, subst IsValue (same_some v x f) w)
          | false ↦ λ t f. h q x f
        ] refl e

pub removed_named : (m : Attributes) (k : List ℕ) → AreNames m → AreNames (fin.remove m k)
removed_named m k h q x e = by (sym (fin.get-remove nat_list_cmp_total m k q) ∙ e)
  where
    by : cond (eq_by_cmp (slice_cmp nat_cmp) q k) None (fin.get m q) ≡ Some x → IsName q × IsValue x
    by e =
        elim (eq_by_cmp (slice_cmp nat_cmp) q k) as (λ b. cond b None (fin.get m q) ≡ Some x → IsName q × IsValue x) [
          | true ↦ λ f. absurd (none_some x f)
          | false ↦ λ f. h q x f
        ] e

-- an object within its limits is well formed
pub any_of : (object : PlainObject) → IsObject object → IsAnyObject object
any_of None h = tt
any_of (Some c) h = record { length = omega (arith, h.length); bytes = h.bytes; xattrs = h.xattrs.each; omap = h.omap.each }

module _ (most : ℕ) (m : Attributes) (k v : List ℕ) where
  inserted_within : AreWithin most m → IsName k → IsValue v → fin.len (fin.insert m k v) ≤ most → AreWithin most (fin.insert m k v)
  inserted_within h n w l = record { number = l; each = inserted_named m k v h.each n w }

  fewer : (b : Bool) → fin.len (fin.remove m k) ≡ cond b (fin.len m - 1) (fin.len m) → fin.len m ≤ most → fin.len (fin.remove m k) ≤ most
  fewer true e l = omega (arith, e, l)
  fewer false e l = omega (arith, e, l)

  removed_within : AreWithin most m → AreWithin most (fin.remove m k)
  removed_within h = record { number = fewer (is_some (fin.get m k)) (fin.len-remove nat_list_cmp_total m k) h.number; each = removed_named m k h.each }

  -- after a set, which may be refused
  pub after_set : {X : Type 0} (r : Result X StoreError) (n : Attributes) → Gives (λ _. n) r (set_in most m k v) → OnErr r (n ≡ m) → AreWithin most m → IsName k → IsValue v → AreWithin most n
  after_set (Err e) n g o h name value = subst (AreWithin most) (sym o) h
  after_set (Ok x) n g o h name value = old (is_some (fin.get m k)) refl g
    where
      insert_is : (a b : Attributes) → ◌≡◌ {A = Result Attributes StoreError} (Ok a) (Ok b) → a ≡ b
      insert_is a b e = cc

      refused : (a : Attributes) → ◌≡◌ {A = Result Attributes StoreError} (Err TooMany) (Ok a) → ⊥
      refused a e = cc

      count : (b : Bool) → is_some (fin.get m k) ≡ b → fin.len (fin.insert m k v) ≡ cond b (fin.len m) (fin.len m + 1)
      count b e = fin.len-insert nat_list_cmp_total m k v ∙ ap (λ t. cond t (fin.len m) (fin.len m + 1)) e

      new : (b : Bool) → nat_lt (fin.len m) most ≡ b → is_some (fin.get m k) ≡ false → (if b then Ok (fin.insert m k v) else Err TooMany) ≡ Ok n → AreWithin most n
      new true t e f = subst (AreWithin most) (insert_is _ _ f) (inserted_within h name value (omega (arith, count false e, lt_from (fin.len m) most t)))
      new false t e f = absurd (refused n f)

      old : (b : Bool) → is_some (fin.get m k) ≡ b → (if b then Ok (fin.insert m k v) else if nat_lt (fin.len m) most then Ok (fin.insert m k v) else Err TooMany) ≡ Ok n → AreWithin most n
      old true e f = subst (AreWithin most) (insert_is _ _ f) (inserted_within h name value (omega (arith, count true e, h.number)))
      old false e f = new (nat_lt (fin.len m) most) refl e f

  -- after a removal, which may be refused
  pub after_removal : {X : Type 0} (r : Result X StoreError) (n : Attributes) → Gives (λ _. n) r (removed_in m k) → OnErr r (n ≡ m) → AreWithin most m → AreWithin most n
  after_removal (Err e) n g o h = subst (AreWithin most) (sym o) h
  after_removal (Ok x) n g o h = by (is_some (fin.get m k)) g
    where
      remove_is : (a b : Attributes) → ◌≡◌ {A = Result Attributes StoreError} (Ok a) (Ok b) → a ≡ b
      remove_is a b e = cc

      refused : (a : Attributes) → ◌≡◌ {A = Result Attributes StoreError} (Err NoAttr) (Ok a) → ⊥
      refused a e = cc

      by : (b : Bool) → (if b then Ok (fin.remove m k) else Err NoAttr) ≡ Ok n → AreWithin most n
      by true f = subst (AreWithin most) (remove_is _ _ f) (removed_within h)
      by false f = absurd (refused n f)
