-- Entries stay as many as there may be, and within the limits.
use Rattle.std.proofs.Common.{◌≡◌, ℕ, suc, ◌+◌, ◌-◌, ◌<◌, ◌≤◌, get_or, [], ◌∷◌, Bool, true, false, cond, not, ◌&&◌, ◌||◌, IsTrue, List, Option, Some, None, is_some, length, refl, ap, sym, subst, ◌∙◌, arith, nat_lt}
use Rattle.std.specs.Prelude.{Result, Ok, Err, OnOk, OnErr}
use Rattle.std.specs.Ordering.{nat_cmp, is_eq, eq_by_cmp}
use Rattle.std.specs.declared.cmp.Ordering.{Ordering}
use Rattle.std.specs.declared.cmp.Ordering.TheVariants.{Less, Equal, Greater}
use Rattle.std.specs.Cmp.Lexicographic.{slice_cmp}
use Rattle.std.proofs.lemmas.Bool.{ltb-true}
use Rattle.std.proofs.lemmas.Bool.Decides.{nat_tests}
use Rattle.std.proofs.lemmas.Cmp.{nat_list_cmp_total}
use Rattle.std.proofs.lemmas.Map.Lookups.{exact_bytes}
use Rattle.std.specs.FinMap as fin
use Rattle.object_store.specs.declared.limits.TheConstants.{VALUE_LIMIT}
use Rattle.object_store.specs.Object.{Attributes, AreBytes}
use Rattle.object_store.specs.Calls.{is_named}
use Rattle.part_names.specs.Order.{Interval, is_held}
use Rattle.part_names.specs.Changes.{may_enter}
use Rattle.part_names.specs.Known.{PlainNames, AreKept}
use Rattle.part_names.proofs.Orders.{or_second, first_of_both, second_of_both}

same_some : (x y : List ℕ) → ◌≡◌ {A = Option (List ℕ)} (Some x) (Some y) → x ≡ y
same_some x y e = cc

none_some : (y : List ℕ) → ◌≡◌ {A = Option (List ℕ)} None (Some y) → ⊥
none_some y e = cc

tied : (r : Ordering) → is_eq r ≡ true → r ≡ Equal
tied Less p = absurd (cc)
tied Equal p = refl
tied Greater p = absurd (cc)

value_short : (v : List ℕ) → not (nat_lt VALUE_LIMIT (length v)) ≡ true → length v ≤ VALUE_LIMIT
value_short v e = grind (arith, nat_tests)

pub same_name : (q k : List ℕ) → eq_by_cmp (slice_cmp nat_cmp) q k ≡ true → q ≡ k
same_name q k e = exact_bytes q k (tied _ e)

-- a list of bytes
pub each_below : (xs : List ℕ) → ((i : ℕ) → get_or xs i 0 < 256) → AreBytes xs
each_below [] h = tt
each_below (x ∷ xs) h = (h 0, each_below xs (λ i. h (suc i)))

-- no entries
pub none_kept : (most : ℕ) → AreKept most fin.empty
none_kept most = record {
  number = omega (arith, fin.len-empty (slice_cmp nat_cmp) (List ℕ));
  each = λ q x e. absurd (none_some x (sym (fin.get-empty (slice_cmp nat_cmp) q) ∙ e));
  bytes = λ q x e. absurd (none_some x (sym (fin.get-empty (slice_cmp nat_cmp) q) ∙ e));
}

module _ (most : ℕ) (m : Attributes) (k v : List ℕ) where
  length_insert : (b : Bool) → is_some (fin.get m k) ≡ b → (b || nat_lt (fin.len m) most) ≡ true → fin.len m ≤ most → fin.len (fin.insert m k v) ≤ most
  length_insert true e r l = omega (arith, l, fin.len-insert nat_list_cmp_total m k v ∙ ap (λ t. cond t (fin.len m) (fin.len m + 1)) e)
  length_insert false e r l = omega (arith, ltb-true _ _ r, fin.len-insert nat_list_cmp_total m k v ∙ ap (λ t. cond t (fin.len m) (fin.len m + 1)) e)

  -- what holds of each entry holds of one more
  insert_each : (P Q : List ℕ → Type 0) → P k → Q v → ((q x : List ℕ) → fin.get m q ≡ Some x → P q × Q x) → (q x : List ℕ) → fin.get (fin.insert m k v) q ≡ Some x → P q × Q x
  insert_each P Q pk qv h q x e = by (sym (fin.get-insert nat_list_cmp_total m k v q) ∙ e)
    where
      by : cond (eq_by_cmp (slice_cmp nat_cmp) q k) (Some v) (fin.get m q) ≡ Some x → P q × Q x
      by e =
          elim (eq_by_cmp (slice_cmp nat_cmp) q k) as (λ b. eq_by_cmp (slice_cmp nat_cmp) q k ≡ b → cond b (Some v) (fin.get m q) ≡ Some x → P q × Q x) [
            | true ↦ λ t f. (subst P (sym (same_name q k t)) pk, subst Q (same_some v x f) qv)
            | false ↦ λ t f. h q x f
          ] refl e

  -- with an entry for which there is room
  pub insert_kept : AreKept most m → IsTrue (is_named k) → length v ≤ VALUE_LIMIT → AreBytes k → AreBytes v → (is_some (fin.get m k) || nat_lt (fin.len m) most) ≡ true → AreKept most (fin.insert m k v)
  insert_kept h n w nb wb room = record {
    number = length_insert (is_some (fin.get m k)) refl room h.number;
    each = insert_each (λ q. IsTrue (is_named q)) (λ x. length x ≤ VALUE_LIMIT) n w h.each;
    bytes = insert_each AreBytes AreBytes nb wb h.bytes;
  }

  -- after a call that may be refused
  pub after_insert : {X E : Type 0} (r : Result X E) (n : Attributes) → OnOk r (n ≡ fin.insert m k v) → OnErr r (n ≡ m) → AreKept most m → IsTrue (is_named k) → length v ≤ VALUE_LIMIT → AreBytes k → AreBytes v → (is_some (fin.get m k) || nat_lt (fin.len m) most) ≡ true → AreKept most n
  after_insert (Ok x) n o e h name value nb wb room = subst (AreKept most) (sym o) (insert_kept h name value nb wb room)
  after_insert (Err x) n o e h name value nb wb room = subst (AreKept most) (sym e) h

module _ (most : ℕ) (m : Attributes) (k : List ℕ) where
  length_remove : (b : Bool) → fin.len (fin.remove m k) ≡ cond b (fin.len m - 1) (fin.len m) → fin.len m ≤ most → fin.len (fin.remove m k) ≤ most
  length_remove true e l = omega (arith, e, l)
  length_remove false e l = omega (arith, e, l)

  -- what holds of each entry holds of each that is left
  remove_each : (P : List ℕ → List ℕ → Type 0) → ((q x : List ℕ) → fin.get m q ≡ Some x → P q x) → (q x : List ℕ) → fin.get (fin.remove m k) q ≡ Some x → P q x
  remove_each P h q x e = by (sym (fin.get-remove nat_list_cmp_total m k q) ∙ e)
    where
      by : cond (eq_by_cmp (slice_cmp nat_cmp) q k) None (fin.get m q) ≡ Some x → P q x
      by e =
          elim (eq_by_cmp (slice_cmp nat_cmp) q k) as (λ b. cond b None (fin.get m q) ≡ Some x → P q x) [
            | true ↦ λ f. absurd (none_some x f)
            | false ↦ λ f. h q x f
          ] e

  -- without an entry
  pub remove_kept : AreKept most m → AreKept most (fin.remove m k)
  remove_kept h = record {
    number = length_remove (is_some (fin.get m k)) (fin.len-remove nat_list_cmp_total m k) h.number;
    each = remove_each (λ q x. IsTrue (is_named q) × (length x ≤ VALUE_LIMIT)) h.each;
    bytes = remove_each (λ q x. AreBytes q × AreBytes x) h.bytes;
  }

  -- after a call that may be refused
  pub after_remove : {X E : Type 0} (r : Result X E) (n : Attributes) → OnOk r (n ≡ fin.remove m k) → OnErr r (n ≡ m) → AreKept most m → AreKept most n
  after_remove (Ok x) n o e h = subst (AreKept most) (sym o) (remove_kept h)
  after_remove (Err x) n o e h = subst (AreKept most) (sym e) h

-- after an entry that may be learned
pub after_learn : {X E : Type 0} (most : ℕ) (is : List Interval) (m : Attributes) (names : PlainNames) (k v : List ℕ) → record { most = most; entries = m; intervals = is } ≡ names → AreKept most m → may_enter names k v ≡ true → AreBytes k → AreBytes v → (w : List ℕ) → w ≡ v → (r : Result X E) (n : Attributes) → OnOk r (n ≡ fin.insert m k w) → OnErr r (n ≡ m) → AreKept most n
after_learn most is m names k v seen h may nb vb w copy r n o e =
    let here : may_enter (record { most = most; entries = m; intervals = is }) k v ≡ true = ap (λ (x : PlainNames). may_enter x k v) seen ∙ may in
    let name = first_of_both (is_named k && not (nat_lt VALUE_LIMIT (length v))) _ here in
    let room = second_of_both (is_named k && not (nat_lt VALUE_LIMIT (length v))) _ here in
    after_insert most m k w r n o e h
    (first_of_both (is_named k) _ name)
    (subst (λ (x : List ℕ). length x ≤ VALUE_LIMIT) (sym copy) (value_short v (second_of_both (is_named k) _ name)))
    nb (subst AreBytes (sym copy) vb)
    (or_second (is_some (fin.get m k)) _ (second_of_both (is_held is k && not (is_some (fin.get m k))) _ room))
