-- The least name above some bytes.
use Rattle.std.proofs.Common.{◌≡◌, ℕ, Bool, true, false, cond, ◌&&◌, ◌||◌, T, List, [], ◌∷◌, Option, Some, None, is_some, refl, ap, sym, subst, ◌∙◌}
use Rattle.std.specs.Ordering.{nat_cmp, is_lt, is_eq, eq_by_cmp, ordering_reverse}
use Rattle.std.specs.declared.cmp.Ordering.TheVariants.{Less, Equal, Greater}
use Rattle.std.specs.Cmp.Lexicographic.{slice_cmp}
use Rattle.std.proofs.lemmas.Cmp.{nat_list_cmp_total, tied_itself}
use Rattle.std.specs.FinMap as fin
use Rattle.std.specs.FinMap.{find, is_sorted}
use Rattle.std.specs.FinMap.Entries.{below_all}
use Rattle.shared_map.specs.Entries.{Entries, least_above, key_above}
use Rattle.object_store.specs.Object.{Attributes}
use Rattle.part_names.specs.Order.{Interval, is_below, is_before, is_held, least_from}
use Rattle.part_names.specs.Answers.{AllHeld, IsGap}
use Rattle.part_names.specs.Apart.{IsFree}
use Rattle.part_names.specs.Known.{PlainNames, Agrees, AreKept, is_known}
use Rattle.part_names.proofs.Orders.{stands, below, level, above, first_of_both, second_of_both, apart, below_itself, below_chain, not_back, upto_below, below_upto, above_from, from_above, or_second, neither}

same_some : (x y : List ℕ) → ◌≡◌ {A = Option (List ℕ)} (Some x) (Some y) → x ≡ y
same_some x y e = cc

none_some : (y : List ℕ) → ◌≡◌ {A = Option (List ℕ)} None (Some y) → ⊥
none_some y e = cc

from_T : (b : Bool) → T b → b ≡ true
from_T true h = refl
from_T false h = absurd h

untied : (a b : List ℕ) → is_below a b ≡ true → eq_by_cmp (slice_cmp nat_cmp) a b ≡ false
untied a b h = elim (slice_cmp nat_cmp a b) as (λ r. is_lt r ≡ true → is_eq r ≡ false) [ Less ↦ λ p. refl | Equal ↦ λ p. absurd (cc) | Greater ↦ λ p. refl ] h

untied_back : (a b : List ℕ) → is_below b a ≡ true → eq_by_cmp (slice_cmp nat_cmp) a b ≡ false
untied_back a b h = elim (slice_cmp nat_cmp a b) as (λ r. slice_cmp nat_cmp a b ≡ r → is_eq r ≡ false) [
  | Less ↦ λ p. refl
  | Equal ↦ λ p. absurd (apart _ h (ap is_lt (tied_back p)))
  | Greater ↦ λ p. refl
] refl
  where
    tied_back : slice_cmp nat_cmp a b ≡ Equal → slice_cmp nat_cmp b a ≡ Equal
    tied_back p = nat_list_cmp_total.antisymm b a ∙ ap ordering_reverse p

module _ {V : Type 0} where
  -- a name below all of a list in order isn't in it
  find_low : (q : List ℕ) (es : Entries V) → below_all (slice_cmp nat_cmp) q es ≡ true → find (slice_cmp nat_cmp) q es ≡ None
  find_low q [] h = refl
  find_low q (e ∷ es) h =
      ap (λ b. cond b (Some e.1) (find (slice_cmp nat_cmp) q es)) (untied q e.0 (first_of_both _ _ h)) ∙ find_low q es (second_of_both _ _ h)

  lower : (q k : List ℕ) (es : Entries V) → is_below q k ≡ true → below_all (slice_cmp nat_cmp) k es ≡ true → below_all (slice_cmp nat_cmp) q es ≡ true
  lower q k [] p h = refl
  lower q k (e ∷ es) p h = ap (λ b. b && below_all (slice_cmp nat_cmp) q es) (below_chain q k e.0 p (first_of_both _ _ h)) ∙ lower q k es p (second_of_both _ _ h)

  -- what stands above some bytes and before the least name above them isn't there
  absent_between : (k q : List ℕ) (es : Entries V) → is_sorted (slice_cmp nat_cmp) es ≡ true → is_below k q ≡ true → is_before q (least_above k es) ≡ true → find (slice_cmp nat_cmp) q es ≡ None
  absent_between k q [] s p h = refl
  absent_between k q (e ∷ es) s p h =
      elim (is_below k e.0) as (λ b. is_below k e.0 ≡ b → is_before q (cond b (Some e.0) (least_above k es)) ≡ true → find (slice_cmp nat_cmp) q (e ∷ es) ≡ None) [
        | true ↦ λ t f. find_low q (e ∷ es) (ap (λ b. b && below_all (slice_cmp nat_cmp) q es) f ∙ lower q e.0 es f (first_of_both _ _ s))
        | false ↦ λ t f.
            ap (λ b. cond b (Some e.1) (find (slice_cmp nat_cmp) q es)) (untied_back q e.0 (upto_below e.0 k q t p))
            ∙ absent_between k q es (second_of_both _ _ s) p f
      ] refl h

  -- the least name above some bytes is above them
  least_is_above : (k n : List ℕ) (es : Entries V) → least_above k es ≡ Some n → is_below k n ≡ true
  least_is_above k n [] e = absurd (none_some n e)
  least_is_above k n (x ∷ es) e =
      elim (is_below k x.0) as (λ b. is_below k x.0 ≡ b → cond b (Some x.0) (least_above k es) ≡ Some n → is_below k n ≡ true) [
        | true ↦ λ t f. ap (is_below k) (sym (same_some x.0 n f)) ∙ t
        | false ↦ λ t f. least_is_above k n es f
      ] refl e

  -- and is there
  least_is_there : (k n : List ℕ) (es : Entries V) → least_above k es ≡ Some n → is_some (find (slice_cmp nat_cmp) n es) ≡ true
  least_is_there k n [] e = absurd (none_some n e)
  least_is_there k n (x ∷ es) e =
      elim (is_below k x.0) as (λ b. cond b (Some x.0) (least_above k es) ≡ Some n → is_some (find (slice_cmp nat_cmp) n (x ∷ es)) ≡ true) [
        | true ↦ λ f. ap (λ y. is_some (cond (eq_by_cmp (slice_cmp nat_cmp) y x.0) (Some x.1) (find (slice_cmp nat_cmp) y es))) (sym (same_some x.0 n f))
            ∙ ap (λ r. is_some (cond (is_eq r) (Some x.1) (find (slice_cmp nat_cmp) x.0 es))) (tied_itself nat_list_cmp_total x.0)
        | false ↦ λ f. elim (eq_by_cmp (slice_cmp nat_cmp) n x.0) as (λ b. is_some (cond b (Some x.1) (find (slice_cmp nat_cmp) n es)) ≡ true) [ true ↦ refl | false ↦ least_is_there k n es f ]
      ] e

module _ (m : Attributes) (k : List ℕ) where
  pub above_is_above : (n : List ℕ) → key_above m k ≡ Some n → is_below k n ≡ true
  above_is_above n e = least_is_above k n (fin.entries m) e

  pub above_is_there : (n : List ℕ) → key_above m k ≡ Some n → is_some (fin.get m n) ≡ true
  above_is_there n e = ap is_some (fin.get-entries m n) ∙ least_is_there k n (fin.entries m) e

  pub none_between : (q : List ℕ) → is_below k q ≡ true → is_before q (key_above m k) ≡ true → fin.get m q ≡ None
  none_between q p h = fin.get-entries m q ∙ absent_between k q (fin.entries m) (from_T _ (fin.entries_sorted m)) p h

some_none : (o : Option (List ℕ)) → is_some o ≡ true → o ≡ None → ⊥
some_none None p e = absurd (cc)
some_none (Some x) p e = cc

-- two maps that are the same above some bytes, up to a name of one or to the end, have the same least name there
module _ (e m : Attributes) (k : List ℕ) where
  pub same_none : key_above e k ≡ None → ((q : List ℕ) → is_below k q ≡ true → fin.get m q ≡ fin.get e q) → key_above m k ≡ None
  same_none none alike =
      elim (key_above m k) as (λ o. key_above m k ≡ o → o ≡ None) [
        | None ↦ λ t. refl
        | Some n ↦ λ t.
            let up = above_is_above m k n t in
            absurd (some_none _ (above_is_there m k n t) (alike n up ∙ none_between e k n up (ap (is_before n) none)))
      ] refl

  pub same_some_above : (n : List ℕ) → key_above e k ≡ Some n → ((q : List ℕ) → is_below k q ≡ true → is_below n q ≡ false → fin.get m q ≡ fin.get e q) → key_above m k ≡ Some n
  same_some_above n is alike =
      let up = above_is_above e k n is in
      let there : is_some (fin.get m n) ≡ true = ap is_some (alike n up (below_itself n)) ∙ above_is_there e k n is in
      elim (key_above m k) as (λ o. key_above m k ≡ o → o ≡ Some n) [
        | None ↦ λ t. absurd (some_none _ there (none_between m k n up (ap (is_before n) t)))
        | Some p ↦ λ t.
            let high = above_is_above m k p t in
            elim (stands p n) [
              | below h ↦ absurd (some_none _ (above_is_there m k p t) (alike p high (not_back p n h) ∙ none_between e k p high (ap (is_before p) is ∙ h)))
              | level s ↦ ap Some s
              | above h ↦ absurd (some_none _ there (none_between m k n up (ap (is_before n) t ∙ h)))
            ]
      ] refl

-- ---- a map that agrees has the entries' least name where intervals hold all strings between
module _ (names : PlainNames) (bytes : List ℕ) (m : Attributes) (agrees : Agrees names m) where
  pub agree_absent : AllHeld names.intervals (least_from bytes) None → key_above names.entries bytes ≡ None → key_above m bytes ≡ None
  agree_absent all none = same_none names.entries m bytes none (λ q p. agrees q (or_second (is_some (fin.get names.entries q)) _ (all q (above_from bytes q p) refl)))

  pub agree_name : (n : List ℕ) → AllHeld names.intervals (least_from bytes) (Some n) → key_above names.entries bytes ≡ Some n → key_above m bytes ≡ Some n
  agree_name n all is = same_some_above names.entries m bytes n is (λ q p h. agrees q (known q p h))
    where
      known : (q : List ℕ) → is_below bytes q ≡ true → is_below n q ≡ false → is_known names q ≡ true
      known q p h = elim (stands q n) [
        | below b ↦ or_second (is_some (fin.get names.entries q)) _ (all q (above_from bytes q p) b)
        | level s ↦ ap (λ b. b || is_held names.intervals q) (ap (λ x. is_some (fin.get names.entries x)) s ∙ above_is_there names.entries bytes n is)
        | above b ↦ absurd (apart _ b h)
      ]

-- ---- the first string that no interval holds, and the least name of the entries
module _ (names : PlainNames) (bytes : List ℕ) (kept : AreKept names.most names.entries) where
  -- no entry has no bytes
  unnamed : (o : Option (List ℕ)) → fin.get names.entries [] ≡ o → is_some o ≡ false
  unnamed None e = refl
  unnamed (Some v) e = absurd (cc ((kept.each [] v e).0))

  -- what stands before the least entry isn't one
  unlisted : (place : List ℕ) → is_below place (least_from bytes) ≡ false → is_before place (key_above names.entries bytes) ≡ true → is_some (fin.get names.entries place) ≡ false
  unlisted [] from before = unnamed _ refl
  unlisted (x ∷ a) from before = ap is_some (none_between names.entries bytes (x ∷ a) (from_above bytes (x ∷ a) (λ e. absurd (cc)) from) before)

  -- such a string before the least entry is a gap
  pub gap : (lo place : List ℕ) → lo ≡ least_from bytes → IsFree names.intervals lo place → is_before place (key_above names.entries bytes) ≡ true → IsGap names (least_from bytes) (key_above names.entries bytes) place
  gap lo place is free before =
      let from = subst (λ l. is_below place l ≡ false) is free.from in
      record {
        from = from;
        before = before;
        unknown = neither (is_some (fin.get names.entries place)) (is_held names.intervals place) (unlisted place from before) free.free;
        first = subst (λ l. AllHeld names.intervals l (Some place)) is free.first;
      }

-- one that isn't before the least entry leaves none
pub no_gap : (is : List Interval) (lo place n : List ℕ) → IsFree is lo place → is_below place n ≡ false → AllHeld is lo (Some n)
no_gap is lo place n free upto = λ a p q. free.first a p (below_upto a n place q upto)
