-- What is known after a change, for those who use it.
use Rattle.std.proofs.Common.{◌≡◌, ℕ, true, false, cond, ◌||◌, List, Option, Some, None, is_some, refl, ap, ◌∙◌}
use Rattle.std.specs.Ordering.{nat_cmp, eq_by_cmp}
use Rattle.std.specs.Cmp.Lexicographic.{slice_cmp}
use Rattle.std.proofs.lemmas.Cmp.{nat_list_cmp_total}
use Rattle.std.specs.FinMap as fin
use Rattle.object_store.specs.Object.{Attributes}
use Rattle.part_names.specs.Order.{is_held}
use Rattle.part_names.specs.Known.{PlainNames, Agrees, is_known}
use Rattle.part_names.specs.Changes.{nothing_known, none_there, with_entry, without_entry}
use Rattle.part_names.proofs.Orders.{or_second}
use Rattle.part_names.proofs.Bounds.{everything_holds}

module _ (most : ℕ) where
  pub nothing_is_known : (q : List ℕ) → is_known (nothing_known most) q ≡ false
  nothing_is_known q = ap (λ (o : Option (List ℕ)). is_some o || false) (fin.get-empty (slice_cmp nat_cmp) q)

  pub all_are_known : (q : List ℕ) → is_known (none_there most) q ≡ true
  all_are_known q = or_second _ _ (everything_holds q)

  -- each map agrees where nothing is known
  pub all_agree : (m : Attributes) → Agrees (nothing_known most) m
  all_agree m q known = absurd (cc (nothing_is_known q, known))

module _ (names : PlainNames) (k q : List ℕ) where
  -- after a set: what was known, and the name
  pub known_set : (v : List ℕ) → is_known (with_entry names k v) q ≡ (eq_by_cmp (slice_cmp nat_cmp) q k || is_known names q)
  known_set v =
      ap (λ (o : Option (List ℕ)). is_some o || is_held names.intervals q) (fin.get-insert nat_list_cmp_total names.entries k v q)
      ∙ elim (eq_by_cmp (slice_cmp nat_cmp) q k) as (λ b. (is_some (cond b (Some v) (fin.get names.entries q)) || is_held names.intervals q) ≡ (b || is_known names q)) [ true ↦ refl | false ↦ refl ]

  -- after a removal: what was known, but the name alone if an interval holds it
  pub known_remove : is_known (without_entry names k) q ≡ cond (eq_by_cmp (slice_cmp nat_cmp) q k) (is_held names.intervals q) (is_known names q)
  known_remove =
      ap (λ (o : Option (List ℕ)). is_some o || is_held names.intervals q) (fin.get-remove nat_list_cmp_total names.entries k q)
      ∙ elim (eq_by_cmp (slice_cmp nat_cmp) q k) as (λ b. (is_some (cond b None (fin.get names.entries q)) || is_held names.intervals q) ≡ cond b (is_held names.intervals q) (is_known names q)) [ true ↦ refl | false ↦ refl ]
