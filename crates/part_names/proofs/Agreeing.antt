-- Maps that agree with what is known still do after the same change of both.
use Rattle.std.proofs.Common.{◌≡◌, ℕ, Bool, true, false, cond, ◌||◌, IsTrue, List, Option, Some, None, is_some, refl, sym, subst, ◌∙◌}
use Rattle.std.specs.Prelude.{Result, Ok, Err, OnOk}
use Rattle.std.specs.Ordering.{nat_cmp, eq_by_cmp}
use Rattle.std.specs.Cmp.Lexicographic.{slice_cmp}
use Rattle.std.proofs.lemmas.Cmp.{nat_list_cmp_total}
use Rattle.std.specs.FinMap as fin
use Rattle.std.specs.FinMap.{nat_cmp-IsAntisymmetric, slice_cmp-IsAntisymmetric}
use Rattle.object_store.specs.Object.{Attributes}
use Rattle.part_names.specs.Order.{Interval, is_held}
use Rattle.part_names.specs.Known.{PlainNames, Agrees}
use Rattle.part_names.specs.Changes.{with_entry, without_entry}
use Rattle.part_names.proofs.Orders.{or_second}

module _ (names : PlainNames) (m : Attributes) (agrees : Agrees names m) where
  -- where the same is put in front of two lookups, and of what is known
  alike : (put : Option (List ℕ)) (b : Bool) (q : List ℕ) → IsTrue (is_some (cond b put (fin.get names.entries q)) || is_held names.intervals q) → cond b put (fin.get m q) ≡ cond b put (fin.get names.entries q)
  alike put true q h = refl
  alike put false q h = agrees q h

  pub agree_set : (k v : List ℕ) → Agrees (with_entry names k v) (fin.insert m k v)
  agree_set k v q h =
      fin.get-insert nat_list_cmp_total m k v q
      ∙ alike (Some v) (eq_by_cmp (slice_cmp nat_cmp) q k) q (subst (λ o. IsTrue (is_some o || is_held names.intervals q)) (fin.get-insert nat_list_cmp_total names.entries k v q) h)
      ∙ sym (fin.get-insert nat_list_cmp_total names.entries k v q)

  pub agree_remove : (k : List ℕ) → Agrees (without_entry names k) (fin.remove m k)
  agree_remove k q h =
      fin.get-remove nat_list_cmp_total m k q
      ∙ alike None (eq_by_cmp (slice_cmp nat_cmp) q k) q (subst (λ o. IsTrue (is_some o || is_held names.intervals q)) (fin.get-remove nat_list_cmp_total names.entries k q) h)
      ∙ sym (fin.get-remove nat_list_cmp_total names.entries k q)

  -- if all names are held, the entries are the only map that agrees
  pub agree_whole : ((a : List ℕ) → IsTrue (is_held names.intervals a)) → m ≡ names.entries
  agree_whole all = fin.same_map nat_list_cmp_total (slice_cmp-IsAntisymmetric nat_cmp-IsAntisymmetric) m names.entries (λ q. agrees q (or_second (is_some (fin.get names.entries q)) (is_held names.intervals q) (all q)))

-- after a removal that may be refused
pub agree_removed : {X E : Type 0} (most : ℕ) (is : List Interval) (before : Attributes) (names : PlainNames) (k : List ℕ) (r : Result X E) (after : Attributes) → OnOk r (after ≡ fin.remove before k) → record { most = most; entries = before; intervals = is } ≡ names → OnOk r ((m : Attributes) → Agrees names m → Agrees (record { most = most; entries = after; intervals = is }) (fin.remove m k))
agree_removed most is before names k (Ok x) after o e = λ m agrees.
    subst (λ n. Agrees (record { most = most; entries = n; intervals = is }) (fin.remove m k)) (sym o)
    (subst (λ (n : PlainNames). Agrees (without_entry n k) (fin.remove m k)) (sym e) (agree_remove names m agrees k))
agree_removed most is before names k (Err x) after o e = tt
