-- Objects by name, after one was stored.
use Rattle.std.proofs.Common.{◌≡◌, ℕ, Bool, true, false, cond, List, Some, None, refl, ap, ◌∙◌}
use Rattle.std.specs.Ordering.{nat_cmp, is_eq, eq_by_cmp}
use Rattle.std.specs.declared.cmp.Ordering.{Ordering}
use Rattle.std.specs.declared.cmp.Ordering.TheVariants.{Less, Equal, Greater}
use Rattle.std.proofs.lemmas.Cmp.{nat_list_cmp_total}
use Rattle.std.specs.Cmp.Lexicographic.{slice_cmp}
use Rattle.std.specs.FinMap as fin
use Rattle.std.specs.FinMap.{nat_cmp-IsAntisymmetric, slice_cmp-IsAntisymmetric}
use Rattle.object_store.specs.Object.{PlainObject}
use Rattle.object_store.specs.Names.{PlainObjects, stored}
use Rattle.txn.specs.Versions.{Versions}
use Rattle.pg_log.specs.Entries.{undone}

get-stored : (objects : PlainObjects) (name : List ℕ) (o : PlainObject) (q : List ℕ) →
    fin.get (stored objects name o) q ≡ cond (eq_by_cmp (slice_cmp nat_cmp) q name) o (fin.get objects q)
get-stored objects name None q = fin.get-remove nat_list_cmp_total objects name q
get-stored objects name (Some c) q = fin.get-insert nat_list_cmp_total objects name c q

tied : (o : Ordering) → is_eq o ≡ true → o ≡ Equal
tied Less e = absurd (cc)
tied Equal e = refl
tied Greater e = absurd (cc)

tie : (objects : PlainObjects) (name q : List ℕ) → cond (eq_by_cmp (slice_cmp nat_cmp) q name) (fin.get objects name) (fin.get objects q) ≡ fin.get objects q
tie objects name q =
    elim (eq_by_cmp (slice_cmp nat_cmp) q name) as (λ b. eq_by_cmp (slice_cmp nat_cmp) q name ≡ b → cond b (fin.get objects name) (fin.get objects q) ≡ fin.get objects q) [
      | true ↦ λ t. fin.get_tied nat_list_cmp_total objects q name (tied (slice_cmp nat_cmp q name) t)
      | false ↦ λ t. refl
    ] refl

cond-cond : (b : Bool) (x y z : PlainObject) → cond b x (cond b y z) ≡ cond b x z
cond-cond true x y z = refl
cond-cond false x y z = refl

-- storing an object's old state again restores all objects
stored-back : (objects : PlainObjects) (name : List ℕ) (o : PlainObject) → stored (stored objects name o) name (fin.get objects name) ≡ objects
stored-back objects name o =
    fin.same_map nat_list_cmp_total (slice_cmp-IsAntisymmetric nat_cmp-IsAntisymmetric) _ _
    (λ q. get-stored (stored objects name o) name (fin.get objects name) q
    ∙ ap (λ w. cond (eq_by_cmp (slice_cmp nat_cmp) q name) (fin.get objects name) w) (get-stored objects name o q)
    ∙ cond-cond (eq_by_cmp (slice_cmp nat_cmp) q name) (fin.get objects name) o (fin.get objects q)
    ∙ tie objects name q)

-- undoing a change gives the objects before it
pub undone-stored : (objects : PlainObjects) (name : List ℕ) (change : Versions) → change.before ≡ fin.get objects name →
    undone (stored objects name change.after) name change ≡ objects
undone-stored objects name change h = ap (stored (stored objects name change.after) name) h ∙ stored-back objects name change.after
