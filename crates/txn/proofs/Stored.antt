-- Putting an object into the objects by name, and back.
use Rattle.std.proofs.Common.{◌≡◌, ℕ, Bool, true, false, cond, List, Some, None, refl, ap, ◌∙◌}
use Rattle.std.specs.Ordering.{nat_cmp, is_eq, eq_by_cmp}
use Rattle.std.specs.declared.cmp.Ordering.{Ordering}
use Rattle.std.specs.declared.cmp.Ordering.TheVariants.{Less, Equal, Greater}
use Rattle.std.proofs.lemmas.Cmp.{nat_list_cmp_total, eq_by_cmp_equiv}
use Rattle.std.specs.Cmp.Lexicographic.{slice_cmp}
use Rattle.std.specs.FinMap as fin
use Rattle.std.specs.FinMap.{nat_cmp-IsAntisymmetric, slice_cmp-IsAntisymmetric}
use Rattle.object_store.specs.Object.{PlainObject}
use Rattle.object_store.specs.Names.{PlainObjects, stored}

cond-cond : (b : Bool) (x y z : PlainObject) → cond b x (cond b y z) ≡ cond b x z
cond-cond true x y z = refl
cond-cond false x y z = refl

pub get-stored : (objects : PlainObjects) (name : List ℕ) (o : PlainObject) (q : List ℕ) →
    fin.get (stored objects name o) q ≡ cond (eq_by_cmp (slice_cmp nat_cmp) q name) o (fin.get objects q)
get-stored objects name None q = fin.get-remove nat_list_cmp_total objects name q
get-stored objects name (Some o) q = fin.get-insert nat_list_cmp_total objects name o q

equal_of : (o : Ordering) → is_eq o ≡ true → o ≡ Equal
equal_of Less e = absurd (cc)
equal_of Equal e = refl
equal_of Greater e = absurd (cc)

at_ties : (objects : PlainObjects) (name q : List ℕ) → cond (eq_by_cmp (slice_cmp nat_cmp) q name) (fin.get objects name) (fin.get objects q) ≡ fin.get objects q
at_ties objects name q =
    elim (eq_by_cmp (slice_cmp nat_cmp) q name) as (λ b. eq_by_cmp (slice_cmp nat_cmp) q name ≡ b → cond b (fin.get objects name) (fin.get objects q) ≡ fin.get objects q) [
      | true ↦ λ t. fin.get_tied nat_list_cmp_total objects q name (equal_of (slice_cmp nat_cmp q name) t)
      | false ↦ λ t. refl
    ] refl

-- to put back what was there restores all
pub stored-stored : (objects : PlainObjects) (name : List ℕ) (o : PlainObject) → stored (stored objects name o) name (fin.get objects name) ≡ objects
stored-stored objects name o =
    fin.same_map nat_list_cmp_total (slice_cmp-IsAntisymmetric nat_cmp-IsAntisymmetric) _ _
    (λ q. get-stored (stored objects name o) name (fin.get objects name) q
    ∙ ap (λ w. cond (eq_by_cmp (slice_cmp nat_cmp) q name) (fin.get objects name) w) (get-stored objects name o q)
    ∙ cond-cond (eq_by_cmp (slice_cmp nat_cmp) q name) (fin.get objects name) o (fin.get objects q)
    ∙ at_ties objects name q)

-- what was put under a name stands there
pub get-stored_same : (objects : PlainObjects) (name : List ℕ) (o : PlainObject) → fin.get (stored objects name o) name ≡ o
get-stored_same objects name o =
    get-stored objects name o name ∙ ap (λ b. cond b o (fin.get objects name)) ((eq_by_cmp_equiv nat_list_cmp_total).refl name)

-- to put there what stands there changes nothing
pub stored-get : (objects : PlainObjects) (name : List ℕ) → stored objects name (fin.get objects name) ≡ objects
stored-get objects name =
    fin.same_map nat_list_cmp_total (slice_cmp-IsAntisymmetric nat_cmp-IsAntisymmetric) _ _
    (λ q. get-stored objects name (fin.get objects name) q ∙ at_ties objects name q)
