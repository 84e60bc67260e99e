-- Maps that grow within another: sets of entries that are all its own.
use Rattle.std.proofs.Common.{◌≡◌, ◌∙◌, ℕ, suc, ◌+◌, ◌≤◌, Bool, true, false, cond, List, [], ◌∷◌, Option, Some, None, Result, Ok, Err, is_some, refl, ap, sym, subst, arith, length, map}
use Rattle.std.specs.Prelude.{T, nat_lt, if◌then◌else◌}
use Rattle.std.specs.Option.{option_or}
use Rattle.std.specs.List.{IsDistinct, AllByRecursion}
use Rattle.std.specs.Ordering.{is_eq, eq_by_cmp}
use Rattle.std.specs.declared.cmp.Ordering.{Ordering}
use Rattle.std.specs.declared.cmp.Ordering.TheVariants.{Less, Equal, Greater}
use Rattle.std.proofs.lemmas.Cmp.{nat_list_cmp_total, eq_by_cmp_equiv}
use Rattle.std.proofs.lemmas.Map.Made.{length-le_from_is_member}
use Rattle.std.proofs.lemmas.Map.Lookups.{exact_bytes}
use Rattle.std.proofs.lemmas.Bool.{lt-ltb}
use Rattle.std.specs.FinMap as fin
use Rattle.std.specs.FinMap.{find, is_sorted, nat_cmp-IsAntisymmetric, slice_cmp-IsAntisymmetric}
use Rattle.std.specs.FinMap.Entries.{below_all}
use Rattle.object_store.specs.declared.store_error.StoreError.{StoreError}
use Rattle.object_store.specs.declared.store_error.StoreError.TheVariants.{TooMany}
use Rattle.object_store.specs.Object.{Attributes}
use Rattle.object_store.specs.Calls.{set_in}
use Rattle.object_bytes.proofs.Entries.{R, Rows, first, second, less}

abbrev pub ties : List ℕ → List ℕ → Bool
ties q k = eq_by_cmp R q k

tied : (r : Ordering) → is_eq r ≡ true → r ≡ Equal
tied Less p = absurd (cc)
tied Equal p = refl
tied Greater p = absurd (cc)

-- only equal names tie
pub tied_key : (q k : List ℕ) → ties q k ≡ true → q ≡ k
tied_key q k e = exact_bytes q k (tied _ e)

pub same : (m n : Attributes) → ((q : List ℕ) → fin.get m q ≡ fin.get n q) → m ≡ n
same m n h = fin.same_map nat_list_cmp_total (slice_cmp-IsAntisymmetric nat_cmp-IsAntisymmetric) m n h

-- ---- every name of one is a name of the other
pub record AreAmong (m n : Attributes) : Type 0 where
  pub each : (q : List ℕ) → is_some (fin.get m q) ≡ true → is_some (fin.get n q) ≡ true

below_not : (k : List ℕ) (es : Rows) → T (below_all R k es) → AllByRecursion (λ (y : List ℕ). ties k y ≡ false) (map (λ e. e.0) es)
below_not k [] h = tt
below_not k (e ∷ es) h = (ap is_eq (less _ (first _ _ h)), below_not k es (second _ _ h))

distinct : (es : Rows) → T (is_sorted R es) → IsDistinct ties (map (λ e. e.0) es)
unfolding IsDistinct
distinct [] h = tt
distinct (e ∷ es) h = (below_not e.0 es (first _ _ h), distinct es (second _ _ h))

length-map : (es : Rows) → length (map (λ (e : List ℕ × List ℕ). e.0) es) ≡ length es
length-map [] = refl
length-map (e ∷ es) = ap suc (length-map es)

pub fewer_among : (m n : Attributes) → AreAmong m n → fin.len m ≤ fin.len n
fewer_among m n h =
    let le : length (fin.keys m) ≤ length (fin.keys n) = length-le_from_is_member (eq_by_cmp_equiv nat_list_cmp_total) (fin.keys m) (fin.keys n) (distinct (fin.entries m) (fin.entries_sorted m)) (λ q e. sym (fin.contains_key-keys n q) ∙ h.each q (fin.contains_key-keys m q ∙ e)) in
    omega (arith, le, length-map (fin.entries m), length-map (fin.entries n), fin.len-entries m, fin.len-entries n)

pub among_set : (m n : Attributes) (k v : List ℕ) → AreAmong m n → is_some (fin.get n k) ≡ true → AreAmong (fin.insert m k v) n
among_set m n k v h there = record { each = λ q e. by q (ap is_some (sym (fin.get-insert nat_list_cmp_total m k v q)) ∙ e) }
  where
    by : (q : List ℕ) → is_some (cond (ties q k) (Some v) (fin.get m q)) ≡ true → is_some (fin.get n q) ≡ true
    by q e =
        elim (ties q k) as (λ b. ties q k ≡ b → is_some (cond b (Some v) (fin.get m q)) ≡ true → is_some (fin.get n q) ≡ true) [
          | true ↦ λ t _. subst (λ (x : List ℕ). is_some (fin.get n x) ≡ true) (sym (tied_key q k t)) there
          | false ↦ λ t f. h.each q f
        ] refl e

-- ---- a set that leaves no more names than there may be is never refused

abbrev Set : Type 0
Set = Result Attributes StoreError

room : (b : Bool) (len most : ℕ) → cond b len (len + 1) ≤ most → (p q : Set) → (if b then p else if nat_lt len most then p else q) ≡ p
room true len most h p q = refl
room false len most h p q = ap (λ (b : Bool). if b then p else q) (lt-ltb len most (omega arith))

pub set_fits : (most : ℕ) (m : Attributes) (k v : List ℕ) → fin.len (fin.insert m k v) ≤ most → set_in most m k v ≡ Ok (fin.insert m k v)
set_fits most m k v h =
    let count : cond (is_some (fin.get m k)) (fin.len m) (fin.len m + 1) ≤ most = subst (λ (n : ℕ). n ≤ most) (fin.len-insert nat_list_cmp_total m k v) h in
    room (is_some (fin.get m k)) (fin.len m) most count (Ok (fin.insert m k v)) (Err TooMany)

-- ---- entries set one after the other

abbrev pub inserted : Attributes → Rows → Attributes
inserted m [] = m
inserted m (e ∷ es) = inserted (fin.insert m e.0 e.1) es

pub find_below : (q : List ℕ) (es : Rows) → T (below_all R q es) → find R q es ≡ None
find_below q [] h = refl
find_below q (e ∷ es) h = ap (λ r. cond (is_eq r) (Some e.1) (find R q es)) (less _ (first _ _ h)) ∙ find_below q es (second _ _ h)

or_cond : (b : Bool) (v : List ℕ) (o p : Option (List ℕ)) → (b ≡ true → o ≡ None) → option_or o (cond b (Some v) p) ≡ option_or (cond b (Some v) o) p
or_cond true v o p h = ap (λ (x : Option (List ℕ)). option_or x (Some v)) (h refl)
or_cond false v o p h = refl

pub get_inserted : (es : Rows) (m : Attributes) (q : List ℕ) → T (is_sorted R es) → fin.get (inserted m es) q ≡ option_or (find R q es) (fin.get m q)
get_inserted [] m q h = refl
get_inserted (e ∷ es) m q h =
    get_inserted es (fin.insert m e.0 e.1) q (second _ _ h)
    ∙ ap (option_or (find R q es)) (fin.get-insert nat_list_cmp_total m e.0 e.1 q)
    ∙ or_cond (ties q e.0) e.1 (find R q es) (fin.get m q) (λ t. ap (λ (x : List ℕ). find R x es) (tied_key q e.0 t) ∙ find_below e.0 es (first _ _ h))

pub or_none : (o : Option (List ℕ)) → option_or o None ≡ o
or_none None = refl
or_none (Some x) = refl

-- all entries of a map, set in none
pub inserted_all : (m : Attributes) → inserted fin.empty (fin.entries m) ≡ m
inserted_all m =
    same _ m (λ q. get_inserted (fin.entries m) fin.empty q (fin.entries_sorted m) ∙ ap (option_or (find R q (fin.entries m))) (fin.get-empty R q) ∙ or_none _ ∙ sym (fin.get-entries m q))

none_there : (o : Option (List ℕ)) → o ≡ None → is_some o ≡ true → ⊥
none_there None e f = absurd cc
none_there (Some x) e f = absurd cc

pub among_empty : (n : Attributes) → AreAmong fin.empty n
among_empty n = record { each = λ q e. absurd (none_there _ (fin.get-empty R q) e) }
