-- Sorted entries in two halves with an entry between.
use Rattle.std.proofs.Common.{◌≡◌, ℕ, T, Bool, true, false, cond, ◌&&◌, not, IsTrue, List, [], ◌∷◌, ◌++◌, Option, Some, None, refl, ap, sym, subst, ◌∙◌, append_assoc}
use Rattle.std.specs.Ordering.{nat_cmp, is_lt, is_eq, ordering_reverse, eq_by_cmp}
use Rattle.std.specs.declared.cmp.Ordering.{Ordering}
use Rattle.std.specs.declared.cmp.Ordering.TheVariants.{Less, Equal, Greater}
use Rattle.std.proofs.lemmas.Cmp.{nat_list_cmp_total}
use Rattle.std.specs.Cmp.Lexicographic.{slice_cmp}
use Rattle.std.proofs.lemmas.List.Elements.{filter-append}
use Rattle.std.specs.FinMap.Entries.{put, find, below_all, by_order, is_sorted-put, is_sorted-where_key}
use Rattle.shared_map.specs.Entries.{Entries, Pair, sorted, least_above, without}

abbrev order : List ℕ → List ℕ → Ordering
order a b = slice_cmp nat_cmp a b

both : (a b : Bool) → a ≡ true → b ≡ true → (a && b) ≡ true
both true b p q = q
both false b p q = absurd (cc)

first : (a b : Bool) → (a && b) ≡ true → a ≡ true
first true b p = refl
first false b p = absurd (cc)

second : (a b : Bool) → (a && b) ≡ true → b ≡ true
second true b p = p
second false b p = absurd (cc)

less : (r : Ordering) → is_lt r ≡ true → r ≡ Less
less Less p = refl
less Equal p = absurd (cc)
less Greater p = absurd (cc)

pub tied : (r : Ordering) → is_eq r ≡ true → r ≡ Equal
tied Less p = absurd (cc)
tied Equal p = refl
tied Greater p = absurd (cc)

pub to_T : (b : Bool) → b ≡ true → T b
to_T b e = subst T (sym e) tt

from_T : (b : Bool) → T b → b ≡ true
from_T true h = refl
from_T false h = absurd h

flipped : (a b : List ℕ) → order a b ≡ Less → order b a ≡ Greater
flipped a b p = nat_list_cmp_total.antisymm b a ∙ ap ordering_reverse p

unflipped : (a b : List ℕ) → order a b ≡ Greater → order b a ≡ Less
unflipped a b p = nat_list_cmp_total.antisymm b a ∙ ap ordering_reverse p

abbrev pub or_else : {X : Type 0} → Option X → Option X → Option X
or_else None o = o
or_else (Some x) o = Some x

module _ {V : Type 0} where
  -- each key is below k
  abbrev pub AllBefore : List ℕ → Entries V → Type 0
  AllBefore k [] = Unit {0}
  AllBefore k (x ∷ xs) = (order k x.0 ≡ Greater) × AllBefore k xs

  -- each key is above k
  abbrev pub AllAfter : List ℕ → Entries V → Type 0
  AllAfter k [] = Unit {0}
  AllAfter k (x ∷ xs) = (order k x.0 ≡ Less) × AllAfter k xs

  -- ---- the parts of a sorted list
  below-left : (k : List ℕ) (l t : Entries V) → below_all (slice_cmp nat_cmp) k (l ++ t) ≡ true → below_all (slice_cmp nat_cmp) k l ≡ true
  below-left k [] t h = refl
  below-left k (x ∷ l) t h = both _ _ (first _ _ h) (below-left k l t (second _ _ h))

  below-right : (k : List ℕ) (l t : Entries V) → below_all (slice_cmp nat_cmp) k (l ++ t) ≡ true → below_all (slice_cmp nat_cmp) k t ≡ true
  below-right k [] t h = h
  below-right k (x ∷ l) t h = below-right k l t (second _ _ h)

  pub sorted-left : (l t : Entries V) → IsTrue (sorted (l ++ t)) → IsTrue (sorted l)
  sorted-left [] t h = refl
  sorted-left (x ∷ l) t h = both _ _ (below-left x.0 l t (first _ _ h)) (sorted-left l t (second _ _ h))

  pub sorted-right : (l t : Entries V) → IsTrue (sorted (l ++ t)) → IsTrue (sorted t)
  sorted-right [] t h = h
  sorted-right (x ∷ l) t h = sorted-right l t (second _ _ h)

  pub sorted-tail : (x : Pair V) (t : Entries V) → IsTrue (sorted (x ∷ t)) → IsTrue (sorted t)
  sorted-tail x t h = second _ _ h

  after_below : (k : List ℕ) (t : Entries V) → below_all (slice_cmp nat_cmp) k t ≡ true → AllAfter k t
  after_below k [] h = tt
  after_below k (x ∷ t) h = (less _ (first _ _ h), after_below k t (second _ _ h))

  after_less : (k : List ℕ) (x : List ℕ) (t : Entries V) → order k x ≡ Less → AllAfter x t → AllAfter k t
  after_less k x [] p h = tt
  after_less k x (y ∷ t) p h = (nat_list_cmp_total.trans k x y.0 p h.0, after_less k x t p h.1)

  after_tied : (k : List ℕ) (x : List ℕ) (t : Entries V) → order k x ≡ Equal → AllAfter x t → AllAfter k t
  after_tied k x [] p h = tt
  after_tied k x (y ∷ t) p h = (nat_list_cmp_total.congr k x y.0 p ∙ h.0, after_tied k x t p h.1)

  -- what stands after a key that ties
  pub after-equal : (k : List ℕ) (l : Entries V) (e : Pair V) (r : Entries V) → IsTrue (sorted (l ++ e ∷ r)) → order k e.0 ≡ Equal → AllAfter k r
  after-equal k l e r h p = after_tied k e.0 r p (after_below e.0 r (first _ _ (sorted-right l (e ∷ r) h)))

  -- what stands at and after a greater key
  pub after-less : (k : List ℕ) (l : Entries V) (e : Pair V) (r : Entries V) → IsTrue (sorted (l ++ e ∷ r)) → order k e.0 ≡ Less → AllAfter k (e ∷ r)
  after-less k l e r h p = (p, after_less k e.0 r p (after_below e.0 r (first _ _ (sorted-right l (e ∷ r) h))))

  -- what stands before a key that ties or is smaller
  pub before-greater : (k : List ℕ) (l : Entries V) (e : Pair V) (r : Entries V) → IsTrue (sorted (l ++ e ∷ r)) → order k e.0 ≡ Greater → AllBefore k l
  before-greater k [] e r h p = tt
  before-greater k (x ∷ l) e r h p =
      let xe : order x.0 e.0 ≡ Less = (after_below x.0 (e ∷ r) (below-right x.0 l (e ∷ r) (first _ _ h))).0 in
      (flipped x.0 k (nat_list_cmp_total.trans x.0 e.0 k xe (unflipped k e.0 p)), before-greater k l e r (second _ _ h) p)

  pub before-equal : (k : List ℕ) (l : Entries V) (e : Pair V) (r : Entries V) → IsTrue (sorted (l ++ e ∷ r)) → order k e.0 ≡ Equal → AllBefore k l
  before-equal k [] e r h p = tt
  before-equal k (x ∷ l) e r h p =
      let xe : order x.0 e.0 ≡ Less = (after_below x.0 (e ∷ r) (below-right x.0 l (e ∷ r) (first _ _ h))).0 in
      (nat_list_cmp_total.congr k e.0 x.0 p ∙ flipped x.0 e.0 xe, before-equal k l e r (second _ _ h) p)

  -- ---- put
  pub put-less : (k : List ℕ) (v : V) (l : Entries V) (e : Pair V) (r : Entries V) → order k e.0 ≡ Less → put (slice_cmp nat_cmp) k v (l ++ e ∷ r) ≡ put (slice_cmp nat_cmp) k v l ++ e ∷ r
  put-less k v [] e r p = ap (λ o. by_order o ((k, v) ∷ e ∷ r) ((e.0, v) ∷ r) (e ∷ put (slice_cmp nat_cmp) k v r)) p
  put-less k v (x ∷ l) e r p =
      elim (order k x.0) as (λ o. by_order o ((k, v) ∷ x ∷ (l ++ e ∷ r)) ((x.0, v) ∷ (l ++ e ∷ r)) (x ∷ put (slice_cmp nat_cmp) k v (l ++ e ∷ r)) ≡ by_order o ((k, v) ∷ x ∷ l) ((x.0, v) ∷ l) (x ∷ put (slice_cmp nat_cmp) k v l) ++ e ∷ r) [
        | Less ↦ refl
        | Equal ↦ refl
        | Greater ↦ ap (λ es. x ∷ es) (put-less k v l e r p)
      ]

  put-past : (k : List ℕ) (v : V) (l t : Entries V) → AllBefore k l → put (slice_cmp nat_cmp) k v (l ++ t) ≡ l ++ put (slice_cmp nat_cmp) k v t
  put-past k v [] t h = refl
  put-past k v (x ∷ l) t h =
      ap (λ o. by_order o ((k, v) ∷ x ∷ (l ++ t)) ((x.0, v) ∷ (l ++ t)) (x ∷ put (slice_cmp nat_cmp) k v (l ++ t))) h.0
      ∙ ap (λ es. x ∷ es) (put-past k v l t h.1)

  pub put-greater : (k : List ℕ) (v : V) (l : Entries V) (e : Pair V) (r : Entries V) → IsTrue (sorted (l ++ e ∷ r)) → order k e.0 ≡ Greater → put (slice_cmp nat_cmp) k v (l ++ e ∷ r) ≡ l ++ e ∷ put (slice_cmp nat_cmp) k v r
  put-greater k v l e r h p =
      put-past k v l (e ∷ r) (before-greater k l e r h p)
      ∙ ap (λ o. l ++ by_order o ((k, v) ∷ e ∷ r) ((e.0, v) ∷ r) (e ∷ put (slice_cmp nat_cmp) k v r)) p

  pub put-equal : (k : List ℕ) (v : V) (l : Entries V) (e : Pair V) (r : Entries V) → IsTrue (sorted (l ++ e ∷ r)) → order k e.0 ≡ Equal → k ≡ e.0 → put (slice_cmp nat_cmp) k v (l ++ e ∷ r) ≡ l ++ (k, v) ∷ r
  put-equal k v l e r h p same =
      put-past k v l (e ∷ r) (before-equal k l e r h p)
      ∙ ap (λ o. l ++ by_order o ((k, v) ∷ e ∷ r) ((e.0, v) ∷ r) (e ∷ put (slice_cmp nat_cmp) k v r)) p
      ∙ ap (λ q. l ++ (q, v) ∷ r) (sym same)

  pub sorted-put : (k : List ℕ) (v : V) (es : Entries V) → IsTrue (sorted es) → IsTrue (sorted (put (slice_cmp nat_cmp) k v es))
  sorted-put k v es h = from_T _ (is_sorted-put (slice_cmp nat_cmp) nat_list_cmp_total k v es (to_T _ h))

  -- ---- find
  find-none : (k : List ℕ) (t : Entries V) → AllAfter k t → find (slice_cmp nat_cmp) k t ≡ None
  find-none k [] h = refl
  find-none k (x ∷ t) h = ap (λ o. cond (is_eq o) (Some x.1) (find (slice_cmp nat_cmp) k t)) h.0 ∙ find-none k t h.1

  pub find-before : (k : List ℕ) (l t : Entries V) → AllAfter k t → find (slice_cmp nat_cmp) k (l ++ t) ≡ find (slice_cmp nat_cmp) k l
  find-before k [] t h = find-none k t h
  find-before k (x ∷ l) t h = ap (λ o. cond (eq_by_cmp (slice_cmp nat_cmp) k x.0) (Some x.1) o) (find-before k l t h)

  pub find-past : (k : List ℕ) (l t : Entries V) → AllBefore k l → find (slice_cmp nat_cmp) k (l ++ t) ≡ find (slice_cmp nat_cmp) k t
  find-past k [] t h = refl
  find-past k (x ∷ l) t h = ap (λ o. cond (is_eq o) (Some x.1) (find (slice_cmp nat_cmp) k (l ++ t))) h.0 ∙ find-past k l t h.1

  pub find-less : (k : List ℕ) (l : Entries V) (e : Pair V) (r : Entries V) → IsTrue (sorted (l ++ e ∷ r)) → order k e.0 ≡ Less → find (slice_cmp nat_cmp) k (l ++ e ∷ r) ≡ find (slice_cmp nat_cmp) k l
  find-less k l e r h p = find-before k l (e ∷ r) (after-less k l e r h p)

  pub find-equal : (k : List ℕ) (l : Entries V) (e : Pair V) (r : Entries V) → IsTrue (sorted (l ++ e ∷ r)) → order k e.0 ≡ Equal → find (slice_cmp nat_cmp) k (l ++ e ∷ r) ≡ Some e.1
  find-equal k l e r h p =
      find-past k l (e ∷ r) (before-equal k l e r h p)
      ∙ ap (λ o. cond (is_eq o) (Some e.1) (find (slice_cmp nat_cmp) k r)) p

  pub find-greater : (k : List ℕ) (l : Entries V) (e : Pair V) (r : Entries V) → IsTrue (sorted (l ++ e ∷ r)) → order k e.0 ≡ Greater → find (slice_cmp nat_cmp) k (l ++ e ∷ r) ≡ find (slice_cmp nat_cmp) k r
  find-greater k l e r h p =
      find-past k l (e ∷ r) (before-greater k l e r h p)
      ∙ ap (λ o. cond (is_eq o) (Some e.1) (find (slice_cmp nat_cmp) k r)) p

  -- ---- the least key above
  above-append : (k : List ℕ) (l t : Entries V) → least_above k (l ++ t) ≡ or_else (least_above k l) (least_above k t)
  above-append k [] t = refl
  above-append k (x ∷ l) t =
      elim (is_lt (order k x.0)) as (λ b. cond b (Some x.0) (least_above k (l ++ t)) ≡ or_else (cond b (Some x.0) (least_above k l)) (least_above k t)) [
        | true ↦ refl
        | false ↦ above-append k l t
      ]

  above-past : (k : List ℕ) (l t : Entries V) → AllBefore k l → least_above k (l ++ t) ≡ least_above k t
  above-past k [] t h = refl
  above-past k (x ∷ l) t h = ap (λ o. cond (is_lt o) (Some x.0) (least_above k (l ++ t))) h.0 ∙ above-past k l t h.1

  pub above-less : (k : List ℕ) (l : Entries V) (e : Pair V) (r : Entries V) → order k e.0 ≡ Less → least_above k (l ++ e ∷ r) ≡ or_else (least_above k l) (Some e.0)
  above-less k l e r p =
      above-append k l (e ∷ r)
      ∙ ap (λ o. or_else (least_above k l) (cond (is_lt o) (Some e.0) (least_above k r))) p

  pub above-equal : (k : List ℕ) (l : Entries V) (e : Pair V) (r : Entries V) → IsTrue (sorted (l ++ e ∷ r)) → order k e.0 ≡ Equal → least_above k (l ++ e ∷ r) ≡ least_above k r
  above-equal k l e r h p =
      above-past k l (e ∷ r) (before-equal k l e r h p)
      ∙ ap (λ o. cond (is_lt o) (Some e.0) (least_above k r)) p

  pub above-greater : (k : List ℕ) (l : Entries V) (e : Pair V) (r : Entries V) → IsTrue (sorted (l ++ e ∷ r)) → order k e.0 ≡ Greater → least_above k (l ++ e ∷ r) ≡ least_above k r
  above-greater k l e r h p =
      above-past k l (e ∷ r) (before-greater k l e r h p)
      ∙ ap (λ o. cond (is_lt o) (Some e.0) (least_above k r)) p

  -- ---- without a key
  without-after : (k : List ℕ) (t : Entries V) → AllAfter k t → without k t ≡ t
  without-after k [] h = refl
  without-after k (x ∷ t) h =
      ap (λ o. cond (not (is_eq o)) (x ∷ without k t) (without k t)) h.0
      ∙ ap (λ es. x ∷ es) (without-after k t h.1)

  without-before : (k : List ℕ) (t : Entries V) → AllBefore k t → without k t ≡ t
  without-before k [] h = refl
  without-before k (x ∷ t) h =
      ap (λ o. cond (not (is_eq o)) (x ∷ without k t) (without k t)) h.0
      ∙ ap (λ es. x ∷ es) (without-before k t h.1)

  without-append : (k : List ℕ) (l t : Entries V) → without k (l ++ t) ≡ without k l ++ without k t
  without-append k l t = filter-append (λ (e : Pair V). not (eq_by_cmp (slice_cmp nat_cmp) k e.0)) l t

  pub without-less : (k : List ℕ) (l : Entries V) (e : Pair V) (r : Entries V) → IsTrue (sorted (l ++ e ∷ r)) → order k e.0 ≡ Less → without k (l ++ e ∷ r) ≡ without k l ++ e ∷ r
  without-less k l e r h p =
      without-append k l (e ∷ r) ∙ ap (λ t. without k l ++ t) (without-after k (e ∷ r) (after-less k l e r h p))

  pub without-equal : (k : List ℕ) (l : Entries V) (e : Pair V) (r : Entries V) → IsTrue (sorted (l ++ e ∷ r)) → order k e.0 ≡ Equal → without k (l ++ e ∷ r) ≡ l ++ r
  without-equal k l e r h p =
      without-append k l (e ∷ r)
      ∙ ap (λ t. t ++ without k (e ∷ r)) (without-before k l (before-equal k l e r h p))
      ∙ ap (λ o. l ++ cond (not (is_eq o)) (e ∷ without k r) (without k r)) p
      ∙ ap (λ t. l ++ t) (without-after k r (after-equal k l e r h p))

  pub without-greater : (k : List ℕ) (l : Entries V) (e : Pair V) (r : Entries V) → IsTrue (sorted (l ++ e ∷ r)) → order k e.0 ≡ Greater → without k (l ++ e ∷ r) ≡ l ++ e ∷ without k r
  without-greater k l e r h p =
      without-append k l (e ∷ r)
      ∙ ap (λ t. t ++ without k (e ∷ r)) (without-before k l (before-greater k l e r h p))
      ∙ ap (λ o. l ++ cond (not (is_eq o)) (e ∷ without k r) (without k r)) p

  pub sorted-without : (k : List ℕ) (es : Entries V) → IsTrue (sorted es) → IsTrue (sorted (without k es))
  sorted-without k es h = from_T _ (is_sorted-where_key (slice_cmp nat_cmp) (λ q. not (eq_by_cmp (slice_cmp nat_cmp) k q)) es (to_T _ h))

  pub above-not_less : (k : List ℕ) (l : Entries V) (e : Pair V) (r : Entries V) → IsTrue (sorted (l ++ e ∷ r)) → (order k e.0 ≡ Less → ⊥) → least_above k (l ++ e ∷ r) ≡ least_above k r
  above-not_less k l e r h n =
      elim (order k e.0) as (λ o. order k e.0 ≡ o → least_above k (l ++ e ∷ r) ≡ least_above k r) [
        | Less ↦ λ p. absurd (n p)
        | Equal ↦ λ p. above-equal k l e r h p
        | Greater ↦ λ p. above-greater k l e r h p
      ] refl

  -- ---- turns: x ++ e ∷ (y ++ f ∷ z) is (x ++ e ∷ y) ++ f ∷ z
  pub turned : (x : Entries V) (e : Pair V) (y : Entries V) (f : Pair V) (z : Entries V) → (x ++ e ∷ y) ++ f ∷ z ≡ x ++ e ∷ (y ++ f ∷ z)
  turned x e y f z = append_assoc x (e ∷ y) (f ∷ z)

  pub sorted-turned : (x : Entries V) (e : Pair V) (y : Entries V) (f : Pair V) (z : Entries V) → IsTrue (sorted ((x ++ e ∷ y) ++ f ∷ z)) → IsTrue (sorted (x ++ e ∷ (y ++ f ∷ z)))
  sorted-turned x e y f z h = subst (λ es. IsTrue (sorted es)) (turned x e y f z) h

  pub sorted-back : (x : Entries V) (e : Pair V) (y : Entries V) (f : Pair V) (z : Entries V) → IsTrue (sorted (x ++ e ∷ (y ++ f ∷ z))) → IsTrue (sorted ((x ++ e ∷ y) ++ f ∷ z))
  sorted-back x e y f z h = subst (λ es. IsTrue (sorted es)) (sym (turned x e y f z)) h

  pub sorted-past : (x : Entries V) (e : Pair V) (t : Entries V) → IsTrue (sorted (x ++ e ∷ t)) → IsTrue (sorted t)
  sorted-past x e t h = second _ _ (sorted-right x (e ∷ t) h)

  pub low_part : (x : Entries V) (e : Pair V) (y : Entries V) (f : Pair V) (z : Entries V) → IsTrue (sorted (x ++ e ∷ (y ++ f ∷ z))) → IsTrue (sorted (x ++ e ∷ y))
  low_part x e y f z h = sorted-left (x ++ e ∷ y) (f ∷ z) (sorted-back x e y f z h)

  pub high_part : (x : Entries V) (e : Pair V) (y : Entries V) (f : Pair V) (z : Entries V) → IsTrue (sorted ((x ++ e ∷ y) ++ f ∷ z)) → IsTrue (sorted (y ++ f ∷ z))
  high_part x e y f z h = sorted-past x e (y ++ f ∷ z) (sorted-turned x e y f z h)

  -- what is turned twice: (x ++ e ∷ (y ++ f ∷ z)) ++ g ∷ u, and x ++ e ∷ ((y ++ f ∷ z) ++ g ∷ u),
  -- is (x ++ e ∷ y) ++ f ∷ (z ++ g ∷ u)
  pub twice_right : (x : Entries V) (e : Pair V) (y : Entries V) (f : Pair V) (z : Entries V) (g : Pair V) (u : Entries V) → x ++ e ∷ ((y ++ f ∷ z) ++ g ∷ u) ≡ (x ++ e ∷ y) ++ f ∷ (z ++ g ∷ u)
  twice_right x e y f z g u = ap (λ t. x ++ e ∷ t) (turned y f z g u) ∙ sym (turned x e y f (z ++ g ∷ u))

  pub twice_left : (x : Entries V) (e : Pair V) (y : Entries V) (f : Pair V) (z : Entries V) (g : Pair V) (u : Entries V) → (x ++ e ∷ (y ++ f ∷ z)) ++ g ∷ u ≡ (x ++ e ∷ y) ++ f ∷ (z ++ g ∷ u)
  twice_left x e y f z g u = turned x e (y ++ f ∷ z) g u ∙ twice_right x e y f z g u

  pub sorted-along : (a b : Entries V) → a ≡ b → IsTrue (sorted a) → IsTrue (sorted b)
  sorted-along a b e h = subst (λ es. IsTrue (sorted es)) e h

  -- equal parts make an equal whole
  pub same_parts : (x x' : Entries V) (e e' : Pair V) (y y' : Entries V) → x ≡ x' → e ≡ e' → y ≡ y' → x ++ e ∷ y ≡ x' ++ e' ∷ y'
  same_parts x x' e e' y y' p q r = ap (λ t. t ++ e ∷ y) p ∙ ap (λ d. x' ++ d ∷ y) q ∙ ap (λ t. x' ++ e' ∷ t) r
