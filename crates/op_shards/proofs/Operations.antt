-- Lists of operations, and lists of passes.
use Rattle.std.proofs.Common.{◌≡◌, ◌≢◌, ℕ, zero, suc, ◌+◌, ◌<◌, ◌≤◌, List, [], ◌∷◌, ◌++◌, length, set, eqb, eq-eqb, ne_eqb, Bool, true, false, cond, refl, sym, ap, ◌∙◌, subst, ⊎_elim, arith, length-append}
use Rattle.std.specs.Prelude.{◌==◌}
use mathlib.Core.Option.{some, some-ne-none, some-injective}
use lib.ListN.{get_elem?}
use native.Mathlib.Decide.{ℕ_discrete}
use mathlib.Core.Logic.{dite}
use Rattle.crossbeam_queue.proofs.Lists.{at_set}
use Rattle.atomic_table.proofs.Lists.{at_longer, set_else}
use Rattle.op_shards.specs.declared.rule.Ranked.{Ranked}
use Rattle.op_shards.specs.declared.rule.PassState.{PassState}
use Rattle.op_shards.specs.Order.{of, IsRanked, Each, weigh, total, HasSender}

-- the function f, but with x at k
pub swapped : {A : Type 0} → (ℕ → A) → ℕ → A → ℕ → A
swapped f k x i = cond (eqb i k) x (f i)

pub swapped_here : {A : Type 0} (f : ℕ → A) (k i : ℕ) (x : A) → i ≡ k → swapped f k x i ≡ x
unfolding swapped
swapped_here {A} f k i x e = ap (λ (b : Bool). cond b x (f i)) (eq-eqb i k e)

pub swapped_else : {A : Type 0} (f : ℕ → A) (k i : ℕ) (x : A) → i ≢ k → swapped f k x i ≡ f i
unfolding swapped
swapped_else {A} f k i x n = ap (λ (b : Bool). cond b x (f i)) (ne_eqb i k n)

module _ {V : Type 0} where
  pub all_set : (F : ℕ → V → Type 0) (views : List V) (by : ℕ) (w : V) → F by w → ((j : ℕ) (u : V) → j ≢ by → get_elem? views j ≡ some u → F j u) → (j : ℕ) (u : V) → get_elem? (set views by w) j ≡ some u → F j u
  all_set F views by w mine others j u e =
      ⊎_elim (λ (x : (j ≡ by) × (w ≡ u)). subst (λ (y : ℕ × V). F y.0 y.1) (λ i. (sym x.0 i, x.1 i)) mine)
      (λ (x : (j ≢ by) × (get_elem? views j ≡ some u)). others j u x.0 x.1)
      (at_set views by j w u e)

  pub all_more : (F : ℕ → V → Type 0) (views : List V) (w : V) → F (length views) w → ((j : ℕ) (u : V) → get_elem? views j ≡ some u → F j u) → (j : ℕ) (u : V) → get_elem? (views ++ w ∷ []) j ≡ some u → F j u
  all_more F [] w mine others zero u e = subst (F 0) (some-injective w u e) mine
  all_more F [] w mine others (suc j) u e = absurd (some-ne-none u (sym e))
  all_more F (x ∷ xs) w mine others zero u e = others zero u e
  all_more F (x ∷ xs) w mine others (suc j) u e = all_more (λ k. F (suc k)) xs w mine (λ k. others (suc k)) j u e

  pub set_here : (views : List V) (by : ℕ) (v w : V) → get_elem? views by ≡ some v → get_elem? (set views by w) by ≡ some w
  set_here [] by v w e = absurd (some-ne-none v (sym e))
  set_here (x ∷ xs) zero v w e = refl
  set_here (x ∷ xs) (suc by) v w e = set_here xs by v w e

  -- the place of the only element of a list
  pub only_one : (x v : V) (by : ℕ) → get_elem? (x ∷ []) by ≡ some v → (by ≡ 0) × (v ≡ x)
  only_one x v zero e = (refl, sym (some-injective x v e))
  only_one x v (suc by) e = absurd (some-ne-none v (sym e))

module _ {T : Type 0} where
  -- A pass has a sender also after one pass changed, if the new pass keeps the sender or the old
  -- one didn't have it.
  has_after : (views : List (PassState T)) (by : ℕ) (v w : PassState T) → get_elem? views by ≡ some v → (j p : ℕ) → (v.first ≤ p → p < v.end → (w.first ≤ p) × (p < w.end)) → HasSender views j p → HasSender (set views by w) j p
  has_after views by v w at j p keeps h =
      dite (ℕ_discrete j by)
      (λ e.
      let same : h.0 ≡ v = some-injective h.0 v (sym h.1 ∙ ap (get_elem? views) e ∙ at) in
      let kept = keeps (subst (λ (u : PassState T). u.first ≤ p) same h.2) (subst (λ (u : PassState T). p < u.end) same h.3) in
      (w, ap (get_elem? (set views by w)) e ∙ set_here views by v w at, kept.0, kept.1))
      (λ ne. (h.0, set_else views by j w ne ∙ h.1, h.2, h.3))

  -- a change of a pass that keeps its senders
  pub has_set : (views : List (PassState T)) (by : ℕ) (v w : PassState T) → get_elem? views by ≡ some v → w.first ≡ v.first → w.end ≡ v.end → (j p : ℕ) → HasSender views j p → HasSender (set views by w) j p
  has_set views by v w at first end j p = has_after views by v w at j p (λ lo hi. (omega (arith, first, lo), omega (arith, end, hi)))

  -- a pass that gave its first sender away
  pub has_rest : (views : List (PassState T)) (by : ℕ) (v w : PassState T) → get_elem? views by ≡ some v → (j p : ℕ) → (v.first ≤ p → w.first ≤ p) → w.end ≡ v.end → HasSender views j p → HasSender (set views by w) j p
  has_rest views by v w at j p later end = has_after views by v w at j p (λ lo hi. (later lo, omega (arith, end, hi)))

  -- a change of a pass without senders
  pub has_still : (views : List (PassState T)) (by : ℕ) (v w : PassState T) → get_elem? views by ≡ some v → v.end ≡ 0 → (j p : ℕ) → HasSender views j p → HasSender (set views by w) j p
  has_still views by v w at none j p = has_after views by v w at j p (λ lo hi. absurd (omega (arith, none, hi)))

  -- a new pass
  pub has_more : (views : List (PassState T)) (w : PassState T) (j p : ℕ) → HasSender views j p → HasSender (views ++ w ∷ []) j p
  has_more views w j p h = (h.0, at_longer views (w ∷ []) j h.0 h.1, h.2, h.3)

  pub of_append : (p : ℕ) (xs ys : List (Ranked T)) → of p (xs ++ ys) ≡ of p xs ++ of p ys
  of_append p [] ys = refl
  of_append p (x ∷ xs) ys = elim (x.sender == p) as (λ b. cond b (x ∷ of p (xs ++ ys)) (of p (xs ++ ys)) ≡ cond b (x ∷ of p xs) (of p xs) ++ of p ys) [ true ↦ ap (λ (l : List (Ranked T)). x ∷ l) (of_append p xs ys) | false ↦ of_append p xs ys ]

  pub of_here : (p : ℕ) (x : Ranked T) (xs : List (Ranked T)) → x.sender ≡ p → of p (x ∷ xs) ≡ x ∷ of p xs
  of_here p x xs e = ap (λ (b : Bool). cond b (x ∷ of p xs) (of p xs)) (eq-eqb x.sender p e)

  pub of_else : (p : ℕ) (x : Ranked T) (xs : List (Ranked T)) → x.sender ≢ p → of p (x ∷ xs) ≡ of p xs
  of_else p x xs n = ap (λ (b : Bool). cond b (x ∷ of p xs) (of p xs)) (ne_eqb x.sender p n)

  pub length_of_more : (p : ℕ) (xs : List (Ranked T)) (x : Ranked T) → length (of p xs) ≤ length (of p (xs ++ x ∷ []))
  length_of_more p xs x =
      let e : length (of p (xs ++ x ∷ [])) ≡ length (of p xs ++ of p (x ∷ [])) = ap length (of_append p xs (x ∷ [])) in
      omega (arith, e, length-append (of p xs) (of p (x ∷ [])))

  pub length_of_sender : (p : ℕ) (xs : List (Ranked T)) (x : Ranked T) → x.sender ≡ p → length (of p (xs ++ x ∷ [])) ≡ length (of p xs) + 1
  length_of_sender p xs x same_sender =
      let e : length (of p (xs ++ x ∷ [])) ≡ length (of p xs ++ of p (x ∷ [])) = ap length (of_append p xs (x ∷ [])) in
      let one : length (of p (x ∷ [])) ≡ 1 = ap length (of_here p x [] same_sender) in
      omega (arith, e, one, length-append (of p xs) (of p (x ∷ [])))

  pub ranked_snoc : (k : ℕ) (xs : List (Ranked T)) (x : Ranked T) → IsRanked k xs → x.rank ≡ k + length xs → IsRanked k (xs ++ x ∷ [])
  ranked_snoc k [] x i e = (omega (arith, e), tt)
  ranked_snoc k (y ∷ ys) x i e = (i.0, ranked_snoc (suc k) ys x i.1 (omega (arith, e)))

  pub ranked_at : (k : ℕ) (xs ys : List (Ranked T)) (x : Ranked T) → IsRanked k (xs ++ x ∷ ys) → x.rank ≡ k + length xs
  ranked_at k [] ys x i = let r = i.0 in omega (arith, r)
  ranked_at k (y ∷ xs) ys x i = let r = ranked_at (suc k) xs ys x i.1 in omega (arith, r)

  pub each_snoc : (P : Ranked T → Type 0) (xs : List (Ranked T)) (x : Ranked T) → Each P xs → P x → Each P (xs ++ x ∷ [])
  each_snoc P [] x a p = (p, tt)
  each_snoc P (y ∷ ys) x a p = (a.0, each_snoc P ys x a.1 p)

  pub each_append : (P : Ranked T → Type 0) (xs ys : List (Ranked T)) → Each P xs → Each P ys → Each P (xs ++ ys)
  each_append P [] ys a b = b
  each_append P (x ∷ xs) ys a b = (a.0, each_append P xs ys a.1 b)

  pub each_at : (P : Ranked T → Type 0) (xs ys : List (Ranked T)) (x : Ranked T) → Each P (xs ++ x ∷ ys) → P x
  each_at P [] ys x a = a.0
  each_at P (y ∷ xs) ys x a = each_at P xs ys x a.1

  pub each_so : (P Q : Ranked T → Type 0) (xs : List (Ranked T)) → ((x : Ranked T) → P x → Q x) → Each P xs → Each Q xs
  each_so P Q [] f a = tt
  each_so P Q (x ∷ xs) f a = (f x a.0, each_so P Q xs f a.1)

  pub weigh_append : (h : Ranked T → ℕ) (xs ys : List (Ranked T)) → weigh h (xs ++ ys) ≡ weigh h xs + weigh h ys
  weigh_append h [] ys = omega arith
  weigh_append h (x ∷ xs) ys = let r = weigh_append h xs ys in omega (arith, r)

  pub weigh_ones : (xs : List (Ranked T)) → weigh (λ _. 1) xs ≡ length xs
  weigh_ones [] = refl
  weigh_ones (x ∷ xs) = let r = weigh_ones xs in omega (arith, r)

  -- the total after a change of one pass
  pub total_set : (f : PassState T → ℕ) (views : List (PassState T)) (by : ℕ) (v w : PassState T) → get_elem? views by ≡ some v → total f (set views by w) + f v ≡ total f views + f w
  total_set f [] by v w e = absurd (some-ne-none v (sym e))
  total_set f (x ∷ xs) zero v w e = let same : f x ≡ f v = ap f (some-injective x v e) in omega (arith, same)
  total_set f (x ∷ xs) (suc by) v w e = let r = total_set f xs by v w e in omega (arith, r)

  pub total_add : (f : PassState T → ℕ) (views : List (PassState T)) (w : PassState T) → total f (views ++ w ∷ []) ≡ total f views + f w
  total_add f [] w = omega arith
  total_add f (x ∷ xs) w = let r = total_add f xs w in omega (arith, r)

  pub part_of_total : (f : PassState T → ℕ) (views : List (PassState T)) (by : ℕ) (v : PassState T) → get_elem? views by ≡ some v → f v ≤ total f views
  part_of_total f [] by v e = absurd (some-ne-none v (sym e))
  part_of_total f (x ∷ xs) zero v e = let same : f x ≡ f v = ap f (some-injective x v e) in omega (arith, same)
  part_of_total f (x ∷ xs) (suc by) v e = let r = part_of_total f xs by v e in omega (arith, r)

  nothing : (f : PassState T → ℕ) (views : List (PassState T)) → total (λ u. u.parts) views ≡ 0 → ((by : ℕ) (u : PassState T) → get_elem? views by ≡ some u → u.parts ≡ 0 → f u ≡ 0) → total f views ≡ 0
  nothing f [] none idle = refl
  nothing f (x ∷ xs) none idle =
      let first : x.parts ≡ 0 = omega (arith, none) in
      let here = idle 0 x refl first in
      let rest : total (λ (u : PassState T). u.parts) xs ≡ 0 = omega (arith, none) in
      let r = nothing f xs rest (λ by u. idle (suc by) u) in
      omega (arith, here, r)

  -- if one pass has all parts and those without parts add nothing, the total is that pass's number
  pub total_alone : (f : PassState T → ℕ) (views : List (PassState T)) (by : ℕ) (v : PassState T) → get_elem? views by ≡ some v → total (λ u. u.parts) views ≡ v.parts
      → ((by : ℕ) (u : PassState T) → get_elem? views by ≡ some u → u.parts ≡ 0 → f u ≡ 0) → total f views ≡ f v
  total_alone f [] by v e all idle = absurd (some-ne-none v (sym e))
  total_alone f (x ∷ xs) zero v e all idle =
      let same : f x ≡ f v = ap f (some-injective x v e) in
      let parts : x.parts ≡ v.parts = ap (λ (u : PassState T). u.parts) (some-injective x v e) in
      let rest : total (λ (u : PassState T). u.parts) xs ≡ 0 = omega (arith, all, parts) in
      let r = nothing f xs rest (λ by u. idle (suc by) u) in
      omega (arith, same, r)
  total_alone f (x ∷ xs) (suc by) v e all idle =
      let part = part_of_total (λ (u : PassState T). u.parts) xs by v e in
      let first : x.parts ≡ 0 = omega (arith, all, part) in
      let here = idle 0 x refl first in
      let rest : total (λ (u : PassState T). u.parts) xs ≡ v.parts = omega (arith, all, first) in
      let r = total_alone f xs by v e rest (λ by u. idle (suc by) u) in
      omega (arith, here, r)

  -- h of a sender's operations, and 0 of the others
  abbrev pub weight_of : ℕ → (Ranked T → ℕ) → Ranked T → ℕ
  weight_of p h x = cond (x.sender == p) (h x) 0

  pub weigh_of : (p : ℕ) (h : Ranked T → ℕ) (xs : List (Ranked T)) → weigh h (of p xs) ≡ weigh (weight_of p h) xs
  weigh_of p h [] = refl
  weigh_of p h (x ∷ xs) =
      let r = weigh_of p h xs in
      elim (x.sender == p) as (λ b. weigh h (cond b (x ∷ of p xs) (of p xs)) ≡ cond b (h x) 0 + weigh (weight_of p h) xs) [ true ↦ omega (arith, r) | false ↦ omega (arith, r) ]
