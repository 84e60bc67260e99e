-- Counts of numbers below a limit.
use Rattle.std.proofs.Common.{◌≡◌, ◌∙◌, inl, inr, ℕ, zero, suc, ◌<◌, ◌≤◌, ◌==◌, Bool, true, false, ◌||◌, refl, ap, sym, subst, arith}
use Rattle.std.specs.Prelude.{◌⊎◌, if◌then◌else◌}
use Rattle.std.proofs.lemmas.Bool.{cases_lt}
use Rattle.std.proofs.lemmas.Bool.Decides.{nat_tests}
use Rattle.part_rounds.specs.Counts.{count_below}

-- of one number
abbrev one : Bool → ℕ
one b = if b then 1 else 0

one_implied : (a b : Bool) → (a ≡ true → b ≡ true) → one a ≤ one b
one_implied true b f = subst (λ (c : Bool). 1 ≤ one c) (sym (f refl)) (omega arith)
one_implied false true f = omega arith
one_implied false false f = omega arith

-- with more numbers, or a weaker property, there are no fewer
pub count_more : (p : ℕ → Bool) (n m : ℕ) → n ≤ m → count_below p n ≤ count_below p m
count_more p n zero le =
    let none : n ≡ 0 = omega (arith, le) in
    subst (λ k. count_below p k ≤ 0) (sym none) (omega arith)
count_more p n (suc m) le = elim (cases_lt m n) [
  | inl lt ↦ (
      let same : n ≡ suc m = omega (arith, lt, le) in
      subst (λ k. count_below p k ≤ count_below p (suc m)) (sym same) (omega arith)
      )
  | inr upto ↦ (let before = count_more p n m upto in omega (arith, before))
]

pub count_implied : (p q : ℕ → Bool) (n : ℕ) → ((k : ℕ) → p k ≡ true → q k ≡ true) → count_below p n ≤ count_below q n
count_implied p q zero f = omega arith
count_implied p q (suc n) f =
    let before = count_implied p q n f in
    let last = one_implied (p n) (q n) (f n) in
    omega (arith, before, last)

-- one number more
abbrev pub and_one : (ℕ → Bool) → ℕ → ℕ → Bool
and_one p j k = p k || (k == j)

or_first : (a b : Bool) → a ≡ true → (a || b) ≡ true
or_first true b e = refl
or_first false b e = absurd (cc)

or_last : (a b : Bool) → b ≡ true → (a || b) ≡ true
or_last true b e = refl
or_last false b e = e

itself : (j : ℕ) → (j == j) ≡ true
itself j = grind (arith, nat_tests)

pub count_one : (p : ℕ → Bool) (j n : ℕ) → j < n → p j ≡ false → suc (count_below p n) ≤ count_below (and_one p j) n
count_one p j zero lt not = absurd (omega (arith, lt))
count_one p j (suc n) lt not = elim (cases_lt j n) [
  | inl less ↦ (
      let before = count_one p j n less not in
      let last = one_implied (p n) (and_one p j n) (or_first (p n) (n == j)) in
      omega (arith, before, last)
      )
  | inr from ↦ (
      let same : n ≡ j = omega (arith, lt, from) in
      let before = count_implied p (and_one p j) n (λ k. or_first (p k) (k == j)) in
      let none : one (p n) ≡ 0 = ap (λ k. one (p k)) same ∙ ap one not in
      let here : one (and_one p j n) ≡ 1 = ap one (or_last (p n) (n == j) (ap (λ k. k == j) same ∙ itself j)) in
      omega (arith, before, none, here)
      )
]

-- a number that has the property counts
pub count_next : (p : ℕ → Bool) (n : ℕ) → p n ≡ true → count_below p (suc n) ≡ suc (count_below p n)
count_next p n e =
    let here : one (p n) ≡ 1 = ap one e in
    omega (arith, here)

-- what has one of two properties
pub either : (p : ℕ → Bool) (j k : ℕ) → and_one p j k ≡ true → (p k ≡ true) ⊎ (k ≡ j)
either p j k e = by (p k) (k == j) refl e
  where
    same : (k == j) ≡ true → k ≡ j
    same h = grind (arith, nat_tests, h)

    by : (a b : Bool) → (k == j) ≡ b → (a || b) ≡ true → (a ≡ true) ⊎ (k ≡ j)
    by true b f h = inl refl
    by false b f h = inr (same (f ∙ h))
