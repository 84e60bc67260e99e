-- Reading one value after the other, as a loop does.
use Rattle.std.proofs.Common.{map, subst, ◌≡◌, ◌∙◌, ℕ, zero, suc, ◌-◌, ◌<◌, ◌≤◌, List, [], ◌∷◌, ◌++◌, Option, Some, None, refl, ap, sym, arith, append_assoc}
use Rattle.std.proofs.lemmas.List.{append-nil, map-append}
use Rattle.part_bytes.specs.inner.Reading.{◌>>=◌, Reading, in_turn}

-- the values that were read before, and what is read still
abbrev pub with_front : {X : Type 0} → List X → Option (List X × List ℕ) → Option (List X × List ℕ)
with_front front read = read >>= λ xs. Some (front ++ xs.0, xs.1)

module _ {S X : Type 0} (read : S → Reading X) (next : X → S) where
  abbrev pub Turns : Type 0
  Turns = Option (List X × List ℕ)

  regroup : (front : List X) (x : X) (r : Turns) → with_front front (r >>= λ xs. Some (x ∷ xs.0, xs.1)) ≡ with_front (front ++ x ∷ []) r
  regroup front x None = refl
  regroup front x (Some xs) = let same : front ++ (x ∷ xs.0) ≡ (front ++ x ∷ []) ++ xs.0 = sym (append_assoc front (x ∷ []) xs.0) in ap (λ (ys : List X). Some (ys, xs.1)) same

  one : (s : S) (n : ℕ) (bytes : List ℕ) (r : Option (X × List ℕ)) → 0 < n → read s bytes ≡ r → in_turn read next s n bytes ≡ (r >>= λ x. in_turn read next (next x.0) (n - 1) x.1 >>= λ xs. Some (x.0 ∷ xs.0, xs.1))
  unfolding in_turn
  one s zero bytes r h e = absurd (omega arith)
  one s (suc n) bytes r h e =
      let less : suc n - 1 ≡ n = omega arith in
      rw less (ap (λ (r : Option (X × List ℕ)). r >>= λ x. in_turn read next (next x.0) n x.1 >>= λ xs. Some (x.0 ∷ xs.0, xs.1)) e)

  -- what all values give, by those read before and those left
  pub record Along (all : Turns) (front : List X) (s : S) (n : ℕ) (rest : List ℕ) : Type 0 where
    pub same : with_front front (in_turn read next s n rest) ≡ all

  with_none : (r : Turns) → with_front [] r ≡ r
  with_none None = refl
  with_none (Some xs) = refl

  pub begins : (s : S) (n : ℕ) (bytes : List ℕ) → Along (in_turn read next s n bytes) [] s n bytes
  begins s n bytes = record { same = with_none (in_turn read next s n bytes) }

  pub goes_on : (all : Turns) (front : List X) (s : S) (n : ℕ) (rest : List ℕ) (x : X) (behind : List ℕ) → 0 < n → read s rest ≡ Some (x, behind) → Along all front s n rest → Along all (front ++ x ∷ []) (next x) (n - 1) behind
  goes_on all front s n rest x behind h e a =
      record { same = sym (regroup front x (in_turn read next (next x) (n - 1) behind)) ∙ sym (ap (with_front front) (one s n rest (Some (x, behind)) h e)) ∙ a.same }

  pub is_refused : (all : Turns) (front : List X) (s : S) (n : ℕ) (rest : List ℕ) → 0 < n → read s rest ≡ None → Along all front s n rest → all ≡ None
  is_refused all front s n rest h e a = sym a.same ∙ ap (with_front front) (one s n rest None h e)

  pub is_done : (all : Turns) (front : List X) (s : S) (n : ℕ) (rest : List ℕ) → n ≤ 0 → Along all front s n rest → all ≡ Some (front, rest)
  unfolding in_turn
  is_done all front s zero rest h a = sym a.same ∙ ap (λ (xs : List X). Some (xs, rest)) (append-nil front)
  is_done all front s (suc n) rest h a = absurd (omega arith)

  -- the same of values that stand for those read
  pub goes_on_by : {Y : Type 0} (view : Y → X) (all : Turns) (ys zs : List Y) (s : S) (n : ℕ) (rest : List ℕ) (y : Y) (behind : List ℕ) → 0 < n → read s rest ≡ Some (view y, behind) → zs ≡ ys ++ y ∷ []
      → Along all (map view ys) s n rest → Along all (map view zs) (next (view y)) (n - 1) behind
  goes_on_by view all ys zs s n rest y behind h e more a =
      let same : map view ys ++ view y ∷ [] ≡ map view zs = sym (map-append view ys (y ∷ [])) ∙ ap (map view) (sym more) in
      subst (λ (front : List X). Along all front (next (view y)) (n - 1) behind) same (goes_on all (map view ys) s n rest (view y) behind h e a)
