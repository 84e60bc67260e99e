-- Reading one value after the other, as a loop does.
use Rattle.std.proofs.Common.{◌≡◌, ℕ, suc, ◌+◌, ◌-◌, ◌<◌, ◌≤◌, List, [], ◌∷◌, ◌++◌, Result, Ok, Err, refl, sym, ap, ◌∙◌, append_assoc, arith}
use Rattle.std.proofs.lemmas.List.{append-nil}
use Rattle.loop_bytes.specs.declared.heads_error.HeadsError.{HeadsError}
use Rattle.loop_bytes.specs.Reading.{◌>>=◌, Reading, in_turn}

-- what was read before, and what is still read
abbrev pub with_front : {X : Type 0} → List X → Result (List X × List ℕ) HeadsError → Result (List X × List ℕ) HeadsError
with_front front read = read >>= λ xs. Ok (front ++ xs.0, xs.1)

regroup : {X : Type 0} (front : List X) (x : X) (read : Result (List X × List ℕ) HeadsError) → with_front front (read >>= λ xs. Ok (x ∷ xs.0, xs.1)) ≡ with_front (front ++ x ∷ []) read
regroup front x (Ok xs) = ap (λ ys. Ok (ys, xs.1)) (sym (append_assoc front (x ∷ []) xs.0))
regroup front x (Err e) = refl

with_nothing : {X : Type 0} (read : Result (List X × List ℕ) HeadsError) → with_front [] read ≡ read
with_nothing (Ok xs) = refl
with_nothing (Err e) = refl

module _ {S X : Type 0} (read : S → Reading X) (next : X → S) where
  -- what the first of the values left gives
  abbrev by_first : ℕ → Result (X × List ℕ) HeadsError → Result (List X × List ℕ) HeadsError
  by_first n first = first >>= λ x. in_turn read next (next x.0) n x.1 >>= λ xs. Ok (x.0 ∷ xs.0, xs.1)

  -- i of n values are read, and s is what the reading of the next one depends on
  pub record Progress (n : ℕ) (s0 : S) (bytes : List ℕ) (front : List X) (i : ℕ) (s : S) (rest : List ℕ) : Type 0 where
    pub so_far : with_front front (in_turn read next s (n - i) rest) ≡ in_turn read next s0 n bytes

  pub begins : (n : ℕ) (s : S) (bytes : List ℕ) (front : List X) → front ≡ [] → Progress n s bytes front 0 s bytes
  begins n s bytes front none =
      let all : n - 0 ≡ n = omega arith in
      record { so_far = ap (λ (xs : List X). with_front xs (in_turn read next s (n - 0) bytes)) none ∙ ap (λ (m : ℕ). with_front [] (in_turn read next s m bytes)) all ∙ with_nothing (in_turn read next s n bytes) }

  one_more : (n : ℕ) (s : S) (bytes : List ℕ) (first : Result (X × List ℕ) HeadsError) → read s bytes ≡ first → in_turn read next s (suc n) bytes ≡ by_first n first
  unfolding in_turn
  one_more n s bytes first h = ap (by_first n) h

  pub goes_on : (n : ℕ) (s0 : S) (bytes : List ℕ) (front : List X) (i : ℕ) (s : S) (rest : List ℕ) (x : X) (behind : List ℕ) → i < n → read s rest ≡ Ok (x, behind)
      → Progress n s0 bytes front i s rest → Progress n s0 bytes (front ++ x ∷ []) (i + 1) (next x) behind
  goes_on n s0 bytes front i s rest x behind lt h p =
      let k = n - (i + 1) in
      let more : n - i ≡ suc k = omega arith in
      let one : with_front front (in_turn read next s (n - i) rest) ≡ with_front (front ++ x ∷ []) (in_turn read next (next x) k behind) =
      ap (λ (m : ℕ). with_front front (in_turn read next s m rest)) more ∙ ap (with_front front) (one_more k s rest (Ok (x, behind)) h) ∙ regroup front x (in_turn read next (next x) k behind) in
      record { so_far = sym one ∙ p.so_far }

  pub ends : (n : ℕ) (s0 : S) (bytes : List ℕ) (front : List X) (i : ℕ) (s : S) (rest : List ℕ) (e : HeadsError) → i < n → read s rest ≡ Err e
      → Progress n s0 bytes front i s rest → in_turn read next s0 n bytes ≡ Err e
  ends n s0 bytes front i s rest e lt h p =
      let k = n - (i + 1) in
      let more : n - i ≡ suc k = omega arith in
      sym p.so_far ∙ ap (λ (m : ℕ). with_front front (in_turn read next s m rest)) more ∙ ap (with_front front) (one_more k s rest (Err e) h)

  pub is_done : (n : ℕ) (s0 : S) (bytes : List ℕ) (front : List X) (i : ℕ) (s : S) (rest : List ℕ) → n ≤ i → Progress n s0 bytes front i s rest → in_turn read next s0 n bytes ≡ Ok (front, rest)
  unfolding in_turn
  is_done n s0 bytes front i s rest le p =
      let none : n - i ≡ 0 = omega arith in
      sym p.so_far ∙ ap (λ (m : ℕ). with_front front (in_turn read next s m rest)) none ∙ ap (λ (xs : List X). Ok (xs, rest)) (append-nil front)
