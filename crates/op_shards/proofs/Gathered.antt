-- Two takers' ends as one.
use Rattle.std.proofs.Common.{◌≡◌, ℕ, zero, suc, ◌+◌, ◌<◌, ◌≤◌, List, [], ◌∷◌, ◌++◌, length, map, set, get_or, refl, sym, ap, ◌∙◌, subst, arith}
use Rattle.std.specs.Prelude.{All}
use Rattle.std.proofs.lemmas.List.{length-map}
use Rattle.atomic_table.specs.Seated.{TableId}
use Rattle.op_shards.specs.Passes.{Spot, queues_of, spots, Got, parts_of, joined_end, join_ends, put_together, after_gather}
use Rattle.op_shards.proofs.EndSteps.{take_view, TakeInPlace}
use Rattle.op_shards.proofs.NewEnds.{map_twice}

module _ {T : Type 0} where
  -- two takers' ends put together from the i-th on
  abbrev pub join_from : ℕ → List (Got T) → List (Got T) → List (Got T)
  join_from zero xs ys = join_ends xs ys
  join_from (suc i) [] ys = []
  join_from (suc i) (x ∷ xs) [] = x ∷ xs
  join_from (suc i) (x ∷ xs) (y ∷ ys) = x ∷ join_from i xs ys

  join_next : (i : ℕ) (xs ys : List (Got T)) (x y z : Got T) → i < length xs → i < length ys → x ≡ get_or xs i x → y ≡ get_or ys i y → join_from (suc i) (set xs i (joined_end x y)) (set ys i z) ≡ join_from i xs ys
  join_next i [] ys x y z lt gt at here = absurd (omega (arith, lt))
  join_next i (x' ∷ xs) [] x y z lt gt at here = absurd (omega (arith, gt))
  join_next zero (x' ∷ xs) (y' ∷ ys) x y z lt gt at here = λ k. joined_end (at k) (here k) ∷ join_ends xs ys
  join_next (suc i) (x' ∷ xs) (y' ∷ ys) x y z lt gt at here = ap (λ l. x' ∷ l) (join_next i xs ys x y z (omega (arith, lt)) (omega (arith, gt)) at here)

  pub join_step : (i : ℕ) (xs ys : List (Got T)) (x y v z : Got T) → i < length xs → i < length ys → x ≡ get_or xs i x → y ≡ get_or ys i y → v ≡ joined_end x y → join_from (i + 1) (set xs i v) (set ys i z) ≡ join_from i xs ys
  join_step i xs ys x y v z lt gt at here is =
      let n : i + 1 ≡ suc i = omega arith in
      (λ k. join_from (n k) (set xs i (is k)) (set ys i z)) ∙ join_next i xs ys x y z lt gt at here

  pub join_end : (i : ℕ) (xs ys : List (Got T)) → length xs ≤ i → join_from i xs ys ≡ xs
  join_end zero [] ys le = refl
  join_end zero (x ∷ xs) ys le = absurd (omega (arith, le))
  join_end (suc i) [] ys le = refl
  join_end (suc i) (x ∷ xs) [] le = refl
  join_end (suc i) (x ∷ xs) (y ∷ ys) le = ap (λ l. x ∷ l) (join_end i xs ys (omega (arith, le)))

  join_spots : (xs ys : List (Got T)) → map (λ (l : Got T). l.spot) (join_ends xs ys) ≡ map (λ (l : Got T). l.spot) xs
  join_spots [] ys = refl
  join_spots (x ∷ xs) [] = refl
  join_spots (x ∷ xs) (y ∷ ys) = ap (λ l. x.spot ∷ l) (join_spots xs ys)

  join_taken : (xs ys : List (Got T)) → map (λ (l : Got T). l.taken) (join_ends xs ys) ≡ put_together (map (λ (l : Got T). l.taken) xs) (map (λ (l : Got T). l.taken) ys)
  join_taken [] ys = refl
  join_taken (x ∷ xs) [] = refl
  join_taken (x ∷ xs) (y ∷ ys) = ap (λ l. (x.taken ++ y.taken) ∷ l) (join_taken xs ys)

  join_parts : (xs ys : List (Got T)) → length xs ≡ length ys → parts_of (join_ends xs ys) ≡ parts_of xs + parts_of ys
  join_parts [] [] e = refl
  join_parts [] (y ∷ ys) e = absurd (omega (arith, e))
  join_parts (x ∷ xs) [] e = absurd (omega (arith, e))
  join_parts (x ∷ xs) (y ∷ ys) e = refl

  join_all : (a b : ℕ) (xs ys : List (Got T)) → length xs ≡ length ys → All (λ (l : Got T). l.parts ≡ a) xs → All (λ (l : Got T). l.parts ≡ b) ys → All (λ (l : Got T). l.parts ≡ a + b) (join_ends xs ys)
  join_all a b [] ys e p q k d lt = absurd (omega (arith, lt))
  join_all a b (x ∷ xs) [] e p q k d lt = absurd (omega (arith, e))
  join_all a b (x ∷ xs) (y ∷ ys) e p q zero d lt = λ i. p 0 x (omega arith) i + q 0 y (omega arith) i
  join_all a b (x ∷ xs) (y ∷ ys) e p q (suc k) d lt = join_all a b xs ys (omega (arith, e)) (λ j u l. p (suc j) u (omega (arith, l))) (λ j u l. q (suc j) u (omega (arith, l))) k d (omega (arith, lt))

  abbrev pub TakeKept : ℕ → ℕ → List (Got T) → Type 0
  TakeKept s t ends = TakeInPlace s t ends × (0 < parts_of ends) × All (λ (l : Got T). l.parts ≡ parts_of ends) ends

  length_by_spots : (xs ys : List (Got T)) → map (λ (l : Got T). l.spot) ys ≡ map (λ (l : Got T). l.spot) xs → length xs ≡ length ys
  length_by_spots xs ys e = sym (sym (length-map ys (λ (l : Got T). l.spot)) ∙ ap length e ∙ length-map xs (λ (l : Got T). l.spot))

  queues_by_spots : (xs ys : List (Got T)) → map (λ (l : Got T). l.spot) ys ≡ map (λ (l : Got T). l.spot) xs → map (λ (l : Got T). l.spot.queue) ys ≡ map (λ (l : Got T). l.spot.queue) xs
  queues_by_spots xs ys e = sym (map_twice (λ (l : Got T). l.spot) (λ p. p.queue) ys) ∙ ap (map (λ (p : Spot). p.queue)) e ∙ map_twice (λ (l : Got T). l.spot) (λ p. p.queue) xs

  pub spot_queues : (xs ys : List (Got T)) → map (λ (l : Got T). l.spot) xs ≡ map (λ (l : Got T). l.spot) ys → map (λ (l : Got T). l.spot.queue) xs ≡ map (λ (l : Got T). l.spot.queue) ys
  spot_queues xs ys e = queues_by_spots ys xs e

  pub join_kept : (s t : ℕ) (xs ys : List (Got T)) → map (λ (l : Got T). l.spot) ys ≡ map (λ (l : Got T). l.spot) xs → TakeKept s t xs → (0 < parts_of ys) × All (λ (l : Got T). l.parts ≡ parts_of ys) ys → TakeKept s t (join_ends xs ys)
  join_kept s t xs ys same kept theirs =
      let e = length_by_spots xs ys same in
      let parts = join_parts xs ys e in
      let queues = queues_by_spots xs (join_ends xs ys) (join_spots xs ys) in
      let all = join_all (parts_of xs) (parts_of ys) xs ys e kept.2 theirs.1 in (
        join_spots xs ys ∙ kept.0 ∙ ap (λ (l : List TableId). spots (queues_of l s t)) (sym queues),
        subst (λ (n : ℕ). 0 < n) (sym parts) (omega (arith, kept.1)),
        subst (λ (n : ℕ). All (λ (l : Got T). l.parts ≡ n) (join_ends xs ys)) (sym parts) all,
      )

  pub join_view : (s t : ℕ) (xs ys : List (Got T)) → map (λ (l : Got T). l.spot) ys ≡ map (λ (l : Got T). l.spot) xs → (s' t' : ℕ) → take_view s t (join_ends xs ys) ≡ after_gather (take_view s t xs) (take_view s' t' ys)
  join_view s t xs ys same s' t' =
      let queues = queues_by_spots xs (join_ends xs ys) (join_spots xs ys) in
      λ i. record { queues = queues_of (queues i) s t; takers = join_parts xs ys (length_by_spots xs ys same) i; taken = join_taken xs ys i }

  -- two passes of the same queues have the same spots
  pub same_spots : (s t s' t' : ℕ) (xs ys : List (Got T)) → TakeInPlace s t xs → TakeInPlace s' t' ys → queues_of (map (λ (l : Got T). l.spot.queue) ys) s' t' ≡ queues_of (map (λ (l : Got T). l.spot.queue) xs) s t → map (λ (l : Got T). l.spot) ys ≡ map (λ (l : Got T). l.spot) xs
  same_spots s t s' t' xs ys p q e = q ∙ ap spots e ∙ sym p
