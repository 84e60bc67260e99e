-- Pairs of client and number in lists.
use Rattle.std.proofs.Common.{◌≡◌, ◌<◌, length, ℕ, zero, suc, true, false, List, [], ◌∷◌, Some, None, Option, refl, ap, sym, ◌∙◌, arith, ⊎_elim, cond}
use Rattle.std.specs.List.{slice_get}
use Rattle.std.proofs.lemmas.Option.{none-some, same_Some, slice_get_within}
use Rattle.std.proofs.lemmas.Bool.{cases_lt}
use Rattle.std.proofs.lemmas.Bool.Decides.{nat_tests}
use Rattle.pg_log.specs.Requests.{ClientRequest}
use Rattle.pg_log.specs.Log.{Classes, Legal}
use Rattle.pg_log.specs.Refusals.{is_pair, place_of, one_later}

pub same_place : (classes : Classes) (xs : List ClientRequest) → Legal classes xs → (i j : ℕ) (a b : ClientRequest) →
    slice_get xs i ≡ Some a → slice_get xs j ≡ Some b → a.client ≡ b.client → a.number ≡ b.number → i ≡ j
same_place classes xs l i j a b p q c n =
    ⊎_elim
    (λ h. absurd (omega (arith, l.rise i j a b h p q c, n)))
    (λ h. ⊎_elim (λ k. absurd (omega (arith, l.rise j i b a k q p (sym c), n))) (λ k. omega (arith, h, k)) (cases_lt j i))
    (cases_lt i j)

pub is_pair-same : (client number : ℕ) (r : ClientRequest) → is_pair client number r ≡ true → (r.client ≡ client) × (r.number ≡ number)
is_pair-same client number r e = (grind (arith, nat_tests), grind (arith, nat_tests))

pub is_pair-itself : (r : ClientRequest) → is_pair r.client r.number r ≡ true
is_pair-itself r = grind (arith, nat_tests)

later : (o : Option ℕ) (place : ℕ) → one_later o ≡ Some place → (k : ℕ) × (o ≡ Some k) × (place ≡ suc k)
later None place e = absurd (none-some place e)
later (Some k) place e = (k, refl, sym (same_Some (suc k) place e))

-- the request at the place of a pair
pub place_of-has : (xs : List ClientRequest) (client number place : ℕ) → place_of client number xs ≡ Some place →
    (a : ClientRequest) × (slice_get xs place ≡ Some a) × (a.client ≡ client) × (a.number ≡ number)
place_of-has [] client number place e = absurd (none-some place e)
place_of-has (r ∷ rs) client number place e =
    elim (is_pair client number r) as (λ b. is_pair client number r ≡ b → cond b (Some 0) (one_later (place_of client number rs)) ≡ Some place
    → (a : ClientRequest) × (slice_get (r ∷ rs) place ≡ Some a) × (a.client ≡ client) × (a.number ≡ number)) [
      | true ↦ λ t h. let s = is_pair-same client number r t in (r, ap (slice_get (r ∷ rs)) (sym (same_Some 0 place h)), s.0, s.1)
      | false ↦ λ t h.
          let p = later (place_of client number rs) place h in
          let w = place_of-has rs client number p.0 p.1 in
          (w.0, ap (slice_get (r ∷ rs)) p.2 ∙ w.1, w.2, w.3)
    ] refl e

-- that place is in range
pub place_of-within : (xs : List ClientRequest) (client number place : ℕ) → place_of client number xs ≡ Some place →
    (place < length xs) × (a : ClientRequest) × (slice_get xs place ≡ Some a) × (a.client ≡ client) × (a.number ≡ number)
place_of-within xs client number place e =
    let w = place_of-has xs client number place e in
    (slice_get_within xs place w.0 w.1, w.0, w.1, w.2, w.3)

-- the pair of each request in a list has a place
pub place_of-there : (xs : List ClientRequest) (i : ℕ) (a : ClientRequest) → slice_get xs i ≡ Some a → (k : ℕ) × (place_of a.client a.number xs ≡ Some k)
place_of-there [] i a e = absurd (none-some a e)
place_of-there (x ∷ xs) zero a e = (
  0,
  ap (λ w. cond (is_pair a.client a.number w) (Some 0) (one_later (place_of a.client a.number xs))) (same_Some x a e)
      ∙ ap (λ b. cond b (Some 0) (one_later (place_of a.client a.number xs))) (is_pair-itself a),
)
place_of-there (x ∷ xs) (suc i) a e =
    let w = place_of-there xs i a e in
    elim (is_pair a.client a.number x) as (λ b. (k : ℕ) × (cond b (Some 0) (one_later (place_of a.client a.number xs)) ≡ Some k)) [
      | true ↦ (0, refl)
      | false ↦ (suc w.0, ap one_later w.1)
    ]

pub place_of-legal : (classes : Classes) (xs : List ClientRequest) → Legal classes xs → (i : ℕ) (a : ClientRequest) → slice_get xs i ≡ Some a → place_of a.client a.number xs ≡ Some i
place_of-legal classes xs l i a e =
    let w = place_of-there xs i a e in
    let h = place_of-has xs a.client a.number w.0 w.1 in
    w.1 ∙ ap (λ (k : ℕ). Some k) (same_place classes xs l w.0 i h.0 a h.1 e h.2 h.3)
