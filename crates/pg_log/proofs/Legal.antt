-- Legal lists: their beginnings, and one more request.
use Rattle.std.proofs.Common.{◌<◌, List, [], ◌∷◌, ◌++◌, length, ap, sym, ◌∙◌, subst, arith, length-append, ⊎_elim}
use Rattle.std.proofs.lemmas.Option.{none-some, slice_get_within}
use Rattle.pg_log.specs.Requests.{ClientRequest}
use Rattle.pg_log.specs.Log.{Classes, Legal, CanRun}
use Rattle.pg_log.specs.Refusals.{Follows}
use Rattle.pg_log.proofs.Lists.{get_before, get_last, get_push}

pub legal_beginning : (classes : Classes) (xs ys : List ClientRequest) → Legal classes (xs ++ ys) → Legal classes xs
legal_beginning classes xs ys l = record {
  limit = omega (arith, length-append xs ys, l.limit);
  run = λ i r e. l.run i r (get_before xs ys i (slice_get_within xs i r e) ∙ e);
  rise = λ i j a b h p q c. l.rise i j a b h (get_before xs ys i (slice_get_within xs i a p) ∙ p) (get_before xs ys j (slice_get_within xs j b q) ∙ q) c;
}

pub legal_empty : (classes : Classes) → Legal classes []
legal_empty classes = record {
  limit = omega arith;
  run = λ i r e. absurd (none-some r e);
  rise = λ i j a b h p q c. absurd (none-some a p);
}

pub follows : (classes : Classes) (xs : List ClientRequest) (r : ClientRequest) → Legal classes (xs ++ r ∷ []) → Follows classes xs r
follows classes xs r l = record {
  room = omega (arith, length-append xs (r ∷ []), l.limit);
  run = l.run (length xs) r (get_last xs r);
  above = λ i a e c. l.rise i (length xs) a r (slice_get_within xs i a e) (get_before xs (r ∷ []) i (slice_get_within xs i a e) ∙ e) (get_last xs r) c;
}

pub legal_push : (classes : Classes) (xs : List ClientRequest) (r : ClientRequest) → Legal classes xs → Follows classes xs r → Legal classes (xs ++ r ∷ [])
legal_push classes xs r l f = record {
  limit = omega (arith, length-append xs (r ∷ []), f.room);
  run = λ i q e.
      let P : ClientRequest → Type 0 = CanRun classes in
      ⊎_elim (λ h. l.run i q h.1) (λ h. subst P (sym h.1) f.run) (get_push xs r q i e);
  rise = λ i j a b h p q c.
      let P : ClientRequest → Type 0 = λ w. a.number < w.number in
      ⊎_elim
      (λ k. l.rise i j a b h (sym (get_before xs (r ∷ []) i (omega (arith, h, k.0))) ∙ p) k.1 c)
      (λ k. subst P (sym k.1) (f.above i a (sym (get_before xs (r ∷ []) i (omega (arith, h, k.0))) ∙ p) (c ∙ ap (λ w. w.client) k.1)))
      (get_push xs r b j q);
}
