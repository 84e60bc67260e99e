-- A legal list by a table with classes added.
use Rattle.std.proofs.Common.{◌≡◌, ℕ, suc, List, [], ◌∷◌, ◌++◌, take, Option, Some, None, refl, ap, ◌∙◌}
use Rattle.std.specs.List.{slice_get}
use Rattle.std.specs.FinMap as map
use Rattle.std.proofs.lemmas.Option.{slice_get_within}
use Rattle.object_store.specs.Names.{PlainObjects, stored}
use Rattle.pg_log.specs.Requests.{ClientRequest}
use Rattle.pg_log.specs.Log.{Classes, Legal, CanRun, method_in, outcome, outcome_of_method, after, fold, fold_from, reply_to}
use Rattle.pg_log.specs.Laws.{SameWithMore}
use Rattle.pg_log.proofs.Lists.{get_before, get_take}

module _ (classes more : Classes) where
  pub loaded-more : (r : ClientRequest) → CanRun classes r → slice_get (classes ++ more) r.class ≡ slice_get classes r.class
  loaded-more r c = get_before classes more r.class (slice_get_within classes r.class c.class c.loaded)

  pub CanRun-more : (r : ClientRequest) → CanRun classes r → CanRun (classes ++ more) r
  CanRun-more r c = record { class = c.class; loaded = loaded-more r c ∙ c.loaded; method = c.method; named = c.named; short = c.short }

  pub outcome-more : (objects : PlainObjects) (r : ClientRequest) → CanRun classes r → outcome (classes ++ more) objects r ≡ outcome classes objects r
  outcome-more objects r c =
      ap (λ o. outcome_of_method (method_in o r.method) (map.get objects r.object) r) (loaded-more r c)

  pub after-more : (objects : PlainObjects) (r : ClientRequest) → CanRun classes r → after (classes ++ more) objects r ≡ after classes objects r
  after-more objects r c = ap (λ o. stored objects r.object o.object) (outcome-more objects r c)

  pub fold_from-more : (objects : PlainObjects) (xs : List ClientRequest) → ((i : ℕ) (r : ClientRequest) → slice_get xs i ≡ Some r → CanRun classes r) → fold_from (classes ++ more) objects xs ≡ fold_from classes objects xs
  fold_from-more objects [] all = refl
  fold_from-more objects (x ∷ xs) all =
      ap (λ o. fold_from (classes ++ more) o xs) (after-more objects x (all 0 x refl))
      ∙ fold_from-more (after classes objects x) xs (λ i r e. all (suc i) r e)

  reply_to-more : (objects : PlainObjects) (o : Option ClientRequest) → ((r : ClientRequest) → o ≡ Some r → CanRun classes r) → reply_to (classes ++ more) objects o ≡ reply_to classes objects o
  reply_to-more objects None all = refl
  reply_to-more objects (Some r) all = ap (λ w. Some (record { code = w.code; output = w.output })) (outcome-more objects r (all r refl))

  pub same_with_more : (xs : List ClientRequest) → Legal classes xs → SameWithMore classes more xs
  same_with_more xs l = record {
    legal = record { limit = l.limit; run = λ i r e. CanRun-more r (l.run i r e); rise = l.rise };
    same_objects = fold_from-more map.empty xs l.run;
    same_replies = λ k.
        ap (λ o. reply_to (classes ++ more) o (slice_get xs k)) (fold_from-more map.empty (take k xs) (λ i r e. l.run i r (get_take xs k i r e)))
        ∙ reply_to-more (fold classes (take k xs)) (slice_get xs k) (λ r e. l.run k r e);
  }
