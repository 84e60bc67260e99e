-- What the log promises about lists, and what follows for the protocol.
use Rattle.std.proofs.Common.{◌≡◌, ℕ, ◌<◌, ◌≤◌, true, List, [], ◌∷◌, ◌++◌, length, Option, Some, None, sym, ◌∙◌, refl, ap, arith}
use Rattle.std.specs.Prelude.{is_none}
use Rattle.std.proofs.lemmas.Bool.{false≢true}
use mathlib.Core.List.{IsPrefix}
use Rattle.pg_log.specs.Requests.{ClientRequest}
use Rattle.pg_log.specs.Log.{Classes, Reply, Legal, reply_at}
use Rattle.pg_log.specs.Refusals.{refusal, first_refusal}
use Rattle.pg_log.specs.Laws.{EmptyIsLegal, AppendIsAStep, RepliesStay, RepliesAreThere, RefusalsAreExact, ListsAreExact, PlaceHasThePair}
use Rattle.group_world.specs.Rules.{or_empty}

-- the log's laws, as its law functions state them
pub record LogLaws : Type 0 where
  pub empty : EmptyIsLegal
  pub append : AppendIsAStep
  pub replies : RepliesStay
  pub there : RepliesAreThere
  pub requests : RefusalsAreExact
  pub lists : ListsAreExact
  pub pairs : PlaceHasThePair

pub is_none_true : {X : Type 0} (o : Option X) → is_none o ≡ true → o ≡ None
is_none_true None h = refl
is_none_true (Some x) h = absurd (false≢true h)

pub or_empty_some : (o : Option Reply) → (o ≡ None → ⊥) → o ≡ Some (or_empty o)
or_empty_some None h = absurd (h refl)
or_empty_some (Some x) h = refl

-- a list that passes the test is legal
pub list_legal : LogLaws → (t : Classes) (xs : List ClientRequest) → is_none (first_refusal t xs) ≡ true → Legal t xs
list_legal g t xs h = (g.lists t xs).0 (is_none_true (first_refusal t xs) h)

-- a legal list stays legal with one more request, if that isn't refused
pub push_legal : LogLaws → (t : Classes) (xs : List ClientRequest) (r : ClientRequest) → Legal t xs → refusal t xs r ≡ None → Legal t (xs ++ r ∷ [])
push_legal g t xs r h e = (g.append t xs r).1 (h, (g.requests t xs r).0 e)

-- a place of a list has a reply, and each longer list has the same one there
pub reply_front : LogLaws → (t : Classes) (xs ys : List ClientRequest) (k : ℕ) → IsPrefix xs ys → k < length xs → reply_at t ys k ≡ reply_at t xs k
reply_front g t xs ys k p l = ap (λ z. reply_at t z k) (sym p.1) ∙ g.replies t xs p.0 k l

pub reply_some : LogLaws → (t : Classes) (xs : List ClientRequest) (k : ℕ) → k < length xs → reply_at t xs k ≡ Some (or_empty (reply_at t xs k))
reply_some g t xs k l = or_empty_some (reply_at t xs k) (λ e. let q : length xs ≤ k = (g.there t xs k).0 e in absurd (omega arith))

-- the reply at a place of a beginning of the log is that of the log
pub reply_answer : LogLaws → (t : Classes) (front log : List ClientRequest) (k : ℕ) → IsPrefix front log → k < length front → reply_at t front k ≡ Some (or_empty (reply_at t log k))
reply_answer g t front log k p l = reply_some g t front k l ∙ ap (λ o. Some (or_empty o)) (sym (reply_front g t front log k p l))
