-- What a refusal by class, method or input says about the request is true.
use Rattle.std.proofs.Common.{◌≡◌, ℕ, ◌||◌, Bool, true, false, cond, nat_le, nat_lt, List, Option, Some, None, sym, ◌∙◌, refl, subst}
use Rattle.std.specs.List.{slice_get}
use Rattle.std.specs.Prelude.{length}
use Rattle.std.proofs.lemmas.Option.{none-some, same_Some}
use Rattle.std.proofs.lemmas.Bool.{cond_both}
use Rattle.pg_log.specs.Requests.{ClientRequest}
use Rattle.pg_log.specs.Log.{Classes}
use Rattle.pg_log.specs.Refusals.{place_of, is_reached, refusal, refusal_of_class}
use Rattle.pg_log.specs.declared.group.TheConstants.{LOG_LIMIT}
use Rattle.pg_log.specs.declared.log_error.LogError.{LogError}
use Rattle.pg_log.specs.declared.log_error.LogError.TheVariants as log
use Rattle.group_world.specs.Refusal.{of_log}
use Rattle.group_world.specs.Node.{NodeState, Outcome, is_asking, is_installing, is_active}
use Rattle.group_world.specs.Rules.{append_unless, request_at}
use Rattle.group_world.specs.Told.{IsDeserved, RefusalsAreDeserved}
use Rattle.group_world.specs.declared.handle_error.HandleError.{HandleError}
use Rattle.group_world.specs.declared.handle_error.HandleError.TheVariants as node

-- the log's refusal by class, method or input is that of the request's class
abbrev OfClass : Classes → ClientRequest → LogError → Type 0
OfClass classes r why = refusal_of_class (slice_get classes r.class) r ≡ Some why

refused-by_class : (classes : Classes) (r : ClientRequest) (full reached : Bool) (why : LogError) → (why ≡ log.LogFull → ⊥) → (why ≡ log.StaleNumber → ⊥)
    → cond full (Some log.LogFull) (cond reached (Some log.StaleNumber) (refusal_of_class (slice_get classes r.class) r)) ≡ Some why → OfClass classes r why
refused-by_class classes r true reached why full stale h = absurd (full (cc))
refused-by_class classes r false true why full stale h = absurd (stale (cc))
refused-by_class classes r false false why full stale h = h

-- a refusal with the log's reason is deserved
deserved-of_log : (classes : Classes) (xs : List ClientRequest) (r : ClientRequest) (why : LogError) → refusal classes xs r ≡ Some why → IsDeserved classes r (of_log why)
deserved-of_log classes xs r log.LogFull h = record { class = λ e. absurd (cc); method = λ e. absurd (cc); input = λ e. absurd (cc) }
deserved-of_log classes xs r log.StaleNumber h = record { class = λ e. absurd (cc); method = λ e. absurd (cc); input = λ e. absurd (cc) }
deserved-of_log classes xs r log.NoMemory h = record { class = λ e. absurd (cc); method = λ e. absurd (cc); input = λ e. absurd (cc) }
deserved-of_log classes xs r log.NoClass h = record {
  class = λ e. refused-by_class classes r (nat_le LOG_LIMIT (length xs)) (is_reached r.client r.number xs) log.NoClass (λ q. cc) (λ q. cc) h;
  method = λ e. absurd (cc);
  input = λ e. absurd (cc);
}
deserved-of_log classes xs r log.NoMethod h = record {
  class = λ e. absurd (cc);
  method = λ e. refused-by_class classes r (nat_le LOG_LIMIT (length xs)) (is_reached r.client r.number xs) log.NoMethod (λ q. cc) (λ q. cc) h;
  input = λ e. absurd (cc);
}
deserved-of_log classes xs r log.InputTooLong h = record {
  class = λ e. absurd (cc);
  method = λ e. absurd (cc);
  input = λ e. refused-by_class classes r (nat_le LOG_LIMIT (length xs)) (is_reached r.client r.number xs) log.InputTooLong (λ q. cc) (λ q. cc) h;
}

Deserves : Classes → ClientRequest → Outcome → Type 0
Deserves classes r o = (why : HandleError) → o.refusal ≡ Some why → IsDeserved classes r why

unrefused : (classes : Classes) (r : ClientRequest) (o : Outcome) → o.refusal ≡ None → Deserves classes r o
unfolding Deserves
unrefused classes r o h = λ why e. absurd (none-some why (sym h ∙ e))

deserved-unless : (classes : Classes) (n : ℕ) (s : NodeState) (r : ClientRequest) (o : Option LogError) → refusal classes s.log r ≡ o → Deserves classes r (append_unless classes n s r o)
unfolding Deserves
deserved-unless classes n s r None h = λ why e. absurd (none-some why e)
deserved-unless classes n s r (Some w) h = λ why e. subst (IsDeserved classes r) (same_Some _ _ e) (deserved-of_log classes s.log r w h)

deserved-at : (classes : Classes) (n : ℕ) (s : NodeState) (r : ClientRequest) (o : Option ℕ) → Deserves classes r (request_at classes n s r o)
unfolding Deserves
deserved-at classes n s r (Some place) = cond_both (nat_lt place s.committed) _ _ (Deserves classes r) (λ t why e. absurd (none-some why e)) (λ t why e. absurd (none-some why e))
deserved-at classes n s r None = deserved-unless classes n s r (refusal classes s.log r) refl

pub all_deserved : RefusalsAreDeserved
unfolding Deserves
all_deserved classes n s r =
    cond_both (is_active s.status) _ _ (Deserves classes r) (λ t. deserved-at classes n s r (place_of r.client r.number s.log))
    (λ t. cond_both (is_asking s.status || is_installing s.status) _ _ (Deserves classes r)
    (λ p why e. let q : node.Peering ≡ why = same_Some _ _ e in record { class = λ h. absurd (cc); method = λ h. absurd (cc); input = λ h. absurd (cc) })
    (λ p why e. let q : node.NotPrimary ≡ why = same_Some _ _ e in record { class = λ h. absurd (cc); method = λ h. absurd (cc); input = λ h. absurd (cc) }))
