-- A reply at a place is that of its method's run, in every layout.
use Rattle.std.proofs.Common.{◌≡◌, ℕ, zero, suc, ◌+◌, List, [], ◌∷◌, Option, Some, take, drop, ap, sym, ◌∙◌, subst, arith}
use Rattle.std.specs.List.{AllByRecursion, slice_get}
use Rattle.std.specs.FinMap as map
use Rattle.std.proofs.lemmas.Option.{none-some, same_Some}
use Rattle.std.proofs.lemmas.List.{take-append-drop}
use Rattle.bpf_decode.specs.Class.{ClassMethod, IsMethod}
use Rattle.object_store.specs.Object.{PlainObject}
use Rattle.object_store.specs.Names.{PlainObjects, stored}
use Rattle.bpf_machine.specs.State.{Outcome}
use Rattle.bpf_machine.specs.Safe.{IsCall, OutcomesAreOne, call_outcome}
use Rattle.bpf_machine.specs.Within.{CallsAreWithinLimits}
use Rattle.pg_log.specs.Requests.{ClientRequest}
use Rattle.pg_log.specs.Log.{Classes, Reply, CanRun, Legal, method_in, method_of, outcome_of_method, fold, reply_to}
use Rattle.pg_log.specs.Within.{IsRequest, AreWithinLimits}
use Rattle.pg_log.specs.Runs.{RepliesRun}
use Rattle.pg_log.proofs.Lists.{take_get}
use Rattle.pg_log.proofs.Legal.{legal_beginning}
use Rattle.pg_log.proofs.Fold.{fold_from-append}
use Rattle.pg_log.proofs.Within.{takes_input, is_method, folds_within}

request_at : (list : List ClientRequest) (k : ℕ) (r : ClientRequest) → AllByRecursion IsRequest list → slice_get list k ≡ Some r → IsRequest r
request_at [] k r all e = absurd (none-some r e)
request_at (x ∷ xs) zero r all e = subst IsRequest (same_Some x r e) all.0
request_at (x ∷ xs) (suc k) r all e = request_at xs k r all.1 e

first_requests : (list : List ClientRequest) (k : ℕ) → AllByRecursion IsRequest list → AllByRecursion IsRequest (take k list)
first_requests [] zero all = tt
first_requests [] (suc k) all = tt
first_requests (x ∷ xs) zero all = tt
first_requests (x ∷ xs) (suc k) all = (all.0, first_requests xs k all.1)

-- the machine's outcome of a method that a request names
outcome_is : (method : Option ClassMethod) (m : ClassMethod) (object : PlainObject) (r : ClientRequest) (o : Outcome) → method ≡ Some m →
    call_outcome m object r.client r.input ≡ o → outcome_of_method method object r ≡ o
unfolding outcome_of_method
outcome_is method m object r o e made = ap (λ w. outcome_of_method w object r) e ∙ made

reply_is : (classes : Classes) (objects : PlainObjects) (at : Option ClientRequest) (r : ClientRequest) (o : Outcome) → at ≡ Some r →
    outcome_of_method (method_of classes r) (map.get objects r.object) r ≡ o → reply_to classes objects at ≡ Some (record { code = o.code; output = o.output })
reply_is classes objects at r o e made =
    let reply : Outcome → Option Reply = λ w. Some (record { code = w.code; output = w.output }) in
    ap (reply_to classes objects) e ∙ ap reply made

left_is : (classes : Classes) (list : List ClientRequest) (k : ℕ) (r : ClientRequest) (o : Outcome) → slice_get list k ≡ Some r →
    outcome_of_method (method_of classes r) (map.get (fold classes (take k list)) r.object) r ≡ o →
    fold classes (take (k + 1) list) ≡ stored (fold classes (take k list)) r.object o.object
left_is classes list k r o e made =
    ap (fold classes) (take_get list k r e) ∙ fold_from-append classes map.empty (take k list) (r ∷ [])
    ∙ ap (λ w. stored (fold classes (take k list)) r.object w.object) made

pub replies_run : CallsAreWithinLimits → OutcomesAreOne → RepliesRun
replies_run calls one classes list all requests legal safe k r e =
    let can : CanRun classes r = legal.run k r e in
    let m : ClassMethod = can.method in
    let named : method_of classes r ≡ Some m = ap (λ c. method_in c r.method) can.loaded ∙ can.named in
    let is : IsMethod m = is_method classes r all can m named in
    let q : IsRequest r = request_at list k r requests e in
    let object : PlainObject = map.get (fold classes (take k list)) r.object in
    let before : Legal classes (take k list) = legal_beginning classes (take k list) (drop k list) (subst (λ l. Legal classes l) (sym (take-append-drop k list)) legal) in
    let within : AreWithinLimits (fold classes (take k list)) = folds_within calls classes (take k list) all before (first_requests list k requests) in
    let call : IsCall m object r.client r.input = record { within_limits = within r.object; client = q.client; short = takes_input classes r can m named; bytes = q.bytes } in
    let run = safe k r e m named object r.client r.input call in
    let made = one m (omega (arith, is.in_cap)) (omega (arith, is.out_cap)) object r.client r.input run.0 run.1 run.2 run.3 in
    let outcome = outcome_is (method_of classes r) m object r run.0 named made in
    record {
      method = m;
      named = named;
      outcome = run.0;
      steps = run.1;
      few = run.2;
      runs = run.3;
      reply = reply_is classes (fold classes (take k list)) (slice_get list k) r run.0 e outcome;
      left = left_is classes list k r run.0 e outcome;
    }
