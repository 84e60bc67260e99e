-- With verified classes an answer is that of its method's run.
use Rattle.std.proofs.Common.{◌≡◌, ℕ, zero, suc, cond, true, false, List, [], ◌∷◌, Some, sym, ◌∙◌, subst}
use Rattle.std.specs.List.{AllByRecursion, slice_get}
use Rattle.std.specs.Str.{bytes_eq}
use Rattle.std.proofs.lemmas.Option.{none-some, same_Some}
use Rattle.bpf_decode.specs.Class.{ClassMethod, IsClass}
use Rattle.bpf_machine.specs.Safe.{IsSafe}
use Rattle.verifier.specs.Verified.{IsVerifiedClass, method_named}
use Rattle.pg_log.specs.Requests.{ClientRequest}
use Rattle.pg_log.specs.Log.{Classes, Reply, method_in}
use Rattle.pg_log.specs.Entries.{AreSafe}
use Rattle.pg_log.specs.Runs.{RanAt, RepliesRun}
use Rattle.rados_client.specs.Promise.{AnswersHaveRun}

-- verified classes are within the limits, and a method of theirs is safe
are_classes : (classes : Classes) → AllByRecursion IsVerifiedClass classes → AllByRecursion IsClass classes
are_classes [] all = tt
are_classes (c ∷ cs) all = (all.0.class, are_classes cs all.1)

safe_named : (class : List ClassMethod) (name : List ℕ) (m : ClassMethod) → AllByRecursion IsSafe class → method_named class name ≡ Some m → IsSafe m
safe_named [] name m all e = absurd (none-some m e)
safe_named (x ∷ class) name m all e =
    elim (bytes_eq x.name name) as (λ b. cond b (Some x) (method_named class name) ≡ Some m → IsSafe m) [
      | true ↦ λ q. subst (λ n. IsSafe n) (same_Some x m q) all.0
      | false ↦ λ q. safe_named class name m all.1 q
    ] e

safe_in : (classes : Classes) (id : ℕ) (name : List ℕ) (m : ClassMethod) → AllByRecursion IsVerifiedClass classes → method_in (slice_get classes id) name ≡ Some m → IsSafe m
safe_in [] id name m all e = absurd (none-some m e)
safe_in (c ∷ cs) zero name m all e = safe_named c name m all.0.safe e
safe_in (c ∷ cs) (suc id) name m all e = safe_in cs id name m all.1 e

are_safe : (classes : Classes) (list : List ClientRequest) → AllByRecursion IsVerifiedClass classes → AreSafe classes list
are_safe classes list all = λ i r at m e. safe_in classes r.class r.method m all e

pub answers_have_run : RepliesRun → AnswersHaveRun
answers_have_run law classes lists r reply all answer =
    let ran : RanAt classes answer.begun reply.place r =
    law classes answer.begun (are_classes classes all) answer.stands.requests answer.stands.legal (are_safe classes answer.begun all) reply.place r answer.stands.there in
    let made : Reply = record { code = ran.outcome.code; output = ran.outcome.output } in
    record { ran = ran; answered = same_Some reply.answer made (sym answer.stands.gives ∙ ran.reply) }
