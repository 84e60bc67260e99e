-- If the classes are verified, each reply that was sent in an agreed world is its method's run.
use Rattle.std.proofs.Common.{◌≡◌, ℕ, zero, suc, cond, true, false, List, [], ◌∷◌, Some, sym, ◌∙◌, subst}
use Rattle.std.specs.List.{AllByRecursion, Contains, slice_get}
use Rattle.std.specs.Str.{bytes_eq}
use Rattle.std.proofs.lemmas.Option.{none-some, same_Some}
use Rattle.bpf_decode.specs.Class.{ClassMethod, IsClass}
use Rattle.bpf_machine.specs.Safe.{IsSafe}
use Rattle.verifier.specs.Verified.{IsVerifiedClass, method_named}
use Rattle.pg_log.specs.Requests.{ClientRequest}
use Rattle.pg_log.specs.Log.{Classes, Legal, Reply, method_in}
use Rattle.pg_log.specs.Entries.{AreSafe}
use Rattle.pg_log.specs.Runs.{RanAt, RepliesRun}
use Rattle.pg_log.specs.Within.{IsRequest}
use Rattle.group_world.specs.World.{IsTrueOf, brought}
use Rattle.group_world.specs.declared.message.MessageKind.{MessageKind}
use Rattle.group_world.specs.declared.message.MessageKind.TheVariants.{Query, Log as LogOf, Install, Installed as InstalledIn, AskActivate, Activated, Rep, Ack, Reply as ReplyTo}
use Rattle.group_world.specs.declared.message.Packet.{Packet}
use Rattle.sim_world.specs.Step.{Played}
use Rattle.sim_world.specs.Agreed.{IsAgreedPlayed}
use Rattle.sim.specs.Replies.{ReplyHasRun}

-- A METHOD OF VERIFIED CLASSES is safe
are_classes : (classes : Classes) → AllByRecursion IsVerifiedClass classes → AllByRecursion IsClass classes
are_classes [] all = tt
are_classes (c ∷ cs) all = (all.0.class, are_classes cs all.1)

safe_named : (class : List ClassMethod) (name : List ℕ) (m : ClassMethod) → AllByRecursion IsSafe class → method_named class name ≡ Some m → IsSafe m
safe_named [] name m all e = absurd (none-some m e)
safe_named (x ∷ class) name m all e =
    elim (bytes_eq x.name name) as (λ b. cond b (Some x) (method_named class name) ≡ Some m → IsSafe m) [
      | true ↦ λ q. subst (λ n. IsSafe n) (same_Some x m q) all.0
      | false ↦ λ q. safe_named class name m all.1 q
    ] e

safe_in : (classes : Classes) (id : ℕ) (name : List ℕ) (m : ClassMethod) → AllByRecursion IsVerifiedClass classes → method_in (slice_get classes id) name ≡ Some m → IsSafe m
safe_in [] id name m all e = absurd (none-some m e)
safe_in (c ∷ cs) zero name m all e = safe_named c name m all.0.safe e
safe_in (c ∷ cs) (suc id) name m all e = safe_in cs id name m all.1 e

are_safe : (classes : Classes) (list : List ClientRequest) → AllByRecursion IsVerifiedClass classes → AreSafe classes list
are_safe classes list all = λ i r at m e. safe_in classes r.class r.method m all e

-- A REPLY
typed_list : (known list : List ClientRequest) → AllByRecursion (Contains known) list → ((r : ClientRequest) → Contains known r → IsRequest r) → AllByRecursion IsRequest list
typed_list known [] all typed = tt
typed_list known (r ∷ rs) all typed = (typed r all.0, typed_list known rs all.1 typed)

reply_ran : (classes : Classes) (list : List ClientRequest) → ((k : ℕ) (r : ClientRequest) → slice_get list k ≡ Some r → RanAt classes list k r)
    → (kind : MessageKind) → IsTrueOf classes list kind → ReplyHasRun classes list kind
reply_ran classes list ran (ReplyTo client number place answer) is =
    let at : RanAt classes list place is.0.request = ran place is.0.request is.0.stands in
    let made : Reply = record { code = at.outcome.code; output = at.outcome.output } in
    record {
      request = is.0.request;
      of_client = is.0.of_client;
      of_number = is.0.of_number;
      stands = is.0.stands;
      ran = at;
      answered = same_Some answer made (sym is.1 ∙ at.reply);
    }
reply_ran classes list ran (Query m) is = tt
reply_ran classes list ran (LogOf interval ls) is = tt
reply_ran classes list ran (Install m ls) is = tt
reply_ran classes list ran (InstalledIn interval) is = tt
reply_ran classes list ran (AskActivate interval) is = tt
reply_ran classes list ran (Activated interval) is = tt
reply_ran classes list ran (Rep interval place r) is = tt
reply_ran classes list ran (Ack interval k) is = tt

-- in an agreed world
pub replies_ran : RepliesRun → (classes : Classes) (p : Played) (is : IsAgreedPlayed classes p) → AllByRecursion IsVerifiedClass classes
    → ((r : ClientRequest) → Contains (brought p.events) r → IsRequest r) → (q : Packet) → Contains p.world.sent q → ReplyHasRun classes is.agreed.list q.message.kind
replies_ran law classes p is all typed q sent =
    let list = is.agreed.list in
    let legal = subst (λ (c : Classes). Legal c list) is.named is.agreed.legal in
    let true_of = subst (λ (c : Classes). IsTrueOf c list q.message.kind) is.named (is.agreed.replied q sent) in
    reply_ran classes list (law classes list (are_classes classes all) (typed_list (brought p.events) list is.agreed.brought typed) legal (are_safe classes list all)) q.message.kind true_of
