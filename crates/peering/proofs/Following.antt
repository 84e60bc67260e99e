-- What may follow a log that is legal by the table.
use Rattle.std.proofs.Common.{◌≡◌, ℕ, List, [], ◌∷◌, ◌++◌, length, Some, None, ap, sym, ◌∙◌, subst}
use Rattle.std.specs.Int.{w64, cast_unsigned}
use mathlib.Core.List.{IsPrefix}
use Rattle.pg_log.specs.declared.entry.Entry.{Entry}
use Rattle.pg_log.specs.Requests.{ClientRequest}
use Rattle.pg_log.specs.Log.{Classes, Reply, Legal, reply_at}
use Rattle.pg_log.specs.Refusals.{refusal, first_refusal}
use Rattle.pg_log.specs.Laws.{BeginningsAreLegal, ListsAreExact, AppendIsAStep, RefusalsAreExact, ClassesAdded}
use Rattle.group_world.specs.Node.{NodeState}
use Rattle.group_world.specs.Rules.{append_new, append_unless, request_at}
use Rattle.peering_messages.specs.Sending.{IsNextReply}

pub next_legal : AppendIsAStep → RefusalsAreExact → (classes : Classes) (log : List ClientRequest) (r : ClientRequest) → Legal classes log → refusal classes log r ≡ None → Legal classes (log ++ r ∷ [])
next_legal append exact classes log r l u = (append classes log r).1 (l, (exact classes log r).0 u)

-- a beginning of a legal list can be run
pub beginning_runs : BeginningsAreLegal → ListsAreExact → (classes : Classes) (list log : List ClientRequest) → IsPrefix list log → Legal classes log → first_refusal classes list ≡ None
beginning_runs beginnings exact classes list log p l =
    (exact classes list).1 (beginnings classes list p.0 (subst (λ xs. Legal classes xs) (sym p.1) l))

-- a list that is legal by the table has the same replies by all classes
same_reply : ClassesAdded → (classes all : Classes) (log : List ClientRequest) (k : ℕ) → IsPrefix classes all → Legal classes log → reply_at all log k ≡ reply_at classes log k
same_reply added classes all log k p l =
    ap (λ w. reply_at w log k) (sym p.1) ∙ (added classes p.0 log l).same_replies k

pub next_reply : AppendIsAStep → RefusalsAreExact → ClassesAdded → (classes all : Classes) (log : List ClientRequest) (r : ClientRequest) (e : Entry) (reply : Reply) →
    IsPrefix classes all → e.request ≡ r → refusal classes log r ≡ None → reply_at all (log ++ r ∷ []) (length log) ≡ Some reply →
    Legal classes log → reply ≡ record { code = cast_unsigned w64 e.code; output = e.output.items } → IsNextReply classes log e
next_reply append exact added classes all log r e reply p q u made l is =
    let P : ClientRequest → Type 0 = λ w. Legal classes (log ++ w ∷ []) in
    let legal : Legal classes (log ++ r ∷ []) = next_legal append exact classes log r l u in
    record {
      legal = subst P (sym q) legal;
      reply = ap (λ w. reply_at classes (log ++ w ∷ []) (length log)) q ∙ sym (same_reply added classes all (log ++ r ∷ []) (length log) p legal) ∙ made ∙ ap Some is;
    }

-- an unrefused request is appended
pub new_is : (classes : Classes) (n : ℕ) (s : NodeState) (r : ClientRequest) → refusal classes s.log r ≡ None → append_new classes n s r ≡ request_at classes n s r None
new_is classes n s r h = ap (append_unless classes n s r) (sym h)

pub new_unrefused : (classes : Classes) (n : ℕ) (s : NodeState) (r : ClientRequest) → refusal classes s.log r ≡ None → (request_at classes n s r None).refusal ≡ None
new_unrefused classes n s r h = ap (λ w. (append_unless classes n s r w).refusal) h
