-- Replies one by one.
use Rattle.std.proofs.Common.{◌≡◌, ℕ, suc, ◌+◌, ◌<◌, ◌≤◌, Some, List, [], ◌∷◌, ◌++◌, length, take, drop, get_or, ap, sym, ◌∙◌, arith, add-one}
use Rattle.std.specs.List.{slice_get}
use Rattle.std.proofs.lemmas.List.{drop_more, get_or-take, length-take-le}
use Rattle.std.proofs.lemmas.Option.{get_or_from_slice_get, slice_get-get_or}
use mathlib.Core.List.{IsPrefix}
use Rattle.pg_log.specs.Requests.{ClientRequest}
use Rattle.pg_log.specs.Log.{Classes, Legal, Reply, reply_at}
use Rattle.pg_log.specs.Laws.{ClassesAdded, RepliesStay}
use Rattle.pg_log.specs.declared.entry.Entry.{Entry}
use Rattle.group_world.specs.declared.party.Party.TheVariants.{Client as AClient}
use Rattle.group_world.specs.declared.message.MessageKind.TheVariants.{Reply as ReplyTo}
use Rattle.group_world.specs.declared.message.Packet.{Packet}
use Rattle.group_world.specs.Node.{packet}
use Rattle.group_world.specs.Rules.{or_empty, reply_packet, replies_from}
use Rattle.peering_messages.specs.Sending.{IsEntryAt, answer_in}
use Rattle.peering_messages.proofs.Lists.{get_before, get_last}

-- a list that is legal by the table has the same replies by all classes
pub same_reply : ClassesAdded → (classes all : Classes) (log : List ClientRequest) (k : ℕ) → IsPrefix classes all → Legal classes log → reply_at all log k ≡ reply_at classes log k
same_reply added classes all log k p l =
    ap (λ w. reply_at w log k) (sym p.1) ∙ (added classes p.0 log l).same_replies k

-- a Reply that is made from an entry
abbrev pub made : ℕ → ℕ → Entry → Packet
made n place e = packet n (AClient e.request.client) (ReplyTo e.request.client e.request.number place (answer_in e))

-- it is the Reply of the entry's place
pub made_is : (classes : Classes) (n k : ℕ) (log : List ClientRequest) (e : Entry) → IsEntryAt classes log k e → made n k e ≡ reply_packet classes n log k e.request
made_is classes n k log e at =
    ap (λ o. packet n (AClient e.request.client) (ReplyTo e.request.client e.request.number k (or_empty o))) (sym at.reply)

-- the first of the replies from a place on is made from the entry there
pub replies_step : (classes : Classes) (n k point : ℕ) (log : List ClientRequest) (e : Entry) → IsEntryAt classes log k e → k < point → point ≤ length log →
    replies_from classes n log k (drop k (take point log)) ≡ made n k e ∷ replies_from classes n log (k + 1) (drop (k + 1) (take point log))
replies_step classes n k point log e at lt le =
    let r = e.request in
    let len : length (take point log) ≡ point = length-take-le point log le in
    let front : drop k (take point log) ≡ get_or (take point log) k r ∷ drop (k + 1) (take point log) = drop_more (take point log) k r (omega arith) in
    let there : get_or (take point log) k r ≡ r = get_or-take point log k r lt ∙ get_or_from_slice_get log k r r at.request in
    ap (replies_from classes n log k) front ∙ ap (λ w. reply_packet classes n log k w ∷ replies_from classes n log (suc k) (drop (k + 1) (take point log))) there
    ∙ ap (λ p. p ∷ replies_from classes n log (suc k) (drop (k + 1) (take point log))) (sym (made_is classes n k log e at))
    ∙ ap (λ j. made n k e ∷ replies_from classes n log j (drop (k + 1) (take point log))) (sym (add-one k))

-- an entry stays at its place, whatever is added after it
pub stays_at : RepliesStay → (classes : Classes) (xs ys : List ClientRequest) (place : ℕ) (e : Entry) → place < length xs → IsEntryAt classes xs place e → IsEntryAt classes (xs ++ ys) place e
stays_at stay classes xs ys place e h at = record {
  request = get_before xs ys place h ∙ at.request;
  reply = stay classes xs ys place h ∙ at.reply;
}
