use Rattle.std.proofs.Common.{◌≡◌, ◌≤◌, length, ℕ, ◌+◌, ◌++◌, ◌∷◌, [], List, take, drop, ap, sym, ◌∙◌, arith, append_assoc}
use Rattle.std.proofs.lemmas.List.{drop_all, append-nil, length-take-le}
use Rattle.pg_log.specs.Requests.{ClientRequest}
use Rattle.group_world.specs.declared.message.Packet.{Packet}
use Rattle.group_world.specs.Rules.{replies_from}
use Rattle.peering_messages.proofs.Committed.{made, replies_step}
use Rattle.peering_messages.proofs.replying.Replier.replies.Goals as goal

pub loop-place-preserved : goal.loop-place-preserved
loop-place-preserved g c =
    let n : ℕ = c.args.self.now.number in
    let k : ℕ = c.loop-place.place in
    let log : List ClientRequest = c.args.self.now.group.now in
    let p : Packet = c.in_ok-said.said in
    let said : p ≡ made n k c.entry_at.result.now = c.in_ok-said.ensures.ok in
    let s = replies_step c.args.self.now.table.now n k c.args.to log c.entry_at.result.now c.entry_at.ensures (omega arith) (omega arith) in
    let t : List Packet = replies_from c.args.self.now.table.now n log (k + 1) (drop (k + 1) (take c.args.to log)) in
    ap (λ x. x ++ t) c.in_ok-send.ensures.ok ∙ append_assoc c.loop-place.sent.items (p ∷ []) t ∙ ap (λ x. c.loop-place.sent.items ++ (x ∷ t)) said
    ∙ ap (λ x. c.loop-place.sent.items ++ x) (sym s) ∙ c.loop-place.invariant

pub returns-clause-ok : goal.returns-clause-ok
returns-clause-ok g c =
    let k : ℕ = c.loop-place.place in
    let log : List ClientRequest = c.args.self.now.group.now in
    let len : length (take c.args.to log) ≡ c.args.to = length-take-le c.args.to log c.requires.within in
    let done : length (take c.args.to log) ≤ k = omega arith in
    sym (append-nil c.loop-place.sent.items) ∙ ap (λ w. c.loop-place.sent.items ++ replies_from c.args.self.now.table.now c.args.self.now.number log k w) (sym (drop_all k (take c.args.to log) done))
    ∙ c.loop-place.invariant
