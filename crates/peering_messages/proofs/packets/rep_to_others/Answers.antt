use Rattle.std.proofs.Common.{◌≡◌, ℕ, ◌+◌, ◌≤◌, ◌++◌, ◌∷◌, [], List, length, drop, get_or, ap, sym, ◌∙◌, append_assoc, arith}
use Rattle.std.proofs.lemmas.Grind.{common_steps}
use Rattle.std.proofs.lemmas.List.{get_or_read, drop_more, drop_all, append-nil}
use Rattle.group_world.specs.Node.{packet, to_others}
use Rattle.group_world.specs.declared.party.Party.TheVariants.{Node as ANode}
use Rattle.group_world.specs.declared.message.MessageKind.{MessageKind}
use Rattle.group_world.specs.declared.message.MessageKind.TheVariants.{Rep}
use Rattle.group_world.specs.declared.message.Packet.{Packet}
use Rattle.peering_messages.proofs.Messages.{others_self, others_one}
use Rattle.peering_messages.proofs.packets.rep_to_others.Goals as goal

pub loop-node-preserved : goal.loop-node-preserved
loop-node-preserved c =
    let n : ℕ = c.args.number in
    let k : ℕ = c.loop-node.node-index in
    let ns : List ℕ = c.args.nodes.now in
    let m : ℕ = c.node-item.result in
    let kind : MessageKind = Rep c.args.rep.now.interval c.args.rep.now.place c.args.rep.now.request.now in
    let node : m ≡ get_or ns k 0 = get_or_read ns k m c.loop-node-test.true c.node-item.is 0 in
    let t : List Packet = to_others n (drop (k + 1) ns) kind in
    let step : to_others n (drop k ns) kind ≡ packet n (ANode m) kind ∷ t =
    ap (λ w. to_others n w kind) (drop_more ns k 0 c.loop-node-test.true ∙ ap (λ w. w ∷ drop (k + 1) ns) (sym node)) ∙ others_one n m (drop (k + 1) ns) kind c.if-eq.ensures in
    ap (λ x. x ++ t) c.in_ok-send_rep.ensures.ok ∙ append_assoc c.loop-node.sent.items (packet n (ANode m) kind ∷ []) t
    ∙ ap (λ x. c.loop-node.sent.items ++ x) (sym step) ∙ c.loop-node.invariant

pub loop-node-preserved-then-eq : goal.loop-node-preserved-then-eq
loop-node-preserved-then-eq c =
    let n : ℕ = c.args.number in
    let k : ℕ = c.loop-node.node-index in
    let ns : List ℕ = c.args.nodes.now in
    let m : ℕ = c.node-item.result in
    let kind : MessageKind = Rep c.args.rep.now.interval c.args.rep.now.place c.args.rep.now.request.now in
    let node : m ≡ get_or ns k 0 = get_or_read ns k m c.loop-node-test.true c.node-item.is 0 in
    let step : to_others n (drop k ns) kind ≡ to_others n (drop (k + 1) ns) kind =
    ap (λ w. to_others n w kind) (drop_more ns k 0 c.loop-node-test.true ∙ ap (λ w. w ∷ drop (k + 1) ns) (sym node)) ∙ others_self n m (drop (k + 1) ns) kind c.if-eq.ensures in
    ap (λ x. c.loop-node.sent.items ++ x) (sym step) ∙ c.loop-node.invariant

pub returns-clause-ok : goal.returns-clause-ok
returns-clause-ok c =
    let n : ℕ = c.args.number in
    let k : ℕ = c.loop-node.node-index in
    let ns : List ℕ = c.args.nodes.now in
    let kind : MessageKind = Rep c.args.rep.now.interval c.args.rep.now.place c.args.rep.now.request.now in
    let done : length ns ≤ k = omega arith in
    sym (append-nil c.loop-node.sent.items) ∙ ap (λ w. c.loop-node.sent.items ++ to_others n w kind) (sym (drop_all k ns done)) ∙ c.loop-node.invariant

pub loop-node-init : goal.loop-node-init
loop-node-init c = grind (arith, common_steps)
