use Rattle.std.proofs.Common.{◌≡◌, ℕ, ◌+◌, ◌<◌, ◌≤◌, ◌++◌, ◌∷◌, [], List, length, drop, get_or, ap, sym, ◌∙◌, append_assoc, arith}
use Rattle.std.proofs.lemmas.List.{get_or_read, drop_more, drop_all, append-nil}
use Rattle.group_world.specs.Node.{packet, to_all}
use Rattle.group_world.specs.declared.party.Party.TheVariants.{Node as ANode}
use Rattle.group_world.specs.declared.message.MessageKind.{MessageKind}
use Rattle.group_world.specs.declared.message.MessageKind.TheVariants.{Query}
use Rattle.group_world.specs.declared.message.Packet.{Packet}
use Rattle.peering_messages.proofs.packets.query_to_all.Goals as goal

pub loop-node-preserved : goal.loop-node-preserved
loop-node-preserved c =
    let n : ℕ = c.args.number in
    let k : ℕ = c.loop-node.node-index in
    let ns : List ℕ = c.args.nodes.now in
    let m : ℕ = c.node-item.result in
    let kind : MessageKind = Query c.args.map.now in
    let within : k < length ns = c.loop-node-test.true in
    let node : m ≡ get_or ns k 0 = get_or_read ns k m within c.node-item.is 0 in
    let t : List Packet = to_all n (drop (k + 1) ns) kind in
    let step : to_all n (drop k ns) kind ≡ packet n (ANode m) kind ∷ t =
    ap (λ w. to_all n w kind) (drop_more ns k 0 within) ∙ ap (λ w. packet n (ANode w) kind ∷ t) (sym node) in
    ap (λ x. x ++ t) c.in_ok-send_query.ensures.ok ∙ append_assoc c.loop-node.sent.items (packet n (ANode m) kind ∷ []) t
    ∙ ap (λ x. c.loop-node.sent.items ++ x) (sym step) ∙ c.loop-node.invariant

pub returns-clause-ok : goal.returns-clause-ok
returns-clause-ok c =
    let k : ℕ = c.loop-node.node-index in
    let ns : List ℕ = c.args.nodes.now in
    let kind : MessageKind = Query c.args.map.now in
    let done : length ns ≤ k = omega arith in
    sym (append-nil c.loop-node.sent.items) ∙ ap (λ w. c.loop-node.sent.items ++ to_all c.args.number w kind) (sym (drop_all k ns done)) ∙ c.loop-node.invariant
