use Rattle.std.proofs.Common.{◌≡◌, ℕ, ◌+◌, ◌≤◌, ◌++◌, ◌∷◌, [], List, true, false, length, drop, get_or, ap, sym, ◌∙◌, append_assoc, arith}
use Rattle.std.proofs.lemmas.Grind.{common_steps}
use Rattle.std.proofs.lemmas.List.{get_or_read, drop_more, drop_all, append-nil}
use Rattle.group_world.specs.Node.{packet}
use Rattle.group_world.specs.Unanswered.{to_missing}
use Rattle.group_world.specs.declared.party.Party.TheVariants.{Node as ANode}
use Rattle.group_world.specs.declared.message.MessageKind.{MessageKind}
use Rattle.group_world.specs.declared.message.MessageKind.TheVariants.{Install}
use Rattle.group_world.specs.declared.message.Packet.{Packet}
use Rattle.peering_messages.proofs.Messages.{missing_joined, missing_not}
use Rattle.peering_messages.proofs.packets.install_to_missing.Goals as goal

pub loop-node-preserved : goal.loop-node-preserved
loop-node-preserved c =
    let n : ℕ = c.args.number in
    let k : ℕ = c.loop-node.node-index in
    let ns : List ℕ = c.args.nodes.now in
    let js : List ℕ = c.args.joined.now in
    let m : ℕ = c.node-item.result in
    let kind : MessageKind = Install c.args.install.now.map.now c.args.install.now.list.now in
    let node : m ≡ get_or ns k 0 = get_or_read ns k m c.loop-node-test.true c.node-item.is 0 in
    let t : List Packet = to_missing n js (drop (k + 1) ns) kind in
    let step : to_missing n js (drop k ns) kind ≡ packet n (ANode m) kind ∷ t =
    ap (λ w. to_missing n js w kind) (drop_more ns k 0 c.loop-node-test.true ∙ ap (λ w. w ∷ drop (k + 1) ns) (sym node))
    ∙ missing_not n m js (drop (k + 1) ns) kind false (sym c.if-has.false ∙ c.has.ensures) c.if-eq.ensures in
    ap (λ x. x ++ t) c.in_ok-send_install.ensures.ok ∙ append_assoc c.loop-node.sent.items (packet n (ANode m) kind ∷ []) t
    ∙ ap (λ x. c.loop-node.sent.items ++ x) (sym step) ∙ c.loop-node.invariant

pub loop-node-preserved-then-eq : goal.loop-node-preserved-then-eq
loop-node-preserved-then-eq c =
    let n : ℕ = c.args.number in
    let k : ℕ = c.loop-node.node-index in
    let ns : List ℕ = c.args.nodes.now in
    let js : List ℕ = c.args.joined.now in
    let m : ℕ = c.node-item.result in
    let kind : MessageKind = Install c.args.install.now.map.now c.args.install.now.list.now in
    let node : m ≡ get_or ns k 0 = get_or_read ns k m c.loop-node-test.true c.node-item.is 0 in
    let step : to_missing n js (drop k ns) kind ≡ to_missing n js (drop (k + 1) ns) kind =
    ap (λ w. to_missing n js w kind) (drop_more ns k 0 c.loop-node-test.true ∙ ap (λ w. w ∷ drop (k + 1) ns) (sym node))
    ∙ missing_not n m js (drop (k + 1) ns) kind true (sym c.if-has.false ∙ c.has.ensures) c.if-eq.ensures in
    ap (λ x. c.loop-node.sent.items ++ x) (sym step) ∙ c.loop-node.invariant

pub loop-node-preserved-then-has : goal.loop-node-preserved-then-has
loop-node-preserved-then-has c =
    let n : ℕ = c.args.number in
    let k : ℕ = c.loop-node.node-index in
    let ns : List ℕ = c.args.nodes.now in
    let js : List ℕ = c.args.joined.now in
    let m : ℕ = c.node-item.result in
    let kind : MessageKind = Install c.args.install.now.map.now c.args.install.now.list.now in
    let node : m ≡ get_or ns k 0 = get_or_read ns k m c.loop-node-test.true c.node-item.is 0 in
    let step : to_missing n js (drop k ns) kind ≡ to_missing n js (drop (k + 1) ns) kind =
    ap (λ w. to_missing n js w kind) (drop_more ns k 0 c.loop-node-test.true ∙ ap (λ w. w ∷ drop (k + 1) ns) (sym node))
    ∙ missing_joined n m js (drop (k + 1) ns) kind (sym c.if-has.true ∙ c.has.ensures) in
    ap (λ x. c.loop-node.sent.items ++ x) (sym step) ∙ c.loop-node.invariant

pub returns-clause-ok : goal.returns-clause-ok
returns-clause-ok c =
    let n : ℕ = c.args.number in
    let k : ℕ = c.loop-node.node-index in
    let ns : List ℕ = c.args.nodes.now in
    let js : List ℕ = c.args.joined.now in
    let kind : MessageKind = Install c.args.install.now.map.now c.args.install.now.list.now in
    let done : length ns ≤ k = omega arith in
    sym (append-nil c.loop-node.sent.items) ∙ ap (λ w. c.loop-node.sent.items ++ to_missing n js w kind) (sym (drop_all k ns done)) ∙ c.loop-node.invariant

pub loop-node-init : goal.loop-node-init
loop-node-init c = grind (arith, common_steps)
