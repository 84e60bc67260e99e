use Rattle.std.proofs.Common.{ap, ◌∙◌}
use Rattle.group_world.specs.Rules.{local_step}
use Rattle.peering.proofs.Keeping.{Laws, short, map_kept, receive_kept}
use Rattle.peering.proofs.node.GroupNode.take.Goals as goal

pub returns-in-Map-clause-why : goal.returns-in-Map-clause-why
returns-in-Map-clause-why g c =
    let laws : Laws = record { empty = c.legal_lists.ensures.empty; append = c.legal_lists.ensures.append; exact = c.refusals.ensures.requests; lists = c.refusals.ensures.lists } in
    let n = c.args.self.now in
    short c.learn_map.result (local_step c.args.table.now n.number n.state c.args.event) (ap (λ e. (local_step c.args.table.now n.number n.state e).refusal) c.in-Map.is ∙ (map_kept laws c.args.table.now n.number n.state c.in-Map.map c.requires.legal).0) c.learn_map.ensures.why

pub returns-in-Message-clause-why : goal.returns-in-Message-clause-why
returns-in-Message-clause-why g c =
    let laws : Laws = record { empty = c.legal_lists.ensures.empty; append = c.legal_lists.ensures.append; exact = c.refusals.ensures.requests; lists = c.refusals.ensures.lists } in
    let n = c.args.self.now in
    let m = c.in-Message.message in
    short c.receive.result (local_step c.args.table.now n.number n.state c.args.event) (ap (λ e. (local_step c.args.table.now n.number n.state e).refusal) c.in-Message.is ∙ (receive_kept laws c.args.table.now n.number n.state m.sender m.kind c.requires.legal).0) c.receive.ensures.why
