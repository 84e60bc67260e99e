use Rattle.std.proofs.Common.{refl}
use Rattle.group_world.specs.Rules.{arrive}
use Rattle.peering.proofs.Installing.{answer_is}
use Rattle.peering.proofs.node.GroupNode.answering.Goals as goal

pub returns-clause-ok : goal.returns-clause-ok
returns-clause-ok g c =
    let n = c.args.self.now in
    let a = c.in_ok-arrival.arrival in
    let e = c.in_ok-arrival.ensures.ok in
    record {
      node = e.node;
      sent = answer_is n.number n.state c.args.asker c.args.map.now a c.send_log.new.sent.items (arrive n.number n.state c.args.map.now) e c.in_ok-send_log.ensures.ok;
      unrefused = refl;
    }
