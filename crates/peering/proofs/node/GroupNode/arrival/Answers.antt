use Rattle.peering.proofs.Installing.{within_after}
use Rattle.peering.proofs.node.GroupNode.arrival.Goals as goal

pub returns-clause-within : goal.returns-clause-within
returns-clause-within g c =
    let n = c.args.self.now in
    let a = c.in_ok-arrival.arrival in
    within_after n.number n.state c.args.map.now a.status a.joined.items c.in_ok-arrival.ensures.ok.node c.requires c.committed.ensures.within
