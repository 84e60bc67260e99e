use Rattle.std.proofs.Common.{◌∙◌, ap, unwrap_or, arith}
use Rattle.std.proofs.lemmas.Grind.{common_steps}
use Rattle.peering.proofs.Installing.{waiting_within}
use Rattle.peering.proofs.node.GroupNode.install_first.Goals as goal

pub moves-sent-requires : goal.moves-sent-requires
moves-sent-requires g c =
    let st = c.args.arrival.status in
    waiting_within c.take_list.new.self.state st (ap (unwrap_or st) c.take_list.ensures.status ∙ c.requires.waits) c.committed.ensures.within

pub returns-then-not-branch-clause-done : goal.returns-then-not-branch-clause-done
returns-then-not-branch-clause-done g c = grind (arith, common_steps)

pub returns-clause-done : goal.returns-clause-done
returns-clause-done g c = grind (arith, common_steps)
