use Rattle.std.proofs.Common.{subst, IfOk}
use Rattle.group_world.specs.Node.{Outcome}
use Rattle.peering.specs.Numbered.{IsDone}
use Rattle.peering.proofs.node.GroupNode.keep_next.Goals as goal

pub returns-clause-done : goal.returns-clause-done
returns-clause-done g c =
    let P : Outcome → Type 0 = λ o. IfOk c.grow.result (λ sent. IsDone c.args.self.now c.grow.new.self sent.items o) in
    subst P c.in_ok-commit.ensures.ok c.grow.ensures.done
