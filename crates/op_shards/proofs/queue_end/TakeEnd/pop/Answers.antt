use Rattle.std.proofs.Common.{◌<◌, ap, arith}
use Rattle.op_shards.proofs.Keeps.{takes, learns}
use Rattle.op_shards.proofs.queue_end.TakeEnd.pop.Goals as goal

pub pop_as-requires-clause-rule : goal.pop_as-requires-clause-rule
pop_as-requires-clause-rule g c =
    let v = c.self.inside.pass.me.0.client in
    let parts = ap (λ d. d.parts) c.self.view_is in
    let part : 0 < v.parts = omega (arith, parts, c.requires.part) in
    (takes g.T.GroupOp.group _ _ part c.self.invariant.1, learns g.T.GroupOp.group _ _ c.self.invariant.1)
