use Rattle.std.proofs.Common.{◌<◌, ap, arith}
use Rattle.op_shards.proofs.Keeps.{next_taker_forks}
use Rattle.op_shards.proofs.queue_end.FreeEnd.next_taker.Goals as goal

pub another-requires-clause-rule : goal.another-requires-clause-rule
another-requires-clause-rule g c =
    let v = c.self.inside.pass.me.0.client in
    let parts = ap (λ d. d.parts) c.self.view_is in
    let part : 0 < v.parts = omega (arith, parts, c.requires.room) in
    next_taker_forks g.T.GroupOp.group _ _ part (ap (λ v. v.got) c.self.invariant.0) c.self.invariant.1
