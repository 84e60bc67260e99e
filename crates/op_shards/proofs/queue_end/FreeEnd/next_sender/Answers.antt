use Rattle.std.proofs.Common.{◌<◌, ap, arith}
use Rattle.op_shards.proofs.Keeps.{next_sender_forks}
use Rattle.op_shards.proofs.queue_end.FreeEnd.next_sender.Goals as goal

pub another-requires-clause-rule : goal.another-requires-clause-rule
another-requires-clause-rule g c =
    let v = c.self.inside.pass.me.0.client in
    let next = ap (λ d. d.next) c.self.view_is in
    let senders = ap (λ d. d.spot.place.senders) c.self.view_is in
    let room : v.first < v.place.senders = omega (arith, next, senders, c.requires.room) in
    next_sender_forks g.T.GroupOp.group _ v.first v.place.senders v.parts v.place _ room c.self.invariant.1 c.self.invariant.0
