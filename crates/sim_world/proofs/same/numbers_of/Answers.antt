use Rattle.std.specs.Vec.Iter.{into_iter_items}
use Rattle.sim_world.specs.inner.Buckets.{again_number}
use Rattle.sim_world.proofs.Grown.{made_more}
use Rattle.sim_world.proofs.same.numbers_of.Goals as goal

pub loop-packet-preserved : goal.loop-packet-preserved
loop-packet-preserved c =
    made_more (again_number c.args.sent.now) c.loop-packet.numbers c.push.new.self c.in_ok-number.number c.in-Some.packet (into_iter_items c.loop-packet.rest) (into_iter_items c.next.new.self) _
    c.in_ok-push.ensures.ok c.in_ok-number.ensures c.in-Some.ensures.items c.loop-packet.invariant
