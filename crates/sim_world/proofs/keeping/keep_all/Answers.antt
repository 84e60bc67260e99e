use Rattle.std.specs.Vec.Iter.{into_iter_items}
use Rattle.sim_world.specs.inner.Parts.{kept}
use Rattle.sim_world.proofs.Grown.{made_more}
use Rattle.sim_world.proofs.keeping.keep_all.Goals as goal

pub loop-packet-preserved : goal.loop-packet-preserved
loop-packet-preserved g c =
    made_more (kept c.args.nodes.now) c.loop-packet.sent c.push.new.self c.keep.result c.in-Some.packet (into_iter_items c.loop-packet.rest) (into_iter_items c.next.new.self) _
    c.in_ok-push.ensures.ok c.keep.ensures c.in-Some.ensures.items c.loop-packet.invariant
