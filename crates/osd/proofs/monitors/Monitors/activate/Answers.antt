use Rattle.std.proofs.Common.{arith}
use Rattle.osd.proofs.Booking.{activated_is_book}
use Rattle.osd.proofs.monitors.Monitors.activate.Goals as goal

pub invariant_of-self : goal.invariant_of-self
invariant_of-self g c =
    let i = c.self.invariant in
    activated_is_book g.N.ClusterName.config c.self.inside.book c.activate.new.self c.args.group c.activate.result (omega (arith, c.requires, i.groups)) c.activate.ensures.ok c.activate.ensures.refused i
