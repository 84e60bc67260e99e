use Rattle.std.proofs.Common.{◌+◌, arith}
use Rattle.osd.proofs.Parting.{senders_fit, takers_fit}
use Rattle.osd.proofs.cluster_parts.queues_of.Goals as goal

pub returns-clause-sends : goal.returns-clause-sends
returns-clause-sends c =
    let fit = senders_fit c.in-Ok.shards.queues (65 + c.args.config.now.workers) c.in-Ok.sends.items c.in-Ok.ensures.senders in
    (omega (arith, c.in-Ok.sends.ok.0, fit.0), fit.1)

pub returns-clause-takes : goal.returns-clause-takes
returns-clause-takes c =
    let fit = takers_fit c.in-Ok.shards.queues c.args.config.now.workers c.in-Ok.takes.items c.in-Ok.ensures.takers in
    (omega (arith, c.in-Ok.takes.ok.0, fit.0), fit.1)
