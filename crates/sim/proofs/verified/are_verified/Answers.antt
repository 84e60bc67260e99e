use Rattle.std.proofs.Common.{arith}
use Rattle.sim.proofs.Tables.{all_verified, none_verified, one_verified}
use Rattle.sim.proofs.verified.are_verified.Goals as goal

pub loop-id-init : goal.loop-id-init
loop-id-init c = none_verified c.args.table.now

pub loop-id-preserved : goal.loop-id-preserved
loop-id-preserved c = one_verified c.args.table.now c.loop-id.id c.is_verified.ensures c.loop-id.invariant

pub returns : goal.returns
returns c = all_verified c.args.table.now c.loop-id.id (omega arith) c.loop-id.invariant
