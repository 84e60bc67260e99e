use Rattle.sim.proofs.Tables.{AreVerifiedUpTo}
use Rattle.sim.proofs.verified.are_verified.Given as goal

-- the classes so far
abbrev pub invariant-loop-id : goal.invariant-loop-id
invariant-loop-id l = AreVerifiedUpTo l.table l.id
