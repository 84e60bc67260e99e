use Rattle.std.proofs.Common.{length}
use Rattle.verifier.proofs.fault.Fault.+is_in_some.Given as goal

abbrev pub decreases-is_in_some : goal.decreases-is_in_some
decreases-is_in_some l = length l.arguments.now
