use Rattle.std.proofs.Common.{length}
use Rattle.verifier.proofs.fault.+room_in.Given as goal

abbrev pub decreases-room_in : goal.decreases-room_in
decreases-room_in l = length l.arguments.now
