use Rattle.std.proofs.Common.{length}
use Rattle.verifier.proofs.answers.+text_in.Given as goal

abbrev pub decreases-text_in : goal.decreases-text_in
decreases-text_in l = length l.arguments.now
