use Rattle.std.proofs.Common.{◌≡◌, length}
use Rattle.loop_asm.specs.Answers.{contents}
use Rattle.loop_asm.specs.Reading.{is_of_three}
use Rattle.loop_asm.proofs.line.is_of_three.Given as goal

abbrev pub invariant-loop-rest : goal.invariant-loop-rest
invariant-loop-rest l = is_of_three (contents l.rest) ≡ is_of_three (contents l.texts)

abbrev pub decreases-loop-rest : goal.decreases-loop-rest
decreases-loop-rest l = length l.rest
