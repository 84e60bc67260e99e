use Rattle.std.proofs.Common.{◌≡◌, ◌+◌, [], length}
use Rattle.loop_asm.specs.Answers.{contents}
use Rattle.loop_asm.specs.Reading.{loops_from}
use Rattle.loop_asm.proofs.class.loops_from.Given as goal

-- reading goes on after the methods so far
abbrev pub invariant-loop-rest : goal.invariant-loop-rest
invariant-loop-rest l =
    record {
      place : l.line + length l.rest ≡ 1 + length l.texts;
      same : loops_from l.all.items l.line (contents l.rest) ≡ loops_from [] 1 (contents l.texts);
    }

abbrev pub decreases-loop-rest : goal.decreases-loop-rest
decreases-loop-rest l = length l.rest
