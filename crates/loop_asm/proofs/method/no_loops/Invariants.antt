use Rattle.std.proofs.Common.{◌≡◌, ◌+◌, length}
use Rattle.loop_asm.specs.Answers.{contents}
use Rattle.loop_asm.specs.Reading.{no_loops}
use Rattle.loop_asm.proofs.method.no_loops.Given as goal

abbrev pub invariant-loop-rest : goal.invariant-loop-rest
invariant-loop-rest l =
    record {
      place : l.line + length l.rest ≡ l.first + length l.lines;
      same : no_loops l.line (contents l.rest) ≡ no_loops l.first (contents l.lines);
    }

abbrev pub decreases-loop-rest : goal.decreases-loop-rest
decreases-loop-rest l = length l.rest
