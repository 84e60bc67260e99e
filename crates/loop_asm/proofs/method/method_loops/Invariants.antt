use Rattle.std.proofs.Common.{◌≡◌, ◌+◌, ◌≤◌, length}
use Rattle.loop_asm.specs.Answers.{contents}
use Rattle.loop_asm.specs.Reading.{method_loops}
use Rattle.loop_asm.proofs.method.method_loops.Given as goal

-- reading goes on after empty lines
abbrev pub invariant-loop-rest : goal.invariant-loop-rest
invariant-loop-rest l =
    record {
      above : l.first ≤ l.line;
      place : l.line + length l.rest ≡ l.first + length l.lines;
      same : method_loops l.line (contents l.rest) ≡ method_loops l.first (contents l.lines);
    }

abbrev pub decreases-loop-rest : goal.decreases-loop-rest
decreases-loop-rest l = length l.rest
