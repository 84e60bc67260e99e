use Rattle.std.proofs.Common.{◌≡◌, ◌≤◌, ◌+◌, ◌*◌, [], length}
use Rattle.loop_asm.specs.Answers.{contents}
use Rattle.loop_asm.specs.Reading.{heads_from}
use Rattle.loop_asm.proofs.method.heads_from.Given as goal

-- reading goes on after the heads so far
abbrev pub invariant-loop-rest : goal.invariant-loop-rest
invariant-loop-rest l =
    record {
      place : l.line + length l.rest ≡ l.first + length l.lines;
      room : l.slot + 2 * length l.rest ≤ 2 * length l.lines;
      same : heads_from l.line l.slot l.heads.items (contents l.rest) ≡ heads_from l.first 0 [] (contents l.lines);
    }

abbrev pub decreases-loop-rest : goal.decreases-loop-rest
decreases-loop-rest l = length l.rest
