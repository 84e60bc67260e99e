use Rattle.std.proofs.Common.{◌≡◌, ◌≤◌, ◌+◌, ◌-◌, drop, length}
use Rattle.bpf_asm.specs.Classes.{ruled_from}
use Rattle.bpf_asm.proofs.class_reader.rules_of.Given as goal

-- reading goes on after empty lines
abbrev pub invariant-loop-index : goal.invariant-loop-index
invariant-loop-index l =
    record {
      inside : l.index ≤ length l.lines;
      same : ruled_from (l.index + 1) (drop l.index l.lines) ≡ ruled_from 1 l.lines;
    }

abbrev pub decreases-loop-index : goal.decreases-loop-index
decreases-loop-index l = length l.initial.lines - l.index
