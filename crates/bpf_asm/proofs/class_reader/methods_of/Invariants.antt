use Rattle.std.proofs.Common.{◌≡◌, ◌≤◌, ◌+◌, ◌-◌, [], drop, length, Ok}
use Rattle.bpf_decode.specs.ImageReading.{methods_after}
use Rattle.bpf_asm.specs.Classes.{class_from}
use Rattle.bpf_asm.proofs.class_reader.methods_of.Given as goal
use Rattle.bpf_decode.specs.declared.limits.TheConstants.{METHOD_LIMIT}

-- reading goes on after the methods so far, which are right
abbrev pub invariant-loop-index : goal.invariant-loop-index
invariant-loop-index l =
    record {
      inside : l.index ≤ length l.lines;
      right : methods_after l.rules 0 [] l.methods.items ≡ Ok l.methods.items;
      few : length l.methods.items ≤ METHOD_LIMIT;
      same : class_from l.rules l.methods.items (l.index + 1) (drop l.index l.lines) ≡ class_from l.rules [] (l.first + 1) (drop l.first l.lines);
    }

abbrev pub decreases-loop-index : goal.decreases-loop-index
decreases-loop-index l = length l.initial.lines - l.index
