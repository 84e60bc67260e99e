use Rattle.std.proofs.Common.{◌≡◌, ◌≤◌, ◌+◌, ◌-◌, drop, take, length, count_by}
use Rattle.bpf_asm.specs.Bodies.{body, body_from, is_instruction}
use Rattle.bpf_decode.specs.Instruction.{slot_total}
use Rattle.bpf_asm.proofs.body.push_body.Given as goal
use Rattle.bpf_decode.specs.declared.limits.TheConstants.{SLOT_LIMIT}

-- reading goes on after the lines so far
abbrev pub invariant-loop-index : goal.invariant-loop-index
invariant-loop-index l =
    record {
      inside : l.index ≤ length l.lines;
      room : l.slot ≤ SLOT_LIMIT;
      total : l.slot ≡ slot_total l.insns.items;
      some : count_by is_instruction (take l.index l.lines) ≤ l.slot;
      same : body_from l.lines (take l.index l.lines) (l.first + l.index) l.slot l.insns.items (drop l.index l.lines) ≡ body l.first l.lines;
    }

abbrev pub decreases-loop-index : goal.decreases-loop-index
decreases-loop-index l = length l.initial.lines - l.index
