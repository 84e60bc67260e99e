use Rattle.std.proofs.Common.{◌≡◌, ◌≤◌, ◌*◌, ◌++◌, string_bytes, drop}
use Rattle.asm_lines.specs.Canonical.{code_with_slots}
use Rattle.asm_lines.proofs.print.push_code_with_slots.Given as goal

-- the text so far and that of what is left is the whole
abbrev pub invariant-loop-insn : goal.invariant-loop-insn
invariant-loop-insn l =
    record {
      text : string_bytes l.out ++ code_with_slots l.slot (drop l.insn-index l.insns) ≡ string_bytes l.initial.out ++ code_with_slots 0 l.insns;
      few : l.slot ≤ 2 * l.insn-index;
    }
