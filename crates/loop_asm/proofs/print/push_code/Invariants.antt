use Rattle.std.proofs.Common.{◌≡◌, ◌≤◌, ◌*◌, ◌++◌, string_bytes, drop}
use Rattle.std.specs.Option.{option_copied}
use Rattle.loop_asm.specs.Canonical.{code_text}
use Rattle.loop_asm.specs.Printing.{written, heads_of}
use Rattle.loop_asm.proofs.print.push_code.Given as goal

-- the text so far and that of what is left is the whole
abbrev pub invariant-loop-insn : goal.invariant-loop-insn
invariant-loop-insn l =
    record {
      text : string_bytes l.out ++ code_text (written l.slots) (heads_of (option_copied l.loops)) l.slot (drop l.insn-index l.insns) ≡ string_bytes l.initial.out ++ code_text (written l.slots) (heads_of (option_copied l.loops)) 0 l.insns;
      few : l.slot ≤ 2 * l.insn-index;
    }
