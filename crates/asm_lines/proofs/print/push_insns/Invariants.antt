use Rattle.std.proofs.Common.{◌≡◌, ◌++◌, string_bytes, drop}
use Rattle.asm_lines.specs.Canonical.{canonical_text}
use Rattle.asm_lines.proofs.print.push_insns.Given as goal

-- the text so far and that of what is left is the whole
abbrev pub invariant-loop-insn : goal.invariant-loop-insn
invariant-loop-insn l = string_bytes l.out ++ canonical_text (drop l.insn-index l.insns) ≡ string_bytes l.initial.out ++ canonical_text l.insns
