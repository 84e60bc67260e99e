use Rattle.std.proofs.Common.{◌≡◌, ◌++◌, string_bytes, drop}
use Rattle.asm_lines.specs.Canonical.{methods_with_slots}
use Rattle.asm_lines.proofs.print.push_methods_with_slots.Given as goal

-- the text so far and that of what is left is the whole
abbrev pub invariant-loop-method : goal.invariant-loop-method
invariant-loop-method l = string_bytes l.out ++ methods_with_slots (drop l.method-index l.methods) ≡ string_bytes l.initial.out ++ methods_with_slots l.methods
