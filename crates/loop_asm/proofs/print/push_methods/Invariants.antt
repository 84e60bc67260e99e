use Rattle.std.proofs.Common.{◌≡◌, ◌++◌, string_bytes, take}
use Rattle.std.specs.List.{flat_map}
use Rattle.loop_asm.specs.Canonical.{method_text}
use Rattle.loop_asm.specs.Printing.{written}
use Rattle.loop_asm.proofs.print.push_methods.Given as goal

abbrev pub invariant-loop-method : goal.invariant-loop-method
invariant-loop-method l = string_bytes l.out ≡ string_bytes l.initial.out ++ flat_map (method_text (written l.slots)) (take l.method-index l.methods)
