use Rattle.std.proofs.Common.{◌≡◌}
use Rattle.std.specs.Prelude.{replicate}
use Rattle.abstract_num.specs.Plain.{constant}
use Rattle.abstract_regs.specs.Kind.{Num}
use Rattle.abstract_regs.specs.Seen.{seen_each}
use Rattle.abstract_regs.proofs.slots.zeros.Given as goal

abbrev pub invariant-loop : goal.invariant-loop
invariant-loop l = seen_each l.slots.items ≡ replicate l.counter (Num (constant 0))
