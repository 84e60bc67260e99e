use Rattle.std.proofs.Common.{◌≡◌, length}
use Rattle.std.specs.Prelude.{Some}
use Rattle.abstract_regs.specs.Seen.{seen_each}
use Rattle.abstract_regs.proofs.SlotLists.{spoiled_below}
use Rattle.abstract_regs.proofs.slots.spoil_span.Given as goal

abbrev pub invariant-loop-j : goal.invariant-loop-j
invariant-loop-j l = record {
  long : length l.slots ≡ length l.initial.slots;
  spoiled : seen_each l.slots ≡ spoiled_below (Some l.fn.span) l.j 0 (seen_each l.initial.slots);
}
