use Rattle.std.proofs.Common.{◌≡◌, ℕ, ◌<◌, get_or, length}
use Rattle.std.specs.Prelude.{false, Some, true}
use Rattle.abstract_regs.specs.Kind.{PlainKind}
use Rattle.abstract_regs.specs.Slots.{has, touches}
use Rattle.abstract_regs.specs.Seen.{seen_each}
use Rattle.abstract_regs.proofs.slots.meets_span.Given as goal

abbrev pub invariant-loop-j : goal.invariant-loop-j
invariant-loop-j l = (k : ℕ) → k < l.j → (d : PlainKind) → k < length l.fn.slots → touches (Some l.fn.span) k ≡ true → has l.fn.content (get_or (seen_each l.fn.slots) k d) ≡ false
