use Rattle.std.proofs.Common.{◌≡◌, replicate, None}
use Rattle.loop_asm.proofs.class.none_of.Given as goal

abbrev pub invariant-loop : goal.invariant-loop
invariant-loop l = l.all.items ≡ replicate l.counter None
