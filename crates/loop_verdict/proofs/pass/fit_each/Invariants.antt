use Rattle.std.proofs.Common.{ℕ, ◌<◌}
use Rattle.abstract_regs.specs.Frame.{kind_at}
use Rattle.abstract_regs.specs.Moves.{KindFits}
use Rattle.loop_verdict.proofs.pass.fit_each.Given as goal

abbrev pub invariant-loop-register : goal.invariant-loop-register
invariant-loop-register l = (r : ℕ) → r < l.register → KindFits (kind_at l.frame r)
