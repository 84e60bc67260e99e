use Rattle.std.proofs.Common.{◌≡◌, drop}
use Rattle.sim_world.specs.inner.Buckets.{first_equal}
use Rattle.sim_world.proofs.sent.first_equal.Given as goal

-- the numbers that are left give what all give
abbrev pub invariant-loop-number : goal.invariant-loop-number
invariant-loop-number l = first_equal l.message l.kept (drop l.number-index l.numbers) ≡ first_equal l.message l.kept l.numbers
