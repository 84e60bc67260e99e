use Rattle.std.proofs.Common.{◌≡◌, ◌++◌, map}
use Rattle.std.specs.Vec.Iter.{into_iter_items, into_iter_len}
use Rattle.sim_world.specs.inner.Buckets.{again_number}
use Rattle.sim_world.proofs.same.numbers_of.Given as goal

-- the numbers so far and those of what is left
abbrev pub invariant-loop-packet : goal.invariant-loop-packet
invariant-loop-packet l =
    l.numbers ++ map (again_number l.sent) (into_iter_items l.rest) ≡ map (again_number l.sent) (into_iter_items l.initial.rest)

abbrev pub decreases-loop-packet : goal.decreases-loop-packet
decreases-loop-packet l = into_iter_len l.rest
