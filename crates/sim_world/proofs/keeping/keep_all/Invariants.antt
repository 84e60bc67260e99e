use Rattle.std.proofs.Common.{◌≡◌, ◌++◌, map}
use Rattle.std.specs.Vec.Iter.{into_iter_items, into_iter_len}
use Rattle.sim_world.specs.inner.Parts.{kept}
use Rattle.sim_world.proofs.keeping.keep_all.Given as goal

-- what is kept so far and what is left to keep
abbrev pub invariant-loop-packet : goal.invariant-loop-packet
invariant-loop-packet g l =
    l.sent ++ map (kept l.nodes) (into_iter_items l.rest) ≡ l.initial.sent ++ map (kept l.nodes) (into_iter_items l.initial.rest)

abbrev pub decreases-loop-packet : goal.decreases-loop-packet
decreases-loop-packet g l = into_iter_len l.rest
