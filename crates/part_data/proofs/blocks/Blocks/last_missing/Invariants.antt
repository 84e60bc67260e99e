use Rattle.std.proofs.Common.{ℕ, ◌<◌, ◌≤◌, IsSome}
use Rattle.part_data.specs.Known.{block_at}
use Rattle.part_data.proofs.blocks.Blocks.last_missing.Given as goal

abbrev pub invariant-loop-n : goal.invariant-loop-n
invariant-loop-n l = (l.first ≤ l.n) × (l.n ≤ l.last) × ((q : ℕ) → l.n < q → q ≤ l.last → IsSome (block_at l.self q))

abbrev pub decreases-loop-n : goal.decreases-loop-n
decreases-loop-n l = l.n
