use Rattle.std.proofs.Common.{◌≡◌, ℕ, ◌<◌, length}
use Rattle.part_data.specs.Known.{block_at}
use Rattle.part_data.proofs.blocks.Blocks.truncate.Given as goal

abbrev pub invariant-loop-n : goal.invariant-loop-n
invariant-loop-n l = (q : ℕ) → q < l.end → block_at l.self q ≡ block_at l.initial.self q

abbrev pub decreases-loop-n : goal.decreases-loop-n
decreases-loop-n l = length l.self
