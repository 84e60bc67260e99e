use Rattle.std.proofs.Common.{ℕ, ◌<◌, ◌≤◌, IsSome}
use Rattle.part_data.specs.Known.{block_at, known_by}
use Rattle.part_data.specs.Changes.{IsSame}
use Rattle.part_data.proofs.blocks.Blocks.fill.Given as goal

abbrev pub invariant-loop-n : goal.invariant-loop-n
invariant-loop-n l = record {
  known : IsSame (known_by l.low l.initial.self) (known_by l.low l.self);
  all : (q : ℕ) → l.first ≤ q → q < l.n → IsSome (block_at l.self q);
}
