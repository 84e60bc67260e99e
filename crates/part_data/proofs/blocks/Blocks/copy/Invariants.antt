use Rattle.std.proofs.Common.{◌≡◌, ℕ, ◌+◌, ◌-◌, ◌<◌, ◌≤◌, length, get_or}
use Rattle.std.specs.Option.{unwrap_or}
use Rattle.part_data.specs.Known.{kept}
use Rattle.part_data.proofs.blocks.Blocks.copy.Given as goal

abbrev pub invariant-loop-done : goal.invariant-loop-done
invariant-loop-done l = record {
  within : l.done ≤ length l.out;
  len : length l.out ≡ length l.initial.out;
  copied : (k : ℕ) → k < l.done → get_or l.out k 0 ≡ unwrap_or (kept l.self (l.at + k)) 0;
}

abbrev pub decreases-loop-done : goal.decreases-loop-done
decreases-loop-done l = length l.out - l.done
