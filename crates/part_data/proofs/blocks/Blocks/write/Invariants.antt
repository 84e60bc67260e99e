use Rattle.std.proofs.Common.{◌-◌, ◌≤◌, length, take}
use Rattle.part_data.specs.Known.{kept}
use Rattle.part_data.specs.Changes.{IsWritten}
use Rattle.part_data.proofs.blocks.Blocks.write.Given as goal

abbrev pub invariant-loop-done : goal.invariant-loop-done
invariant-loop-done l = record {
  within : l.done ≤ length l.text;
  written : IsWritten (kept l.initial.self) (kept l.self) l.at (take l.done l.text);
}

abbrev pub decreases-loop-done : goal.decreases-loop-done
decreases-loop-done l = length l.text - l.done
