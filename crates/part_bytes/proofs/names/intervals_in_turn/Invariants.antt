use Rattle.std.proofs.Common.{map, None}
use Rattle.std.specs.Option.{option_copied}
use Rattle.part_bytes.specs.Part.{after_interval}
use Rattle.part_bytes.specs.View.{interval_view}
use Rattle.part_bytes.specs.inner.Reading.{interval_at, in_turn}
use Rattle.part_bytes.proofs.Loops.{Along}
use Rattle.part_bytes.proofs.names.intervals_in_turn.Given as goal

abbrev pub invariant-loop-left : goal.invariant-loop-left
invariant-loop-left l = Along interval_at after_interval (in_turn interval_at after_interval None l.count l.bytes) (map interval_view l.intervals.items) (option_copied l.before) l.left l.rest

abbrev pub decreases-loop-left : goal.decreases-loop-left
decreases-loop-left l = l.left
