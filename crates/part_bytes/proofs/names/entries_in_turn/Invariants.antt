use Rattle.std.proofs.Common.{map, []}
use Rattle.part_bytes.specs.Part.{after_entry}
use Rattle.part_bytes.specs.View.{entry_view}
use Rattle.part_bytes.specs.inner.Reading.{entry_at, in_turn}
use Rattle.part_bytes.proofs.Loops.{Along}
use Rattle.part_bytes.proofs.names.entries_in_turn.Given as goal

abbrev pub invariant-loop-left : goal.invariant-loop-left
invariant-loop-left l = Along entry_at after_entry (in_turn entry_at after_entry [] l.count l.bytes) (map entry_view l.entries.items) l.before l.left l.rest

abbrev pub decreases-loop-left : goal.decreases-loop-left
decreases-loop-left l = l.left
