use Rattle.std.proofs.Common.{◌≡◌, []}
use Rattle.object_bytes.specs.Reading.{entries_at}
use Rattle.object_bytes.proofs.reading.entries_at.Given as goal

-- what is left to read gives what all entries give
abbrev pub invariant-loop-left : goal.invariant-loop-left
invariant-loop-left l = entries_at l.part l.left l.last l.object l.rest ≡ entries_at l.part l.count [] l.fn.object l.bytes

abbrev pub decreases-loop-left : goal.decreases-loop-left
decreases-loop-left l = l.left
