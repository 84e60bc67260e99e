use Rattle.std.proofs.Common.{length}
use Rattle.large_objects.proofs.Spelled.{Goes}
use Rattle.large_objects.proofs.edits.make_all.Given as goal

-- with the edits that are left, those that were made are all
abbrev pub invariant-loop-rest : goal.invariant-loop-rest
invariant-loop-rest l = Goes l.edits l.initial.object l.rest l.object

abbrev pub decreases-loop-rest : goal.decreases-loop-rest
decreases-loop-rest l = length l.rest
