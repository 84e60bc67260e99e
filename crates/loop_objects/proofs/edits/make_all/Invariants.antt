use Rattle.std.proofs.Common.{◌≡◌, length}
use Rattle.object_store.specs.Object.{PlainObject}
use Rattle.loop_objects.specs.inner.Making.{Makes}
use Rattle.loop_objects.proofs.edits.make_all.Given as goal

-- the edits that are left make of the object what all of them do
abbrev pub invariant-loop-rest : goal.invariant-loop-rest
invariant-loop-rest l = record {
  before : l.staged.before ≡ l.initial.staged.before;
  some : (o : PlainObject) × Makes l.rest l.staged.after o;
  each : (o : PlainObject) → Makes l.edits l.initial.staged.after o → Makes l.rest l.staged.after o;
}

abbrev pub decreases-loop-rest : goal.decreases-loop-rest
decreases-loop-rest l = length l.rest
