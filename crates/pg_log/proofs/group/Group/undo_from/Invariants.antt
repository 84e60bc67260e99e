use Rattle.std.proofs.Common.{◌≡◌, length, take, ◌-◌}
use Rattle.pg_log.specs.Log.{fold}
use Rattle.pg_log.specs.Entries.{requests_of}
use Rattle.pg_log.proofs.group.Group.undo_from.Given as goal

abbrev pub invariant-loop-back : goal.invariant-loop-back
invariant-loop-back g l = l.objects ≡ fold g.C.Classes.classes (requests_of (take (length l.entries - l.back) l.entries))
