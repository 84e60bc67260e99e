use Rattle.std.proofs.Common.{drop}
use Rattle.sim.proofs.Making.{Making}
use Rattle.sim.proofs.objects.objects_of.Given as goal

-- the objects so far are those of the entries above
abbrev pub invariant-loop-entry : goal.invariant-loop-entry
invariant-loop-entry g l = Making g.C.Classes.classes l.entries (drop l.entry-index l.entries) l.made
