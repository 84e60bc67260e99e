use Rattle.std.proofs.Common.{sym, subst}
use Rattle.part_names.specs.Known.{AreKept}
use Rattle.part_names.proofs.Keeping.{none_kept}
use Rattle.part_names.proofs.part_names.PartNames.clear.Goals as goal

pub invariant_of-self : goal.invariant_of-self
invariant_of-self c = subst (AreKept c.self.inside.most) (sym c.new.ensures) (none_kept c.self.inside.most)
