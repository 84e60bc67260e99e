use Rattle.std.proofs.Common.{sym, subst}
use Rattle.part_names.specs.Known.{AreKept}
use Rattle.part_names.proofs.Keeping.{none_kept}
use Rattle.part_names.proofs.part_names.PartNames.all_known.Goals as goal

pub invariant_of-result : goal.invariant_of-result
invariant_of-result c = subst (AreKept c.args.most) (sym c.new.ensures) (none_kept c.args.most)
