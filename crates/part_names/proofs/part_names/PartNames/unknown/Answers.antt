use Rattle.std.proofs.Common.{sym, subst}
use Rattle.std.specs.FinMap as fin
use Rattle.object_store.specs.Object.{Attributes}
use Rattle.part_names.specs.Known.{AreKept, Agrees}
use Rattle.part_names.proofs.Keeping.{none_kept}
use Rattle.part_names.proofs.Knowing.{all_agree}
use Rattle.part_names.proofs.part_names.PartNames.unknown.Goals as goal

pub invariant_of-result : goal.invariant_of-result
invariant_of-result c = subst (AreKept c.args.most) (sym c.new.ensures) (none_kept c.args.most)

pub returns-clause-agree : goal.returns-clause-agree
returns-clause-agree c =
    subst (λ e. (m : Attributes) → Agrees (record { most = c.args.most; entries = e; intervals = c.none.result }) m) (sym c.new.ensures)
    (subst (λ is. (m : Attributes) → Agrees (record { most = c.args.most; entries = fin.empty; intervals = is }) m) (sym c.none.ensures) (all_agree c.args.most))
