use Rattle.std.proofs.Common.{ap, sym, subst, ℕ, List, IsTrue}
use Rattle.part_names.specs.Order.{is_held}
use Rattle.part_names.specs.Known.{PlainNames}
use Rattle.part_names.proofs.Bounds.{reach_none, reach_all}
use Rattle.part_names.proofs.Agreeing.{agree_whole}
use Rattle.part_names.proofs.part_names.PartNames.is_whole.Goals as goal

pub returns-clause-all : goal.returns-clause-all
returns-clause-all c =
    let same = ap (λ (n : PlainNames). n.intervals) c.self.view_is in (
      λ t. subst (λ is. (a : List ℕ) → IsTrue (is_held is a)) same (reach_none c.self.inside.intervals c.reach.result c.is_none.result c.is_none.ensures c.reach.ensures t),
      λ all. reach_all c.self.inside.intervals c.reach.result c.is_none.result c.is_none.ensures c.reach.ensures (subst (λ is. (a : List ℕ) → IsTrue (is_held is a)) (sym same) all),
    )

pub returns-clause-same : goal.returns-clause-same
returns-clause-same c = λ t m agrees. agree_whole c.args.self.now m agrees ((returns-clause-all c).0 t)
