use Rattle.part_names.proofs.Keeping.{after_remove}
use Rattle.part_names.proofs.Agreeing.{agree_removed}
use Rattle.part_names.proofs.part_names.PartNames.remove.Goals as goal

pub invariant_of-self : goal.invariant_of-self
invariant_of-self c = after_remove c.self.inside.most c.self.inside.entries c.args.name.now c.remove.result c.remove.new.self c.remove.ensures.ok c.remove.ensures.err c.self.invariant

pub returns-clause-agree : goal.returns-clause-agree
returns-clause-agree c = agree_removed c.self.inside.most c.self.inside.intervals c.self.inside.entries c.args.self.now c.args.name.now c.remove.result c.remove.new.self c.remove.ensures.ok c.self.view_is
