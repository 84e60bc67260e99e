use Rattle.std.proofs.Common.{arith}
use Rattle.part_names.proofs.Keeping.{after_learn, each_below}
use Rattle.part_names.proofs.part_names.PartNames.learn_entry.Goals as goal

pub invariant_of-self : goal.invariant_of-self
invariant_of-self c =
    after_learn c.self.inside.most c.self.inside.intervals c.self.inside.entries c.args.self.now c.args.name.now c.args.value.now
    c.self.view_is c.self.invariant c.requires (each_below c.args.name.now (λ i. omega (arith, c.type_inv.name i))) (each_below c.args.value.now (λ i. omega (arith, c.type_inv.value i))) c.in_ok-value.value c.in_ok-value.ensures c.set.result c.set.new.self c.set.ensures.ok c.set.ensures.err
