use Rattle.std.proofs.Common.{◌≤◌, List, ℕ, length, is_some, not, ◌||◌, nat_lt, arith, ap, sym, subst, ◌∙◌}
use Rattle.object_store.specs.declared.limits.TheConstants.{VALUE_LIMIT}
use Rattle.object_store.specs.Object.{AreBytes}
use Rattle.part_names.specs.Known.{PlainNames, Agrees}
use Rattle.part_names.specs.Changes.{with_entry}
use Rattle.std.specs.FinMap as fin
use Rattle.std.proofs.lemmas.Bool.{lt-ltb}
use Rattle.part_names.proofs.Orders.{or_second, some_copied}
use Rattle.part_names.proofs.Keeping.{after_insert, each_below}
use Rattle.part_names.proofs.Agreeing.{agree_set}
use Rattle.part_names.proofs.part_names.PartNames.set.Goals as goal
use Rattle.part_names.proofs.part_names.PartNames.set.Goals.{else-len-self-via-then-len-self+else-is_none, else-len-self-via-else-len-self}

pub invariant_of-self-2 : goal.invariant_of-self-2
invariant_of-self-2 c =
    let short = subst (λ (v : List ℕ). length v ≤ VALUE_LIMIT) (sym c.in_ok-value.ensures) c.requires.value in
    after_insert c.self.inside.most c.self.inside.entries c.args.name.now c.in_ok-value.value c.set.result c.set.new.self
    c.set.ensures.ok c.set.ensures.err c.self.invariant c.requires.name short
    (each_below c.args.name.now (λ i. omega (arith, c.type_inv.name i)))
    (subst AreBytes (sym c.in_ok-value.ensures) (each_below c.args.value.now (λ i. omega (arith, c.type_inv.value i))))
    (elim c.else-len-self.branch [
      | else-len-self-via-then-len-self+else-is_none w ↦
          ap (λ b. b || nat_lt (fin.len c.self.inside.entries) c.self.inside.most)
          (ap is_some (sym w.get.ensures) ∙ sym (some_copied w.get.result) ∙ w.is_none.ensures ∙ ap not w.if-is_none.false)
      | else-len-self-via-else-len-self w ↦
          or_second (is_some (fin.get c.self.inside.entries c.args.name.now)) _
          (lt-ltb (fin.len c.self.inside.entries) c.self.inside.most (omega (arith, w.if-len-self.false, c.len.ensures)))
    ])

pub returns-clause-agree : goal.returns-clause-agree
returns-clause-agree c = λ m agrees.
    subst (λ n. Agrees (record { most = c.self.inside.most; entries = n; intervals = c.self.inside.intervals }) (fin.insert m c.args.name.now c.args.value.now))
    (sym (c.in_ok-set.ensures.ok ∙ ap (fin.insert c.self.inside.entries c.args.name.now) c.in_ok-value.ensures))
    (subst (λ (n : PlainNames). Agrees (with_entry n c.args.name.now c.args.value.now) (fin.insert m c.args.name.now c.args.value.now)) (sym c.self.view_is)
    (agree_set c.args.self.now m agrees c.args.name.now c.args.value.now))
