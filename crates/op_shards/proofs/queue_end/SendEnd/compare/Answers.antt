use Rattle.std.proofs.Common.{◌<◌, suc, ap, sym, subst, ◌∙◌, ℕ, arith}
use Rattle.std.proofs.lemmas.Grind.{common_steps}
use Rattle.op_shards.proofs.Keeps.{parts, meets, accepts}
use Rattle.op_shards.proofs.queue_end.SendEnd.compare.Goals as goal

pub another-took-requires-clause-rule : goal.another-took-requires-clause-rule
another-took-requires-clause-rule g c = parts g.T.GroupOp.group _ _ c.other.invariant.1

pub absorb-requires-clause-rule : goal.absorb-requires-clause-rule
absorb-requires-clause-rule g c = meets g.T.GroupOp.group _ _ _ _ c.self.invariant.1 (ap (λ v. v.end) c.another-took.ensures.rule.1)

pub learn_as-requires-clause-rule : goal.learn_as-requires-clause-rule
learn_as-requires-clause-rule g c =
    let met = c.absorb.ensures.rule in
    accepts g.T.GroupOp.group _ _ (ap (λ v. v.end) met ∙ ap (λ v. v.end) c.self.invariant.0 ∙ sym (ap (λ v. suc v.first) met))
    (subst (λ (k : ℕ). 0 < k) (sym (ap (λ v. v.place.shards) met)) c.self.invariant.1)

pub another-requires-clause-rule : goal.another-requires-clause-rule
another-requires-clause-rule g c =
    let met = c.absorb.ensures.rule in
    let same = c.learn_as.ensures.queue.1 in
    parts g.T.GroupOp.group _ _ (subst (λ (k : ℕ). 0 < k) (sym (ap (λ v. v.place.shards) (same ∙ met))) c.self.invariant.1)

pub returns-clause-same : goal.returns-clause-same
returns-clause-same g c = grind (arith, common_steps)

pub invariant_of-self : goal.invariant_of-self
invariant_of-self g c = grind (arith, common_steps)
