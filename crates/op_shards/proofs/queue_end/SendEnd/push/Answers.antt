use Rattle.std.proofs.Common.{◌≡◌, ◌%◌, ap, sym, subst, ◌∙◌, arith}
use Rattle.std.proofs.lemmas.Grind.{common_steps}
use Rattle.op_shards.specs.declared.rule.QueuePosition.{QueuePosition}
use Rattle.op_shards.proofs.Keeps.{puts, learns}
use Rattle.op_shards.proofs.queue_end.SendEnd.push.Goals as goal

pub push_as-requires-clause-rule : goal.push_as-requires-clause-rule
push_as-requires-clause-rule g c =
    let i = c.self.invariant in
    let v = c.self.inside.pass.me.0.client in
    let from : c.args.number ≡ v.first = sym (ap (λ s. s.sender) c.self.view_is ∙ c.requires.number) in
    let lies : g.T.GroupOp.group c.args.op % v.place.shards ≡ v.place.shard = subst (λ (q : QueuePosition). g.T.GroupOp.group c.args.op % q.shards ≡ q.shard) (sym (ap (λ s. s.spot.place) c.self.view_is)) c.requires.here in
    (puts g.T.GroupOp.group _ _ v.first _ _ (ap (λ v. v.first) i.0) (ap (λ v. v.end) i.0) i.1 lies from i.2, learns g.T.GroupOp.group _ _ i.1)

pub returns-in-Err-clause-answer : goal.returns-in-Err-clause-answer
returns-in-Err-clause-answer g c = grind (arith, common_steps)

pub invariant_of-self-in-Err : goal.invariant_of-self-in-Err
invariant_of-self-in-Err g c = grind (arith, common_steps)

pub returns-in-Ok-clause-answer : goal.returns-in-Ok-clause-answer
returns-in-Ok-clause-answer g c = grind (arith, common_steps)

pub invariant_of-self : goal.invariant_of-self
invariant_of-self g c = grind (arith, common_steps)
