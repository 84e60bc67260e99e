use Rattle.std.proofs.Common.{◌≡◌, ◌%◌, length, List, ap, sym, subst, ◌∙◌, arith}
use Rattle.std.proofs.lemmas.List.Elements.{All-set}
use Rattle.atomic_table.specs.Seated.{TableId}
use Rattle.op_shards.specs.declared.rule.QueuePosition.{QueuePosition}
use Rattle.op_shards.proofs.EndSteps.{in_range, queue_at, one_of_all, send_place, send_place_still, sends}
use Rattle.op_shards.proofs.Sent.{by_shard}
use Rattle.op_shards.proofs.pass.SendPass.push.Goals as goal

pub index_mut-queue_end-requires : goal.index_mut-queue_end-requires
index_mut-queue_end-requires g c =
    let lt = in_range (λ l. l.spot.queue) c.self.inside.ends.items _ c.args.shard _ (ap (λ s. s.queues.names) c.self.view_is) c.requires.queue in
    omega (arith, lt)

pub push-requires-clause-queue : goal.push-requires-clause-queue
push-requires-clause-queue g c = queue_at (λ l. l.spot.queue) c.self.inside.ends.items _ c.args.shard _ c.index_mut-queue_end.result.now (ap (λ s. s.queues.names) c.self.view_is) c.requires.queue c.index_mut-queue_end.ensures.value

pub push-requires-clause-number : goal.push-requires-clause-number
push-requires-clause-number g c =
    let ends = c.self.inside.ends.items in
    let lt = in_range (λ l. l.spot.queue) ends _ c.args.shard _ (ap (λ s. s.queues.names) c.self.view_is) c.requires.queue in
    one_of_all (λ l. l.sender) c.self.inside.sender ends c.args.shard c.index_mut-queue_end.result.now lt c.index_mut-queue_end.ensures.value c.self.invariant.1

pub push-requires-clause-here : goal.push-requires-clause-here
push-requires-clause-here g c =
    let queue_end = c.index_mut-queue_end in
    let k = c.args.shard in
    let ends = c.self.inside.ends.items in
    let lt = in_range (λ l. l.spot.queue) ends _ k _ (ap (λ s. s.queues.names) c.self.view_is) c.requires.queue in
    let place = send_place c.self.inside.senders c.self.inside.takers ends k queue_end.result.now lt queue_end.ensures.value c.self.invariant.0 in
    subst (λ (q : QueuePosition). g.T.GroupOp.group c.args.op % q.shards ≡ q.shard) (sym place)
    (subst (λ (n : List TableId). g.T.GroupOp.group c.args.op % length n ≡ k) (sym (ap (λ s. s.queues.names) c.self.view_is)) c.requires.here)

pub invariant_of-self : goal.invariant_of-self
invariant_of-self g c =
    let queue_end = c.index_mut-queue_end in
    let facts = c.push.ensures in
    let k = c.args.shard in
    let ends = c.self.inside.ends.items in
    let p = c.self.inside.sender in
    let x = queue_end.result.now in
    let lt = in_range (λ l. l.spot.queue) ends _ k _ (ap (λ s. s.queues.names) c.self.view_is) c.requires.queue in
    let same_sender : x.sender ≡ p = one_of_all (λ l. l.sender) p ends k x lt queue_end.ensures.value c.self.invariant.1 in (
      send_place_still c.self.inside.senders c.self.inside.takers ends k x c.push.new.self lt queue_end.ensures.value facts.queue_end.0 c.self.invariant.0,
      All-set (λ l. l.sender ≡ p) ends k c.push.new.self (facts.queue_end.1 ∙ same_sender) c.self.invariant.1,
    )

pub returns-clause-lists : goal.returns-clause-lists
returns-clause-lists g c =
    ap (λ s. length s.accepted) (sym c.self.view_is) ∙ by_shard (λ l. l.accepted) (λ l. l.spot.queue) c.self.inside.ends.items ∙ ap (λ s. length s.queues.names) c.self.view_is

pub returns-clause-answer : goal.returns-clause-answer
returns-clause-answer g c =
    let queue_end = c.index_mut-queue_end in
    let facts = c.push.ensures in
    let lt = in_range (λ l. l.spot.queue) c.self.inside.ends.items _ c.args.shard _ (ap (λ s. s.queues.names) c.self.view_is) c.requires.queue in
    sends g.T.GroupOp.group c.self.inside.senders c.self.inside.takers c.self.inside.sender c.self.inside.ends.items c.args.shard queue_end.result.now c.push.new.self _ c.args.op c.push.result lt queue_end.ensures.value c.self.invariant.0 c.self.invariant.1 facts.queue_end.0 facts.queue_end.1 facts.answer c.args.self.now c.self.view_is
