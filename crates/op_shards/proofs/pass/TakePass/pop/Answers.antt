use Rattle.std.proofs.Common.{ℕ, ◌<◌, ap, sym, subst, arith}
use Rattle.op_shards.specs.Passes.{parts_of}
use Rattle.op_shards.proofs.EndSteps.{in_range, queue_at, one_of_all, take_place_still, all_parts_still, takes_one}
use Rattle.op_shards.proofs.pass.TakePass.pop.Goals as goal

pub index_mut-queue_end-requires : goal.index_mut-queue_end-requires
index_mut-queue_end-requires g c =
    let lt = in_range (λ l. l.spot.queue) c.self.inside.ends.items _ c.args.shard _ (ap (λ s. s.queues.names) c.self.view_is) c.requires in
    omega (arith, lt)

pub pop-requires-clause-queue : goal.pop-requires-clause-queue
pop-requires-clause-queue g c = queue_at (λ l. l.spot.queue) c.self.inside.ends.items _ c.args.shard _ c.index_mut-queue_end.result.now (ap (λ s. s.queues.names) c.self.view_is) c.requires c.index_mut-queue_end.ensures.value

pub pop-requires-clause-part : goal.pop-requires-clause-part
pop-requires-clause-part g c =
    let ends = c.self.inside.ends.items in
    let lt = in_range (λ l. l.spot.queue) ends _ c.args.shard _ (ap (λ s. s.queues.names) c.self.view_is) c.requires in
    subst (λ (n : ℕ). 0 < n) (sym (one_of_all (λ l. l.parts) (parts_of ends) ends c.args.shard c.index_mut-queue_end.result.now lt c.index_mut-queue_end.ensures.value c.self.invariant.2)) c.self.invariant.1

pub invariant_of-self : goal.invariant_of-self
invariant_of-self g c =
    let queue_end = c.index_mut-queue_end in
    let facts = c.pop.ensures in
    let k = c.args.shard in
    let ends = c.self.inside.ends.items in
    let x = queue_end.result.now in
    let lt = in_range (λ l. l.spot.queue) ends _ k _ (ap (λ s. s.queues.names) c.self.view_is) c.requires in
    let parts = all_parts_still ends k x c.pop.new.self lt queue_end.ensures.value facts.queue_end.1 (c.self.invariant.1, c.self.invariant.2) in
    (take_place_still c.self.inside.senders c.self.inside.takers ends k x c.pop.new.self lt queue_end.ensures.value facts.queue_end.0 c.self.invariant.0, parts.0, parts.1)

pub returns : goal.returns
returns g c =
    let queue_end = c.index_mut-queue_end in
    let facts = c.pop.ensures in
    let lt = in_range (λ l. l.spot.queue) c.self.inside.ends.items _ c.args.shard _ (ap (λ s. s.queues.names) c.self.view_is) c.requires in
    takes_one g.T.GroupOp.group c.self.inside.senders c.self.inside.takers c.self.inside.ends.items c.args.shard queue_end.result.now c.pop.new.self c.pop.result lt queue_end.ensures.value c.self.invariant.0 c.self.invariant.2 facts.queue_end.0 facts.queue_end.1 facts.answer c.args.self.now c.self.view_is
