use Rattle.std.proofs.Common.{ap, sym, ◌∙◌, arith}
use Rattle.op_shards.specs.Passes.{spots}
use Rattle.op_shards.proofs.EndSteps.{in_range, queue_at, send_view, take_view, same_at, same_set, part_of_ends, first_of_ends}
use Rattle.op_shards.proofs.pass.SendPass.compare.Goals as goal

pub index_mut-mine-requires : goal.index_mut-mine-requires
index_mut-mine-requires g c =
    let lt = in_range (λ l. l.spot.queue) c.self.inside.ends.items _ c.args.shard _ (ap (λ s. s.queues.names) c.self.view_is) c.requires.queue in
    omega (arith, lt)

pub index_mut-theirs-requires : goal.index_mut-theirs-requires
index_mut-theirs-requires g c =
    let theirs = ap (λ t. t.queues.names) c.other.view_is ∙ ap (λ q. q.names) c.requires.same in
    let lt = in_range (λ l. l.spot.queue) c.other.inside.ends.items _ c.args.shard _ theirs c.requires.queue in
    omega (arith, lt)

pub compare-requires-clause-queue : goal.compare-requires-clause-queue
compare-requires-clause-queue g c = queue_at (λ l. l.spot.queue) c.self.inside.ends.items _ c.args.shard _ c.index_mut-mine.result.now (ap (λ s. s.queues.names) c.self.view_is) c.requires.queue c.index_mut-mine.ensures.value

pub compare-requires-clause-other : goal.compare-requires-clause-other
compare-requires-clause-other g c =
    let k = c.args.shard in
    let mine = c.self.inside.ends.items in
    let theirs = c.other.inside.ends.items in
    let lt = in_range (λ l. l.spot.queue) mine _ k _ (ap (λ s. s.queues.names) c.self.view_is) c.requires.queue in
    let queues = ap (λ t. t.queues) c.other.view_is ∙ c.requires.same ∙ sym (ap (λ s. s.queues) c.self.view_is) in
    let spots_same = c.other.invariant.0 ∙ ap spots queues ∙ sym c.self.invariant.0 in
    same_at (λ l. l.spot) (λ l. l.spot) theirs mine k c.index_mut-theirs.result.now c.index_mut-mine.result.now lt spots_same c.index_mut-theirs.ensures.value c.index_mut-mine.ensures.value

pub invariant_of-self : goal.invariant_of-self
invariant_of-self g c = rw (same_set c.self.inside.ends.items c.args.shard c.index_mut-mine.result.now c.compare.new.self c.index_mut-mine.ensures.value c.compare.ensures.same.0) c.self.invariant

pub invariant_of-other : goal.invariant_of-other
invariant_of-other g c = rw (same_set c.other.inside.ends.items c.args.shard c.index_mut-theirs.result.now c.compare.new.other c.index_mut-theirs.ensures.value c.compare.ensures.same.1) c.other.invariant

pub returns-clause-same : goal.returns-clause-same
returns-clause-same g c = (
  ap (send_view c.self.inside.senders c.self.inside.takers c.self.inside.sender) (same_set c.self.inside.ends.items c.args.shard c.index_mut-mine.result.now c.compare.new.self c.index_mut-mine.ensures.value c.compare.ensures.same.0) ∙ c.self.view_is,
  ap (take_view c.other.inside.senders c.other.inside.takers) (same_set c.other.inside.ends.items c.args.shard c.index_mut-theirs.result.now c.compare.new.other c.index_mut-theirs.ensures.value c.compare.ensures.same.1) ∙ c.other.view_is,
)

pub returns-clause-accepted : goal.returns-clause-accepted
returns-clause-accepted g c =
    let k = c.args.shard in
    let mine = c.self.inside.ends.items in
    let theirs = c.other.inside.ends.items in
    let lt = in_range (λ l. l.spot.queue) mine _ k _ (ap (λ s. s.queues.names) c.self.view_is) c.requires.queue in
    let gt = in_range (λ l. l.spot.queue) theirs _ k _ (ap (λ t. t.queues.names) c.other.view_is ∙ ap (λ q. q.names) c.requires.same) c.requires.queue in
    part_of_ends c.self.inside.senders c.self.inside.takers c.self.inside.sender mine c.other.inside.senders c.other.inside.takers theirs k c.index_mut-mine.result.now c.index_mut-theirs.result.now lt gt c.index_mut-mine.ensures.value c.index_mut-theirs.ensures.value
    c.self.invariant.1 c.compare.ensures.accepted c.args.self.now c.args.other.now c.self.view_is c.other.view_is

pub returns-clause-first : goal.returns-clause-first
returns-clause-first g c whole =
    let k = c.args.shard in
    let mine = c.self.inside.ends.items in
    let theirs = c.other.inside.ends.items in
    let lt = in_range (λ l. l.spot.queue) mine _ k _ (ap (λ s. s.queues.names) c.self.view_is) c.requires.queue in
    let gt = in_range (λ l. l.spot.queue) theirs _ k _ (ap (λ t. t.queues.names) c.other.view_is ∙ ap (λ q. q.names) c.requires.same) c.requires.queue in
    first_of_ends c.self.inside.senders c.self.inside.takers c.self.inside.sender mine c.other.inside.senders c.other.inside.takers theirs k c.index_mut-mine.result.now c.index_mut-theirs.result.now lt gt c.index_mut-mine.ensures.value c.index_mut-theirs.ensures.value
    c.self.invariant.0 c.self.invariant.1 c.other.invariant.2 c.compare.ensures.first c.args.self.now c.args.other.now c.self.view_is c.other.view_is c.requires.same whole
