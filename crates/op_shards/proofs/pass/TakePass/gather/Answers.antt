use Rattle.std.proofs.Common.{ap, sym, ◌∙◌}
use Rattle.op_shards.specs.Passes.{after_gather}
use Rattle.op_shards.proofs.Gathered.{same_spots, join_kept, join_view}
use Rattle.op_shards.proofs.EndSteps.{take_view}
use Rattle.op_shards.proofs.pass.TakePass.gather.Goals as goal

pub gather_ends-requires : goal.gather_ends-requires
gather_ends-requires g c =
    let spots_same = same_spots c.self.inside.senders c.self.inside.takers c.other.inside.senders c.other.inside.takers c.self.inside.ends.items c.other.inside.ends.items c.self.invariant.0 c.other.invariant.0
    (ap (λ t. t.queues) c.other.view_is ∙ c.requires.other ∙ sym (ap (λ t. t.queues) c.self.view_is)) in
    record { ends = ap (λ t. t.queues.names) c.self.view_is ∙ c.requires.queues; others = spots_same }

pub invariant_of-self : goal.invariant_of-self
invariant_of-self g c =
    let spots_same = same_spots c.self.inside.senders c.self.inside.takers c.other.inside.senders c.other.inside.takers c.self.inside.ends.items c.other.inside.ends.items c.self.invariant.0 c.other.invariant.0
    (ap (λ t. t.queues) c.other.view_is ∙ c.requires.other ∙ sym (ap (λ t. t.queues) c.self.view_is)) in
    rw c.gather_ends.ensures (join_kept c.self.inside.senders c.self.inside.takers c.self.inside.ends.items c.other.inside.ends.items spots_same c.self.invariant (c.other.invariant.1, c.other.invariant.2))

pub returns : goal.returns
returns g c =
    let spots_same = same_spots c.self.inside.senders c.self.inside.takers c.other.inside.senders c.other.inside.takers c.self.inside.ends.items c.other.inside.ends.items c.self.invariant.0 c.other.invariant.0
    (ap (λ t. t.queues) c.other.view_is ∙ c.requires.other ∙ sym (ap (λ t. t.queues) c.self.view_is)) in
    ap (take_view c.self.inside.senders c.self.inside.takers) c.gather_ends.ensures
    ∙ join_view c.self.inside.senders c.self.inside.takers c.self.inside.ends.items c.other.inside.ends.items spots_same c.other.inside.senders c.other.inside.takers
    ∙ (λ i. after_gather (c.self.view_is i) (c.other.view_is i))
