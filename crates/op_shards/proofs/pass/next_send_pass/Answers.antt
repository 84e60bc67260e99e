use Rattle.std.proofs.Common.{◌≡◌, ◌+◌, ◌<◌, ◌≤◌, [], length, ap, ◌∙◌, arith}
use Rattle.op_shards.specs.Order.{queue_position}
use Rattle.op_shards.specs.Passes.{name, names, queues_of, spots, spot_of, free_end_state, new_send}
use Rattle.op_shards.proofs.NewEnds.{spot_here, no_more_spots, length_spots_of, still_long, at_turn, one_more, more_ends, whole, done, new_send_view, new_send_placed, new_send_all}
use Rattle.op_shards.proofs.EndSteps.{send_view}
use Rattle.op_shards.proofs.pass.next_send_pass.Goals as goal

pub index_mut-free_end-requires : goal.index_mut-free_end-requires
index_mut-free_end-requires g c =
    let queues = c.args.queues.now.items in
    let xs = spots (queues_of (names queues) c.args.members.senders c.args.members.takers) in
    let long = still_long (free_end_state (c.args.sender + 1) c.args.members.takers) (free_end_state c.args.sender c.args.members.takers) xs c.loop-i.free_ends.items c.loop-i.i c.loop-i.invariant.free_ends in
    omega (arith, c.loop-i-test.true, c.len-i-end.ensures, long, length_spots_of queues c.args.members.senders c.args.members.takers)

pub next_sender-requires : goal.next_sender-requires
next_sender-requires g c =
    let p = c.args.sender in
    let queues = c.args.queues.now.items in
    let s = c.args.members.senders in
    let t = c.args.members.takers in
    let i = c.loop-i.i in
    let xs = spots (queues_of (names queues) s t) in
    let q = c.index-queue.result.now in
    let x = c.index_mut-free_end.result.now in
    let lt : i < length queues = omega (arith, c.loop-i-test.true, c.len-i-end.ensures) in
    let here = spot_here queues s t i q lt c.index-queue.ensures in
    let spot = spot_of (name q) (queue_position i (length (names queues)) s t) in
    let turn : x ≡ free_end_state p t spot = at_turn (free_end_state (p + 1) t) (free_end_state p t) xs c.loop-i.free_ends.items i spot x here.0 c.loop-i.invariant.free_ends here.1 c.index_mut-free_end.ensures.value in
    let next = ap (λ d. d.next) turn in
    let senders = ap (λ d. d.spot.place.senders) turn in
    record { queue = ap (λ d. d.spot.queue) turn; room = omega (arith, next, senders, c.requires.room) }

pub loop-i-preserved : goal.loop-i-preserved
loop-i-preserved g c =
    let p = c.args.sender in
    let queues = c.args.queues.now.items in
    let s = c.args.members.senders in
    let t = c.args.members.takers in
    let i = c.loop-i.i in
    let xs = spots (queues_of (names queues) s t) in
    let q = c.index-queue.result.now in
    let x = c.index_mut-free_end.result.now in
    let lt : i < length queues = omega (arith, c.loop-i-test.true, c.len-i-end.ensures) in
    let here = spot_here queues s t i q lt c.index-queue.ensures in
    let spot = spot_of (name q) (queue_position i (length (names queues)) s t) in
    let turn : x ≡ free_end_state p t spot = at_turn (free_end_state (p + 1) t) (free_end_state p t) xs c.loop-i.free_ends.items i spot x here.0 c.loop-i.invariant.free_ends here.1 c.index_mut-free_end.ensures.value in
    let given : c.next_sender.new.self ≡ free_end_state (p + 1) t spot = c.next_sender.ensures.next ∙ (λ k. record { spot = (turn k).spot; next = (turn k).next + 1; parts = (turn k).parts }) in
    let queue_end : c.next_sender.result ≡ new_send p spot = c.next_sender.ensures.queue_end ∙ (λ k. record { spot = (turn k).spot; sender = (turn k).next; accepted = [] }) in
    record {
      free_ends = one_more (free_end_state (p + 1) t) (free_end_state p t) xs c.loop-i.free_ends.items i spot c.next_sender.new.self here.0 c.loop-i.invariant.free_ends (given ∙ ap (free_end_state (p + 1) t) here.1);
      ends = more_ends (new_send p) xs c.loop-i.ends.items c.push.new.self.items i spot c.next_sender.result here.0 here.1 c.loop-i.invariant.ends queue_end c.in_ok-push.ensures.items;
    }

pub invariant_of-result : goal.invariant_of-result
invariant_of-result g c =
    let queues = c.args.queues.now.items in
    let s = c.args.members.senders in
    let t = c.args.members.takers in
    let i = c.loop-i.i in
    let xs = spots (queues_of (names queues) s t) in
    let le : length queues ≤ i = omega (arith, c.loop-i-test.false, c.len-i-end.ensures) in
    rw (whole (new_send c.args.sender) xs c.loop-i.ends.items i (no_more_spots queues s t i le) c.loop-i.invariant.ends) (new_send_placed _ s t c.args.sender (names queues), new_send_all _ c.args.sender xs)

pub returns-clause-free_ends : goal.returns-clause-free_ends
returns-clause-free_ends g c =
    let p = c.args.sender in
    let queues = c.args.queues.now.items in
    let s = c.args.members.senders in
    let t = c.args.members.takers in
    let i = c.loop-i.i in
    let xs = spots (queues_of (names queues) s t) in
    let le : length queues ≤ i = omega (arith, c.loop-i-test.false, c.len-i-end.ensures) in
    done (free_end_state (p + 1) t) (free_end_state p t) xs c.loop-i.free_ends.items i (no_more_spots queues s t i le) c.loop-i.invariant.free_ends

pub returns-clause-pass : goal.returns-clause-pass
returns-clause-pass g c =
    let queues = c.args.queues.now.items in
    let s = c.args.members.senders in
    let t = c.args.members.takers in
    let i = c.loop-i.i in
    let xs = spots (queues_of (names queues) s t) in
    let le : length queues ≤ i = omega (arith, c.loop-i-test.false, c.len-i-end.ensures) in
    ap (send_view s t c.args.sender) (whole (new_send c.args.sender) xs c.loop-i.ends.items i (no_more_spots queues s t i le) c.loop-i.invariant.ends) ∙ new_send_view _ s t c.args.sender (names queues)
