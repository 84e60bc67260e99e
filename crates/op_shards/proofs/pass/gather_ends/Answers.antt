use Rattle.std.proofs.Common.{◌<◌, ◌≤◌, length, ap, sym, ◌∙◌, arith}
use Rattle.op_shards.specs.Passes.{name}
use Rattle.op_shards.proofs.EndSteps.{same_at, same_map, length_by}
use Rattle.op_shards.proofs.Gathered.{spot_queues, join_step, join_end}
use Rattle.op_shards.proofs.pass.gather_ends.Goals as goal

pub index_mut-queue_end-requires : goal.index_mut-queue_end-requires
index_mut-queue_end-requires g c =
    let long = length_by (λ l. l.spot) (λ l. l.spot) c.loop-i.ends.items c.args.ends.now.items c.loop-i.invariant.ends in
    let all = length_by (λ l. l.spot.queue) (λ q. name q) c.args.ends.now.items c.args.queues.now.items c.requires.ends in
    omega (arith, c.loop-i-test.true, c.len-i-end.ensures, long, all)

pub index_mut-other-requires : goal.index_mut-other-requires
index_mut-other-requires g c =
    let long = length_by (λ l. l.spot) (λ l. l.spot) c.loop-i.others.items c.args.ends.now.items c.loop-i.invariant.others in
    let all = length_by (λ l. l.spot.queue) (λ q. name q) c.args.ends.now.items c.args.queues.now.items c.requires.ends in
    omega (arith, c.loop-i-test.true, c.len-i-end.ensures, long, all)

pub gather-requires : goal.gather-requires
gather-requires g c =
    let i = c.loop-i.i in
    let queue_end = c.index_mut-queue_end in
    let other = c.index_mut-other in
    let long = length_by (λ l. l.spot) (λ l. l.spot) c.loop-i.ends.items c.args.ends.now.items c.loop-i.invariant.ends in
    let all = length_by (λ l. l.spot.queue) (λ q. name q) c.args.ends.now.items c.args.queues.now.items c.requires.ends in
    let lt : i < length c.args.queues.now.items = omega (arith, c.loop-i-test.true, c.len-i-end.ensures) in
    let gt : i < length c.loop-i.ends.items = omega (arith, lt, long, all) in
    record {
      queue = same_at (λ l. l.spot.queue) (λ q. name q) c.loop-i.ends.items c.args.queues.now.items i queue_end.result.now c.index-queue.result.now lt
          (spot_queues c.loop-i.ends.items c.args.ends.now.items c.loop-i.invariant.ends ∙ c.requires.ends) queue_end.ensures.value c.index-queue.ensures;
      other = same_at (λ l. l.spot) (λ l. l.spot) c.loop-i.others.items c.loop-i.ends.items i other.result.now queue_end.result.now gt (c.loop-i.invariant.others ∙ sym c.loop-i.invariant.ends) other.ensures.value queue_end.ensures.value;
    }

pub loop-i-preserved : goal.loop-i-preserved
loop-i-preserved g c =
    let i = c.loop-i.i in
    let queue_end = c.index_mut-queue_end in
    let other = c.index_mut-other in
    let long = length_by (λ l. l.spot) (λ l. l.spot) c.loop-i.ends.items c.args.ends.now.items c.loop-i.invariant.ends in
    let longer = length_by (λ l. l.spot) (λ l. l.spot) c.loop-i.others.items c.args.ends.now.items c.loop-i.invariant.others in
    let all = length_by (λ l. l.spot.queue) (λ q. name q) c.args.ends.now.items c.args.queues.now.items c.requires.ends in
    let lt : i < length c.loop-i.ends.items = omega (arith, c.loop-i-test.true, c.len-i-end.ensures, long, all) in
    let gt : i < length c.loop-i.others.items = omega (arith, c.loop-i-test.true, c.len-i-end.ensures, longer, all) in
    record {
      ends = same_map (λ l. l.spot) c.loop-i.ends.items _ i queue_end.result.now c.gather.new.self queue_end.ensures.value (ap (λ l. l.spot) c.gather.ensures.mine) c.loop-i.invariant.ends;
      others = same_map (λ l. l.spot) c.loop-i.others.items _ i other.result.now c.gather.new.other other.ensures.value (ap (λ l. l.spot) c.gather.ensures.other) c.loop-i.invariant.others;
      rest = join_step i c.loop-i.ends.items c.loop-i.others.items queue_end.result.now other.result.now c.gather.new.self c.gather.new.other lt gt queue_end.ensures.value other.ensures.value c.gather.ensures.mine ∙ c.loop-i.invariant.rest;
    }

pub returns : goal.returns
returns g c =
    let i = c.loop-i.i in
    let long = length_by (λ l. l.spot) (λ l. l.spot) c.loop-i.ends.items c.args.ends.now.items c.loop-i.invariant.ends in
    let all = length_by (λ l. l.spot.queue) (λ q. name q) c.args.ends.now.items c.args.queues.now.items c.requires.ends in
    let le : length c.loop-i.ends.items ≤ i = omega (arith, c.loop-i-test.false, c.len-i-end.ensures, long, all) in
    sym (join_end i c.loop-i.ends.items c.loop-i.others.items le) ∙ c.loop-i.invariant.rest
