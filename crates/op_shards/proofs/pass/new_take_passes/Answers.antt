use Rattle.std.proofs.Common.{◌≡◌, ◌+◌, ◌-◌, ap, ◌∙◌, map, arith}
use Rattle.std.specs.List.{range_with_len}
use Rattle.op_shards.specs.Passes.{names, queues_of, spots, free_end_state, new_taker}
use Rattle.op_shards.proofs.NewEnds.{more_passes}
use Rattle.op_shards.proofs.pass.new_take_passes.Goals as goal

pub loop-taker-preserved : goal.loop-taker-preserved
loop-taker-preserved g c =
    let n : c.args.members.takers - c.loop-taker.taker - 1 ≡ c.args.members.takers - (c.loop-taker.taker + 1) = omega arith in
    record {
      free_ends = c.in_ok-pass.ensures.free_ends ∙ ap (λ k. map (free_end_state c.args.members.senders k) (spots (queues_of (names c.args.queues.now.items) c.args.members.senders c.args.members.takers))) n;
      passes = more_passes (λ _. new_taker (queues_of (names c.args.queues.now.items) c.args.members.senders c.args.members.takers)) c.loop-taker.taker c.loop-taker.passes.items c.push.new.self.items c.in_ok-pass.pass c.loop-taker.invariant.passes c.in_ok-pass.ensures.pass c.in_ok-push.ensures.items;
    }

pub returns : goal.returns
returns g c =
    let all : c.loop-taker.taker ≡ c.args.members.takers = omega (arith, c.loop-taker-test.false, c.loop-taker.auto.taker-end) in
    record { passes = c.loop-taker.invariant.passes ∙ ap (λ n. map (λ _. new_taker (queues_of (names c.args.queues.now.items) c.args.members.senders c.args.members.takers)) (range_with_len 0 n)) all }
