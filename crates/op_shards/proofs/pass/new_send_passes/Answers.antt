use Rattle.std.proofs.Common.{◌≡◌, ap, ◌∙◌, map, arith, rules}
use Rattle.std.specs.List.{range_with_len}
use Rattle.op_shards.specs.Passes.{names, queues_of, spots, free_end_state, new_sender}
use Rattle.op_shards.proofs.NewEnds.{more_passes}
use Rattle.op_shards.proofs.pass.new_send_passes.Goals as goal

-- turned by one_sender_for_all
pub next_send_pass-requires-clause-free_ends : goal.next_send_pass-requires-clause-free_ends
next_send_pass-requires-clause-free_ends g c = search rules

pub loop-sender-preserved : goal.loop-sender-preserved
loop-sender-preserved g c = record {
  free_ends = c.in_ok-pass.ensures.free_ends;
  passes = more_passes (new_sender (queues_of (names c.args.queues.now.items) c.args.members.senders c.args.members.takers)) c.loop-sender.sender c.loop-sender.passes.items c.push.new.self.items c.in_ok-pass.pass c.loop-sender.invariant.passes c.in_ok-pass.ensures.pass c.in_ok-push.ensures.items;
}

pub returns-clause-free_ends : goal.returns-clause-free_ends
returns-clause-free_ends g c =
    let all : c.loop-sender.sender ≡ c.args.members.senders = omega (arith, c.loop-sender-test.false, c.loop-sender.auto.sender-end) in
    c.loop-sender.invariant.free_ends ∙ ap (λ n. map (free_end_state n c.args.members.takers) (spots (queues_of (names c.args.queues.now.items) c.args.members.senders c.args.members.takers))) all

pub returns-clause-passes : goal.returns-clause-passes
returns-clause-passes g c =
    let all : c.loop-sender.sender ≡ c.args.members.senders = omega (arith, c.loop-sender-test.false, c.loop-sender.auto.sender-end) in
    c.loop-sender.invariant.passes ∙ ap (λ n. map (new_sender (queues_of (names c.args.queues.now.items) c.args.members.senders c.args.members.takers)) (range_with_len 0 n)) all
