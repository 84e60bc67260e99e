use Rattle.std.proofs.Common.{◌<◌, ◌%◌, length, arith}
use Rattle.std.proofs.lemmas.Grind.{common_steps, elements}
use Rattle.op_shards.proofs.Sent.{answer_grew, answer_sent}
use Rattle.op_shards.proofs.shards.OpShards.submit.Goals as goal

-- turned by submit_answers_ok_and_drops
pub returns-clause-answer : goal.returns-clause-answer
returns-clause-answer g c = grind (arith, common_steps)

pub push-requires-clause-here : goal.push-requires-clause-here
push-requires-clause-here g c = grind (arith, common_steps)

pub push-requires-clause-queue : goal.push-requires-clause-queue
push-requires-clause-queue g c = grind (arith, elements)

-- turned by submit_answers_ok_and_drops
pub returns-clause-grew : goal.returns-clause-grew
returns-clause-grew g c = answer_grew _ _ c.push.result c.args.pass.now c.push.new.self _ c.args.op c.push.ensures.answer

-- turned by submit_answers_ok_and_drops
pub returns-clause-sent : goal.returns-clause-sent
returns-clause-sent g c =
    let lt : c.group.result % c.len.result < length c.args.pass.now.accepted = grind (arith, elements) in
    answer_sent _ _ c.push.result c.args.pass.now c.push.new.self _ c.args.op lt c.push.ensures.answer
