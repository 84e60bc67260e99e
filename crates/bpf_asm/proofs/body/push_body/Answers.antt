use Rattle.std.proofs.Common.{arith}
use Rattle.std.proofs.lemmas.Grind.{common_steps}
use Rattle.bpf_asm.specs.Bodies.{body_from}
use Rattle.bpf_asm.proofs.BodyLemmas.{one_slot, slot_total_push, counted_more}
use Rattle.bpf_asm.proofs.body.push_body.Goals as goal
use Rattle.bpf_asm.proofs.body.push_body.Goals.{in-Ok-None, in-Ok-Some+in_ok-push-in-Ok-Some}

pub loop-index-preserved : goal.loop-index-preserved
unfolding body_from
loop-index-preserved c =
    let counted = counted_more c.args.lines.now c.loop-index.index c.index-lines-index.result c.loop-index-test.true c.index-lines-index.is in
    elim c.match-this.branch [
      | in-Ok-None w ↦ record { inside = omega arith; room = grind (arith, common_steps); total = grind (arith, common_steps); some = grind (arith, common_steps, counted, one_slot); same = grind (arith, common_steps) }
      | in-Ok-Some+in_ok-push-in-Ok-Some w ↦ record { inside = omega arith; room = grind (arith, common_steps); total = grind (arith, common_steps, slot_total_push); some = grind (arith, common_steps, counted, one_slot); same = grind (arith, common_steps) }
    ]
