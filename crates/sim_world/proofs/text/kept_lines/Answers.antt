use Rattle.std.proofs.Common.{◌+◌, ◌∙◌, arith}
use Rattle.std.proofs.lemmas.Grind.{common_steps}
use Rattle.sim_world.proofs.Grown.{lines_more}
use Rattle.sim_world.proofs.text.kept_lines.Goals as goal

pub loop-kept-preserved : goal.loop-kept-preserved
loop-kept-preserved c =
    lines_more c.args.messages.now c.loop-kept.kept-index (c.loop-kept.kept-index + 1) _ _ _ c.as_str.result.now c.loop-kept.next c.in_ok-next.next c.kept-item.result _
    c.loop-kept-test.true (omega arith) c.in_ok-next.ensures c.kept-item.is (c.as_str.ensures.value ∙ c.in_ok-line.ensures) c.in_ok-push_str.ensures.bytes c.loop-kept.invariant

pub returns : goal.returns
returns c = grind (arith, common_steps)
