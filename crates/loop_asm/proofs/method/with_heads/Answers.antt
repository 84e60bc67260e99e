use Rattle.loop_asm.specs.Answers.{contents}
use Rattle.loop_asm.proofs.Heads.{loops_made}
use Rattle.loop_asm.proofs.method.with_heads.Goals as goal

pub unreachable-requires : goal.unreachable-requires
unreachable-requires c =
    let right = loops_made c.args.first c.args.budget (contents c.args.lines.now) c.in-Ok.heads.items c.requires.paid c.requires.bounded c.requires.some c.in-Ok.ensures in
    let wrong = c.in-Err-new.ensures.refused in
    cc
