use Rattle.std.proofs.Common.{sym, ◌∙◌}
use Rattle.loop_asm.proofs.Lines.{from_budget}
use Rattle.loop_asm.proofs.method.method_loops.Goals as goal

pub returns-then-is_budget : goal.returns-then-is_budget
returns-then-is_budget c =
    let l = c.loop-rest in
    from_budget _ c.with_budget.result c.args.first l.line c.args.lines.now l.rest.now _ c.in-len1-up.len_at_least l.invariant.same (sym c.is_budget.ensures ∙ c.if-is_budget.true) c.with_budget.ensures
