use Rattle.std.proofs.Common.{arith, ◌∙◌, sym, length}
use Rattle.std.proofs.lemmas.Bool.{eqb-false}
use Rattle.loop_heads.proofs.Heads.{loops_right}
use Rattle.loop_heads.proofs.loops.refusal.Goals as goal

pub returns-clause-loops : goal.returns-clause-loops
returns-clause-loops c =
    let some = eqb-false (length c.args.heads.now) 0 (sym c.is_empty.ensures ∙ c.if-is_empty.false) in
    let right = loops_right c.args.budget c.args.heads.now (omega arith) (omega arith) (omega arith) (omega arith) in
    (λ e. right.0 (sym c.heads_refusal.ensures ∙ e), λ l. c.heads_refusal.ensures ∙ right.1 l)
