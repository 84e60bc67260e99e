use Rattle.std.proofs.Common.{sym, ◌∙◌}
use Rattle.std.proofs.lemmas.Result.{IfOk-weaker}
use Rattle.sim.proofs.Reaching.{says_bad, says_good}
use Rattle.sim.proofs.file.line_text.Goals as goal

pub returns-then-is_bad : goal.returns-then-is_bad
returns-then-is_bad g c =
    IfOk-weaker c.bad_line.result _ _ (λ t e. says_bad _ _ c.args.number c.args.taken.now _ (sym c.is_bad.ensures ∙ c.if-is_bad.true) e) c.bad_line.ensures

pub returns : goal.returns
returns g c =
    IfOk-weaker c.text.result _ _ (λ t says. says_good _ _ c.args.number c.args.taken.now _ (sym c.is_bad.ensures ∙ c.if-is_bad.false) says) c.text.ensures
