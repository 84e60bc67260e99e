use Rattle.std.proofs.Common.{◌≡◌, ap, ◌∙◌, subst, arith, ⊎_elim}
use Rattle.std.proofs.lemmas.Bool.{cases_lt}
use Rattle.abstract_regs.specs.Frame.{kind_at}
use Rattle.abstract_regs.specs.Moves.{KindFits}
use Rattle.abstract_regs.proofs.Keeping.{each_fits}
use Rattle.std.specs.Prelude.{[], ◌∷◌}
use Rattle.loop_verdict.proofs.pass.fit_each.Goals as goal

pub loop-register-preserved : goal.loop-register-preserved
loop-register-preserved c = λ r lt. ⊎_elim (λ less. c.loop-register.invariant r less)
    (λ le. let same : c.loop-register.register ≡ r = omega arith in
    let one = each_fits c.keeping_laws.ensures.fits (c.kind-kind.result ∷ []) in
    subst KindFits (c.kind-kind.ensures ∙ ap (kind_at c.args.frame.now) same) one.0) (cases_lt r c.loop-register.register)
