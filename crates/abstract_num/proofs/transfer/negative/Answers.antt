use Rattle.std.proofs.Common.{ℕ, subst, refl}
use Rattle.abstract_num.specs.Plain.{Kept}
use Rattle.abstract_num.proofs.Transfers.{negative_is}
use Rattle.abstract_num.proofs.transfer.negative.Goals as goal

pub returns-clause-keeps : goal.returns-clause-keeps
returns-clause-keeps c = λ n h.
    subst (λ (v : ℕ). Kept c.arithmetic.result v) (negative_is c.args.bits n) (c.arithmetic.ensures.keeps 0 n ((c.constant.ensures.holds 0).1 refl) h)
