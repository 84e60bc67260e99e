use Rattle.std.proofs.Common.{sym, ◌∙◌, arith}
use Rattle.abstract_num.specs.proved.BitsRows.{clear_zero}
use Rattle.abstract_num.proofs.bits.domain.BitsDomain.constant.Goals as goal

pub returns : goal.returns
returns c = λ k. ((λ h. sym (clear_zero k) ∙ h.0), (λ e. (clear_zero k ∙ e, omega arith)))
