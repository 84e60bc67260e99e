use Rattle.std.proofs.Common.{sym, ◌∙◌}
use Rattle.bpf_decode.proofs.laws.one_spelling.Goals as goal

pub returns-clause-code : goal.returns-clause-code
returns-clause-code c = λ a b is p q. p.spelled ∙ sym q.spelled

pub returns-clause-image : goal.returns-clause-image
returns-clause-image c = λ a b ms p q. p.spelled ∙ sym q.spelled
