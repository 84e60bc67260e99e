use Rattle.std.proofs.Common.{rules}
use Rattle.abstract_num.specs.proved.Ranges.{half_same}
use Rattle.abstract_num.proofs.half.domain.HalfDomain.join.Goals as goal

pub returns : goal.returns
returns c = half_same _ _ (search rules) (search rules)
