use Rattle.std.proofs.Common.{rules}
use Rattle.abstract_num.specs.proved.Ranges.{srange_same}
use Rattle.abstract_num.proofs.srange.domain.SRangeDomain.join.Goals as goal

pub returns : goal.returns
returns c = srange_same _ _ (search rules) (search rules)
