use Rattle.abstract_num.proofs.AnyHalf.{whole_has_any_half}
use Rattle.abstract_num.proofs.laws.whole_laws.Goals as goal

pub returns : goal.returns
returns c = whole_has_any_half
