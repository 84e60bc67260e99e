use Rattle.part_bytes.proofs.Needs.{one_need}
use Rattle.part_bytes.proofs.laws.one_need.Goals as goal

pub returns : goal.returns
returns c = one_need
