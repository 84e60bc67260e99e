use Rattle.part_bytes.proofs.Parts.{one_part}
use Rattle.part_bytes.proofs.laws.one_part.Goals as goal

pub returns : goal.returns
returns c = one_part
