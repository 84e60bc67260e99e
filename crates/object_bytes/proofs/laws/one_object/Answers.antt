use Rattle.object_bytes.proofs.Again.{one_object}
use Rattle.object_bytes.proofs.laws.one_object.Goals as goal

pub returns : goal.returns
returns c = one_object
