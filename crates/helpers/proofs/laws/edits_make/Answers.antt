use Rattle.helpers.proofs.Makes.{edits_make}
use Rattle.helpers.proofs.laws.edits_make.Goals as goal

pub returns : goal.returns
returns c = edits_make
