use Rattle.helpers.proofs.InRange.{answers_are}
use Rattle.helpers.proofs.laws.answers_are_in_range.Goals as goal

pub returns : goal.returns
returns c = answers_are
