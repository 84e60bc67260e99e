use Rattle.class_calls.proofs.Lacking.{not_in}
use Rattle.class_calls.proofs.laws.needs_are_lacking.Goals as goal

pub returns : goal.returns
returns c = λ p first last knows grows helper given need n. not_in p first last knows grows helper given need n
