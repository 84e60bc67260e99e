use Rattle.verifier.proofs.FirstSet.{fewer_rules}
use Rattle.verifier.proofs.laws.first_rule_set.Goals as goal

pub returns : goal.returns
returns c = fewer_rules c.slots_stay.ensures.flows c.slots_stay.ensures.joins
