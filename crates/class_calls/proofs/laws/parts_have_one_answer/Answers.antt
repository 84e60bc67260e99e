use Rattle.class_calls.proofs.OnParts.{same_as_whole, same_on_parts}
use Rattle.class_calls.proofs.laws.parts_have_one_answer.Goals as goal

pub returns-clause-same : goal.returns-clause-same
returns-clause-same c = same_on_parts c.one_part.ensures c.chains.ensures c.layouts.ensures

pub returns-clause-whole : goal.returns-clause-whole
returns-clause-whole c = same_as_whole c.one_part.ensures c.one_object.ensures c.chains.ensures c.layouts.ensures
