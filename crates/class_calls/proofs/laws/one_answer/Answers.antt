use Rattle.class_calls.proofs.One.{same_answer, answered_not, one_refusal}
use Rattle.class_calls.proofs.laws.one_answer.Goals as goal

pub returns-clause-same : goal.returns-clause-same
returns-clause-same c = same_answer c.one_object.ensures c.chains.ensures c.layouts.ensures c.lists.ensures.one

pub returns-clause-answer : goal.returns-clause-answer
returns-clause-answer c = answered_not

pub returns-clause-refusal : goal.returns-clause-refusal
returns-clause-refusal c = one_refusal
