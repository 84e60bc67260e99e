use Rattle.std.proofs.Common.{rules}
use Rattle.helpers.proofs.changes.create.Goals as goal

-- turned by an_exclusive_create_over_an_object_answers_0
pub returns-clause-answer : goal.returns-clause-answer
returns-clause-answer c = search rules
