use Rattle.std.proofs.Common.{rules}
use Rattle.helpers.proofs.memory.map_next.Goals as goal

-- turned by map_next_gives_an_equal_key
pub returns-clause-answer : goal.returns-clause-answer
returns-clause-answer c = search rules

-- turned by map_next_gives_an_equal_key
pub returns-clause-bytes : goal.returns-clause-bytes
returns-clause-bytes c = search rules
