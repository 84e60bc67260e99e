use Rattle.std.proofs.Common.{rules}
use Rattle.helpers.proofs.memory.getxattr.Goals as goal

-- turned by a_name_is_written_over_before_it_is_read
pub returns-clause-answer : goal.returns-clause-answer
returns-clause-answer c = search rules

-- turned by a_name_is_written_over_before_it_is_read
pub returns-clause-bytes : goal.returns-clause-bytes
returns-clause-bytes c = search rules
