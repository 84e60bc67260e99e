use Rattle.std.proofs.Common.{rules}
use Rattle.helpers.proofs.changes.setxattr.Goals as goal

-- turned by a_refused_setxattr_changes_a_value
pub returns-clause-object : goal.returns-clause-object
returns-clause-object c = search rules

-- turned by a_refused_setxattr_changes_a_value
pub returns-clause-refused : goal.returns-clause-refused
returns-clause-refused c = search rules
