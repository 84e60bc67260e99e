use Rattle.std.proofs.Common.{rules}
use Rattle.object_store.proofs.attributes.set_in.Goals as goal

-- turned by a_refused_set_changes_the_value
pub returns-then-is_none-clause-err : goal.returns-then-is_none-clause-err
returns-then-is_none-clause-err c = search rules
