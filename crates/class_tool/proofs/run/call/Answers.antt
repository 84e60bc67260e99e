use Rattle.std.proofs.Common.{rules}
use Rattle.class_tool.proofs.run.call.Goals as goal

-- turned by call_of_another_client
pub returns-in-Ok-clause-ok : goal.returns-in-Ok-clause-ok
returns-in-Ok-clause-ok c = search rules
