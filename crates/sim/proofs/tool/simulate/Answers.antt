use Rattle.std.proofs.Common.{rules, arith}
use Rattle.std.proofs.lemmas.Grind.{common_steps}
use Rattle.sim.proofs.tool.simulate.Goals as goal

-- turned by unreadable_file_has_no_events
pub returns-clause-ends : goal.returns-clause-ends
returns-clause-ends g c = search rules

pub returns-in_err-text-clause-fails : goal.returns-in_err-text-clause-fails
returns-in_err-text-clause-fails g c = grind (arith, common_steps)

pub returns-in_err-table-clause-fails : goal.returns-in_err-table-clause-fails
returns-in_err-table-clause-fails g c = grind (arith, common_steps)
