use Rattle.abstract_regs.proofs.Lengths.{flows_keep, joins_keep}
use Rattle.abstract_regs.proofs.laws.slots_stay.Goals as goal

pub returns-clause-flows : goal.returns-clause-flows
returns-clause-flows c = flows_keep

pub returns-clause-joins : goal.returns-clause-joins
returns-clause-joins c = joins_keep
