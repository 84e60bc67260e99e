use Rattle.abstract_regs.proofs.Joins.{joins_hold}
use Rattle.abstract_regs.proofs.Places.{entry_holds, accesses_fit, ranges_fit}
use Rattle.abstract_regs.proofs.laws.holding_laws.Goals as goal

pub returns-clause-joins : goal.returns-clause-joins
returns-clause-joins c = joins_hold c.keeping_laws.ensures.join

pub returns-clause-entry : goal.returns-clause-entry
returns-clause-entry c = entry_holds c.keeping_laws.ensures.constant c.keeping_laws.ensures.ranges

pub returns-clause-accesses : goal.returns-clause-accesses
returns-clause-accesses c = accesses_fit c.keeping_laws.ensures.constant c.keeping_laws.ensures.constants_fit c.keeping_laws.ensures.arithmetic

pub returns-clause-ranges : goal.returns-clause-ranges
returns-clause-ranges c = ranges_fit
