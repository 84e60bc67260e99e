use Rattle.radoscls_program.specs.Arguments.{plain_of}
use Rattle.radoscls_program.proofs.actions.call_of.Goals as goal

pub returns-in-Err-clause-none : goal.returns-in-Err-clause-none
returns-in-Err-clause-none c known call takes = c.in-Err.ensures.none (plain_of call) takes.plain
