use Rattle.std.proofs.Common.{rules}
use Rattle.radoscls_program.proofs.telling.refuse.Goals as goal

-- turned by refusals_print_nothing
pub returns-clause-printed : goal.returns-clause-printed
returns-clause-printed g c = search rules
