use Rattle.std.proofs.Common.{arith}
use Rattle.std.proofs.lemmas.Grind.{common_steps}
use Rattle.std.proofs.lemmas.Str.Pattern.{split_once_first}
use Rattle.std.specs.Prelude.{None}
use Rattle.radoscls_program.specs.Tenants.{is_equals}
use Rattle.radoscls_program.proofs.Tenants.{none_passes}
use Rattle.radoscls_program.proofs.entry.entry_of.Goals as goal

pub returns-in-None-clause-none : goal.returns-in-None-clause-none
returns-in-None-clause-none c = none_passes is_equals c.args.text.now (split_once_first 61 c.args.text.now None c.in-None.ensures.cases (omega arith))

pub returns-in-Some-clause-some : goal.returns-in-Some-clause-some
returns-in-Some-clause-some c = grind (arith, common_steps)
