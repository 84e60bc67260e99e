use Rattle.std.proofs.Common.{arith}
use Rattle.std.proofs.lemmas.Str.Pattern.{split_once_first}
use Rattle.std.specs.Prelude.{None}
use Rattle.radoscls_program.specs.Raw.{is_colon}
use Rattle.radoscls_program.proofs.Raws.{if_none}
use Rattle.radoscls_program.proofs.Tenants.{none_passes}
use Rattle.radoscls_program.proofs.raw_method.split.Goals as goal

pub returns-clause-none : goal.returns-clause-none
returns-clause-none c =
    if_none c.split_once.result (λ e. none_passes is_colon c.args.text.now (split_once_first 58 c.args.text.now None (rw e at c.split_once.ensures.cases) (omega arith)))
