use Rattle.std.proofs.Common.{◌≡◌, arith, false}
use Rattle.std.proofs.lemmas.Str.Pattern.{split_once_first}
use Rattle.std.specs.List.{list_any}
use Rattle.std.specs.Prelude.{None}
use Rattle.class_tests.specs.Spelled.{is_colon}
use Rattle.class_tests.proofs.Passes.{none_passes}
use Rattle.class_tests.proofs.spelled.part_in.Goals as goal

pub returns-in-None : goal.returns-in-None
returns-in-None c =
    let none : list_any is_colon c.args.part.now ≡ false =
    none_passes is_colon c.args.part.now (split_once_first 58 c.args.part.now None c.in-None.ensures.cases (omega arith)) in
    rw none c.digits_part.ensures
