use Rattle.std.proofs.Common.{subst, sym, Option}
use Rattle.abstract_num.specs.Plain.{Plain, Gives, view}
use Rattle.abstract_num.proofs.Steps.{none_first, none_second, none_third, all_steps}
use Rattle.abstract_num.proofs.tightening.stepped.Goals as goal

pub returns-in_default : goal.returns-in_default
returns-in_default c = none_first (view c.args.x) c.in_default.ensures

pub returns-in_default-by_unsigned : goal.returns-in_default-by_unsigned
returns-in_default-by_unsigned c =
    none_second (view c.args.x) c.in-Some.y c.in-Some.ensures c.in_default-by_unsigned.ensures

pub returns-in_default-by_signed : goal.returns-in_default-by_signed
returns-in_default-by_signed c =
    none_third (view c.args.x) c.in-Some.y c.in-Some-by_unsigned.z c.in-Some.ensures c.in-Some-by_unsigned.ensures c.in_default-by_signed.ensures

pub returns : goal.returns
returns c =
    subst (λ (t : Option Plain). Gives t c.by_constant.result)
    (sym (all_steps (view c.args.x) c.in-Some.y c.in-Some-by_unsigned.z c.in-Some-by_signed.w c.in-Some.ensures c.in-Some-by_unsigned.ensures c.in-Some-by_signed.ensures))
    c.by_constant.ensures
