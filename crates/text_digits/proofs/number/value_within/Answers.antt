use Rattle.std.proofs.Common.{◌<◌, arith, rules}
use Rattle.std.proofs.lemmas.Grind.{common_steps}
use Rattle.std.specs.Str.Parse.{digits_value}
use Rattle.std.proofs.lemmas.Bool.Decides.{nat_tests}
use Rattle.text_digits.proofs.Values.{digits_over}
use Rattle.text_digits.proofs.number.value_within.Goals as goal

pub returns-then-next-from : goal.returns-then-next-from
returns-then-next-from c =
    let over : c.args.most < digits_value c.args.radix c.args.text.now =
    digits_over _ c.loop-byte.value c.loop-byte.byte-index _ _ c.requires.low (omega arith) c.loop-byte.invariant.same c.from.result c.from-in-loop-byte.result c.from-in-loop-byte-2.result (cc) (cc) (search rules) (omega arith) in
    grind (arith, nat_tests)

pub loop-byte-preserved : goal.loop-byte-preserved
loop-byte-preserved c = grind (arith, common_steps)
