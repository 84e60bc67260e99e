use Rattle.std.proofs.Common.{arith}
use Rattle.std.proofs.lemmas.Grind.{common_steps}
use Rattle.bpf_decode.proofs.image.put_methods.Goals as goal

pub put_method-requires : goal.put_method-requires
put_method-requires c = grind (arith, common_steps)

pub returns : goal.returns
returns c = grind (arith, common_steps)

pub loop-method-preserved : goal.loop-method-preserved
loop-method-preserved c = grind (arith, common_steps)
