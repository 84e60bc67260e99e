use Rattle.std.proofs.Common.{arith}
use Rattle.std.proofs.lemmas.Grind.{common_steps}
use Rattle.bpf_decode.proofs.image.put_method.Goals as goal

pub overflow_cast-slots : goal.overflow_cast-slots
overflow_cast-slots c = grind (arith, common_steps)

pub returns : goal.returns
returns c = grind (arith, common_steps)
