use Rattle.std.proofs.Common.{arith}
use Rattle.std.proofs.lemmas.Grind.{common_steps}
use Rattle.bpf_decode.proofs.image.method_at.Goals as goal

pub name_text-requires : goal.name_text-requires
name_text-requires c = grind (arith, common_steps)

pub returns-clause-name : goal.returns-clause-name
returns-clause-name c = grind (arith, common_steps)
