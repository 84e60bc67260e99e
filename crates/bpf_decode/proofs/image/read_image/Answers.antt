use Rattle.std.proofs.Common.{arith}
use Rattle.bpf_decode.proofs.ImageLaws.{read_found, read_only}
use Rattle.bpf_decode.proofs.image.read_image.Goals as goal

pub returns-clause-found : goal.returns-clause-found
returns-clause-found c = read_found c.args.bytes.now c.class.result (λ i. omega (arith, c.type_inv.bytes i)) c.class.ensures.read

pub returns-clause-only : goal.returns-clause-only
returns-clause-only c = λ ms image. read_only c.args.bytes.now ms c.class.result image c.class.ensures.read
