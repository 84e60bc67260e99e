use Rattle.std.proofs.Common.{arith}
use Rattle.bpf_decode.proofs.CodeLaws.{read_found, read_only}
use Rattle.bpf_decode.proofs.code.decode.Goals as goal

pub returns-clause-found : goal.returns-clause-found
returns-clause-found c = read_found c.args.bytes.now c.read.result (λ i. omega (arith, c.type_inv.bytes i)) c.read.ensures

pub returns-clause-only : goal.returns-clause-only
returns-clause-only c = λ is code. read_only c.args.bytes.now is c.read.result code c.read.ensures
