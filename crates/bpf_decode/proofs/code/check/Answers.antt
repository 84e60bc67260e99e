use Rattle.std.proofs.Common.{◌∙◌, arith}
use Rattle.bpf_decode.proofs.CodeLaws.{count_found, count_only}
use Rattle.bpf_decode.proofs.code.check.Goals as goal

pub returns-clause-found : goal.returns-clause-found
returns-clause-found c = count_found c.args.bytes.now c.count.result (λ i. omega (arith, c.type_inv.bytes i)) c.count.ensures

pub returns-clause-only : goal.returns-clause-only
returns-clause-only c = λ is code. c.count.ensures ∙ count_only c.args.bytes.now is code
