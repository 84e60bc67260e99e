use Rattle.bpf_decode.proofs.Spelled.{row_found}
use Rattle.bpf_decode.proofs.Rows.{opcode_of}
use Rattle.bpf_decode.proofs.laws.every_row.Goals as goal

pub returns-clause-found : goal.returns-clause-found
returns-clause-found c = λ r. row_found r

pub returns-clause-only : goal.returns-clause-only
returns-clause-only c = λ n r e. opcode_of n r e
