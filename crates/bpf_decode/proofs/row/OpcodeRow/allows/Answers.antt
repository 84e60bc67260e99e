use Rattle.std.proofs.Common.{rules}
use Rattle.bpf_decode.proofs.row.OpcodeRow.allows.Goals as goal

-- turned by nonzero_field_reads_as_zero
pub returns-then-src-eq0-3 : goal.returns-then-src-eq0-3
returns-then-src-eq0-3 c = search rules
