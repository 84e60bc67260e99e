use Rattle.std.proofs.Common.{arith}
use Rattle.std.proofs.lemmas.Grind.{common_steps}
use Rattle.bpf_decode.proofs.code.insn_at.Goals as goal

pub slice_bounds-high_half-count : goal.slice_bounds-high_half-count
slice_bounds-high_half-count c = grind (arith, common_steps)

pub instruction-requires-clause-dst_is : goal.instruction-requires-clause-dst_is
instruction-requires-clause-dst_is c = grind (arith, common_steps)

pub slice_bounds-high_half-start : goal.slice_bounds-high_half-start
slice_bounds-high_half-start c = grind (arith, common_steps)
