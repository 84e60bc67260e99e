use Rattle.std.proofs.Common.{rules}
use Rattle.bpf_decode.proofs.arithmetic.taken.Goals as goal

-- turned by jump_32_compares_64_bits
pub returns-in-Bits32 : goal.returns-in-Bits32
returns-in-Bits32 c = search rules
