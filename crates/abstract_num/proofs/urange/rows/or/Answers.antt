use Rattle.std.proofs.Common.{arith}
use Rattle.abstract_num.specs.proved.UnsignedRows.{top_bits}
use Rattle.abstract_num.proofs.urange.rows.or.Goals as goal

pub span-requires : goal.span-requires
span-requires c = omega (arith, top_bits c.max-2.result (omega arith))
