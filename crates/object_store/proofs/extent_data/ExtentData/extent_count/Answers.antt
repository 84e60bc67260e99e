use Rattle.std.proofs.Common.{length, ap, arith}
use Rattle.object_store.proofs.Packs.{enough, few}
use Rattle.object_store.proofs.extent_data.ExtentData.extent_count.Goals as goal

pub returns-clause-enough : goal.returns-clause-enough
returns-clause-enough c = omega (arith, ap length c.parts.ensures.bytes, enough c.parts.result.now c.parts.ensures.packed)

pub returns-clause-few : goal.returns-clause-few
returns-clause-few c = omega (arith, ap length c.parts.ensures.bytes, few c.parts.result.now c.parts.ensures.packed)
