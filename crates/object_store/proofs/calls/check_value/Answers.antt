use Rattle.std.proofs.Common.{arith}
use Rattle.object_store.proofs.Bytes.{each_below}
use Rattle.object_store.proofs.calls.check_value.Goals as goal

pub returns-clause-value : goal.returns-clause-value
returns-clause-value c = (omega (arith, c.if-value-gt-VALUE_LIMIT.false), each_below c.args.value.now (λ i. omega (arith, c.type_inv.value i)))
