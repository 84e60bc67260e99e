use Rattle.std.proofs.Common.{arith, sym, ◌∙◌}
use Rattle.object_store.proofs.Bytes.{each_below, some_bytes}
use Rattle.object_store.proofs.calls.check_name.Goals as goal

pub returns-clause-name : goal.returns-clause-name
returns-clause-name c = (some_bytes c.args.name.now (sym c.is_empty.ensures ∙ c.if-is_empty.false), omega (arith, c.if-name-gt-NAME_LIMIT.false), each_below c.args.name.now (λ i. omega (arith, c.type_inv.name i)))
