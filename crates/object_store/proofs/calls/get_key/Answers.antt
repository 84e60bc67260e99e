use Rattle.std.proofs.Common.{arith}
use Rattle.std.proofs.lemmas.Grind.{common_steps}
use Rattle.object_store.proofs.calls.get_key.Goals as goal

pub returns-in_err-named : goal.returns-in_err-named
returns-in_err-named c = grind (arith, common_steps)
