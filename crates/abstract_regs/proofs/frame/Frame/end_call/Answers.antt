use Rattle.std.proofs.Common.{arith}
use Rattle.std.proofs.lemmas.Grind.{common_steps}
use Rattle.abstract_regs.proofs.frame.Frame.end_call.Goals as goal

-- turned by registers_kept_after_a_helper
pub returns : goal.returns
returns c = grind (arith, common_steps)
