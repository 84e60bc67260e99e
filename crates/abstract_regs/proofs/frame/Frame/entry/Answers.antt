use Rattle.std.proofs.Common.{rules}
use Rattle.abstract_regs.proofs.frame.Frame.entry.Goals as goal

-- turned by length_of_any_input
pub returns : goal.returns
returns c = search rules
