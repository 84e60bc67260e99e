use Rattle.std.proofs.Common.{rules}
use Rattle.abstract_regs.proofs.bounds.access_fits.Goals as goal

-- turned by access_size_forgotten
pub returns-then-first-size : goal.returns-then-first-size
returns-then-first-size c = search rules
