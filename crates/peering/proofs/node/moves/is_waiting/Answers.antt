use Rattle.std.proofs.Common.{rules}
use Rattle.peering.proofs.node.moves.is_waiting.Goals as goal

-- turned by repeated_install_resets_the_log
pub returns-in-Waiting : goal.returns-in-Waiting
returns-in-Waiting c = search rules
