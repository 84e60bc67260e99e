use Rattle.std.proofs.Common.{rules}
use Rattle.verifier.proofs.kind_rules.stays.Goals as goal

-- turned by access_of_one_byte
pub returns-in-Ptr : goal.returns-in-Ptr
returns-in-Ptr c = search rules
