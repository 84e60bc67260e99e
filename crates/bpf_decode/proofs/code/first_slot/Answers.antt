use Rattle.std.proofs.Common.{rules, arith}
use Rattle.std.proofs.lemmas.Grind.{common_steps}
use Rattle.bpf_decode.proofs.code.first_slot.Goals as goal

-- turned by writes_local_call
pub returns-in-Call-clause-spelled : goal.returns-in-Call-clause-spelled
returns-in-Call-clause-spelled c = search rules

pub returns-in-Branch-clause-fit : goal.returns-in-Branch-clause-fit
returns-in-Branch-clause-fit c = grind (arith, common_steps)

pub returns-in-Store-clause-fit : goal.returns-in-Store-clause-fit
returns-in-Store-clause-fit c = grind (arith, common_steps)
