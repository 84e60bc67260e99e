use Rattle.std.proofs.Common.{rules, arith}
use Rattle.std.proofs.lemmas.Grind.{common_steps}
use Rattle.builtin_classes.proofs.load.load.Goals as goal

-- turned by want_of_memory_is_a_wrong_text
pub returns-in-NoMemory-clause-fails : goal.returns-in-NoMemory-clause-fails
returns-in-NoMemory-clause-fails c = search rules

pub returns : goal.returns
returns c = grind (arith, common_steps)

pub returns-in-Ok-verify-clause-class : goal.returns-in-Ok-verify-clause-class
returns-in-Ok-verify-clause-class c = grind (arith, common_steps)
