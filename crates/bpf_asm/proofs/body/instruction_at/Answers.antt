use Rattle.std.proofs.Common.{arith}
use Rattle.std.proofs.lemmas.Grind.{common_steps}
use Rattle.bpf_asm.proofs.body.instruction_at.Goals as goal

-- turned by label_before_slots
pub returns-in-Err-finished : goal.returns-in-Err-finished
returns-in-Err-finished c = grind (arith, common_steps)

pub returns-then-slot-draft_slots-gt-SLOT_LIMIT : goal.returns-then-slot-draft_slots-gt-SLOT_LIMIT
returns-then-slot-draft_slots-gt-SLOT_LIMIT c = grind (arith, common_steps)
