use Rattle.std.proofs.Common.{rules}
use Rattle.bpf_asm.proofs.body.draft_slots.Goals as goal

-- turned by label_late_after_wide
pub returns-in-Ok-Plain-clause-slots : goal.returns-in-Ok-Plain-clause-slots
returns-in-Ok-Plain-clause-slots c = search rules

-- turned by label_late_after_wide
pub returns-in-Ok-Plain-clause-few : goal.returns-in-Ok-Plain-clause-few
returns-in-Ok-Plain-clause-few c = search rules
