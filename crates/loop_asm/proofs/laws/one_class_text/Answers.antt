use Rattle.loop_asm.proofs.Classes.{text_gives_back, slots_give_back, one_text}
use Rattle.loop_asm.proofs.laws.one_class_text.Goals as goal

pub returns-clause-alone : goal.returns-clause-alone
returns-clause-alone c = text_gives_back

pub returns-clause-with_slots : goal.returns-clause-with_slots
returns-clause-with_slots c = slots_give_back

pub returns-clause-one : goal.returns-clause-one
returns-clause-one c = one_text
