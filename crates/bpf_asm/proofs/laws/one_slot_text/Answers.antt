use Rattle.bpf_asm.proofs.SlotTexts.{slot_texts_give_back, slot_texts_in_grammar}
use Rattle.bpf_asm.proofs.laws.one_slot_text.Goals as goal

pub returns : goal.returns
returns c = (slot_texts_give_back, slot_texts_in_grammar)
