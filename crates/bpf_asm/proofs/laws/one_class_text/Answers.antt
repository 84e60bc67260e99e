use Rattle.bpf_asm.proofs.ClassTexts.{class_texts_give_back}
use Rattle.bpf_asm.proofs.ClassGrammar.{class_texts_in_grammar}
use Rattle.bpf_asm.proofs.laws.one_class_text.Goals as goal

pub returns : goal.returns
returns c = (class_texts_give_back, class_texts_in_grammar)
