use Rattle.bpf_asm.proofs.BodyTexts.{texts_give_back}
use Rattle.bpf_asm.proofs.GrammarLemmas.{texts_in_grammar}
use Rattle.bpf_asm.proofs.laws.one_text.Goals as goal

pub returns : goal.returns
returns c = (texts_give_back, texts_in_grammar)
