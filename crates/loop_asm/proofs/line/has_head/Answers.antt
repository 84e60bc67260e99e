use Rattle.std.proofs.Common.{rules, tests, ◌∙◌, ℕ, List, Bor}
use Rattle.std.proofs.lemmas.Iterator.{YieldsList-from_slice}
use Rattle.std.proofs.lemmas.Iterator.Search.{any_from_yields_List}
use Rattle.bpf_asm.proofs.BodyLemmas.{any_counts}
use Rattle.loop_asm.specs.Answers.{contents}
use Rattle.loop_asm.specs.Reading.{is_head}
use Rattle.loop_asm.proofs.Lines.{any_seen}
use Rattle.loop_asm.proofs.line.has_head.Goals as goal

pub returns : goal.returns
returns c =
    let texts = c.args.texts.now in
    let content = λ (t : Bor (List ℕ)). t.now in
    let test = λ (t : Bor (List ℕ)). is_head t.now in
    any_from_yields_List test _ _ c.any.result c.any.ensures.ran (YieldsList-from_slice texts cc) (λ x b q k. search (rules, tests)) ∙ any_seen is_head content texts ∙ any_counts is_head (contents texts)
