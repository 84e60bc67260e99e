use Rattle.std.proofs.Common.{rules, tests, ◌∙◌, ℕ, List, Bor}
use Rattle.std.proofs.lemmas.Iterator.{YieldsList-from_slice}
use Rattle.std.proofs.lemmas.Iterator.Search.{position_from_yields_List}
use Rattle.bpf_asm.proofs.TextLemmas.{place_found}
use Rattle.loop_asm.specs.Reading.{is_method}
use Rattle.loop_asm.proofs.Lines.{place_seen}
use Rattle.loop_asm.proofs.line.lines_of_method.Goals as goal

pub returns-clause-place : goal.returns-clause-place
returns-clause-place c =
    let texts = c.args.texts.now in
    let content = λ (t : Bor (List ℕ)). t.now in
    let test = λ (t : Bor (List ℕ)). is_method t.now in
    c.unwrap_or.ensures ∙ place_found test texts c.position.result (position_from_yields_List test _ _ c.position.result c.position.ensures.ran (YieldsList-from_slice texts cc) (λ x b q k. search (rules, tests))) ∙ place_seen is_method content texts
