use Rattle.std.proofs.Common.{rules, tests, map, ◌∙◌, ℕ, List, Bor}
use Rattle.std.proofs.lemmas.Iterator.{YieldsList-from_slice}
use Rattle.std.proofs.lemmas.Iterator.Search.{any_from_yields_List}
use Rattle.bpf_asm.specs.Bodies.{is_instruction}
use Rattle.bpf_asm.proofs.BodyLemmas.{any_counts}
use Rattle.loop_asm.specs.Answers.{contents}
use Rattle.loop_asm.specs.Reading.{other}
use Rattle.loop_asm.proofs.Lines.{any_seen}
use Rattle.loop_asm.proofs.line.instruction_follows.Goals as goal

pub returns : goal.returns
returns c =
    let texts = c.args.texts.now in
    let content = λ (t : Bor (List ℕ)). t.now in
    let says = λ (t : List ℕ). is_instruction (other t) in
    let test = λ (t : Bor (List ℕ)). is_instruction (other t.now) in
    any_from_yields_List test _ _ c.any.result c.any.ensures.ran (YieldsList-from_slice texts cc) (λ x b q k. search (rules, tests)) ∙ any_seen says content texts ∙ any_seen is_instruction other (contents texts) ∙ any_counts is_instruction (map other (contents texts))
