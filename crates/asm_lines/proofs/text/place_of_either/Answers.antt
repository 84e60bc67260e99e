use Rattle.std.proofs.Common.{rules, tests, ◌∙◌, ◌==◌, ◌||◌, ℕ}
use Rattle.std.proofs.lemmas.Iterator.{YieldsList-from_slice}
use Rattle.std.proofs.lemmas.Iterator.Search.{position_from_yields_List}
use Rattle.asm_lines.proofs.TextLemmas.{place_found}
use Rattle.asm_lines.proofs.text.place_of_either.Goals as goal

pub returns-clause-place : goal.returns-clause-place
returns-clause-place c =
    let test = λ (x : ℕ). x == c.args.one || x == c.args.other in
    c.unwrap_or.ensures ∙ place_found test c.args.text.now c.position.result (position_from_yields_List test _ _ c.position.result c.position.ensures.ran (YieldsList-from_slice c.args.text.now cc) (λ x b q k. search (rules, tests)))
