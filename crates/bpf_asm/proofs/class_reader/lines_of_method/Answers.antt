use Rattle.std.proofs.Common.{rules, tests, ◌∙◌}
use Rattle.bpf_asm.specs.Classes.{is_directive}
use Rattle.std.proofs.lemmas.Iterator.{YieldsList-from_slice}
use Rattle.std.proofs.lemmas.Iterator.Search.{position_from_yields_List}
use Rattle.bpf_asm.proofs.TextLemmas.{place_found}
use Rattle.bpf_asm.proofs.class_reader.lines_of_method.Goals as goal

pub returns-clause-place : goal.returns-clause-place
returns-clause-place c =
    let test = is_directive in
    c.unwrap_or.ensures ∙ place_found test c.args.lines.now c.position.result (position_from_yields_List test _ _ c.position.result c.position.ensures.ran (YieldsList-from_slice c.args.lines.now cc) (λ x b q k. search (rules, tests)))
