use Rattle.std.proofs.Common.{rules, tests, ◌∙◌}
use Rattle.bpf_asm.specs.Bodies.{is_instruction}
use Rattle.std.proofs.lemmas.Iterator.{YieldsList-from_slice}
use Rattle.std.proofs.lemmas.Iterator.Search.{any_from_yields_List}
use Rattle.bpf_asm.proofs.BodyLemmas.{any_counts}
use Rattle.bpf_asm.proofs.body.has_instruction.Goals as goal

pub returns : goal.returns
returns c =
    let test = is_instruction in
    any_from_yields_List test _ _ c.any.result c.any.ensures.ran (YieldsList-from_slice c.args.lines.now cc) (λ x b q k. search (rules, tests)) ∙ any_counts test c.args.lines.now
