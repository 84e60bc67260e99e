use Rattle.std.proofs.Common.{FitsSigned, Ok, ap, rules, sym, w16, ◌∙◌}
use Rattle.std.proofs.lemmas.Int.{to_z-of_z}
use Rattle.bpf_decode.specs.declared.insn.Insn.TheVariants as insns
use Rattle.bpf_asm.specs.Bodies.{finished}
use Rattle.asm_lines.specs.Operands.{filled}
use Rattle.bpf_asm.proofs.body.finished.Goals as goal

pub returns-in-Ok : goal.returns-in-Ok
returns-in-Ok c =
    let b = c.in-Branch in
    let fits : FitsSigned w16 c.in-Ok.offset = search rules in
    ap (λ z. Ok (insns.Branch b.bits b.comparison b.dst b.source z)) (to_z-of_z w16 c.in-Ok.offset fits)
    ∙ sym (ap (finished c.args.labels.now c.args.slot) b.is
    ∙ ap (filled (insns.Branch b.bits b.comparison b.dst b.source)) (sym c.near-in-Branch.ensures ∙ c.in-Ok.is))

pub returns-in-Err : goal.returns-in-Err
returns-in-Err c =
    let b = c.in-Branch in
    sym (ap (finished c.args.labels.now c.args.slot) b.is
    ∙ ap (filled (insns.Branch b.bits b.comparison b.dst b.source)) (sym c.near-in-Branch.ensures ∙ c.in-Err.is))
