use Rattle.std.proofs.Common.{ap, sym, ◌∙◌, is_some, take, arith}
use Rattle.bpf_asm.specs.Bodies.{slot_of_label}
use Rattle.bpf_asm.proofs.LabelLemmas.{is_above, place_above}
use Rattle.bpf_asm.proofs.labels.Labels.stands_above.Goals as goal

pub returns-in-Some : goal.returns-in-Some
returns-in-Some c =
    let name = c.args.name.now in
    let line = c.args.line in
    ap (λ o. is_above o line) (c.in-Some.ensures.value ∙ c.self.invariant name) ∙ sym (place_above name 0 0 c.self.inside.lines.now line line (omega arith)) ∙ ap (λ ss. is_some (slot_of_label name 0 (take line ss))) c.self.view_is

pub returns-in-None : goal.returns-in-None
returns-in-None c =
    let name = c.args.name.now in
    let line = c.args.line in
    ap (λ o. is_above o line) (c.in-None.ensures.value ∙ c.self.invariant name) ∙ sym (place_above name 0 0 c.self.inside.lines.now line line (omega arith)) ∙ ap (λ ss. is_some (slot_of_label name 0 (take line ss))) c.self.view_is
