use Rattle.std.proofs.Common.{ap, ◌∙◌}
use Rattle.std.specs.Option.{option_map}
use Rattle.bpf_asm.specs.Bodies.{slot_of_label}
use Rattle.bpf_asm.proofs.LabelLemmas.{place_slot}
use Rattle.bpf_asm.proofs.labels.Labels.slot.Goals as goal

pub returns-in-Some : goal.returns-in-Some
returns-in-Some c =
    let name = c.args.name.now in
    ap (option_map (λ p. p.0)) (c.in-Some.ensures.value ∙ c.self.invariant name) ∙ place_slot name 0 0 c.self.inside.lines.now ∙ ap (slot_of_label name 0) c.self.view_is

pub returns-in-None : goal.returns-in-None
returns-in-None c =
    let name = c.args.name.now in
    ap (option_map (λ p. p.0)) (c.in-None.ensures.value ∙ c.self.invariant name) ∙ place_slot name 0 0 c.self.inside.lines.now ∙ ap (slot_of_label name 0) c.self.view_is
