use Rattle.std.proofs.Common.{ap, ◌∙◌, sym, subst, arith, length}
use Rattle.bpf_decode.specs.Instruction.{slots}
use Rattle.verifier.specs.inner.Pass.{IsSpaced}
use Rattle.verifier.proofs.Accepts.{slots_small, slots_spaced}
use Rattle.verifier.proofs.refused.refused_slot.Goals as goal

pub first_refused-requires-clause-small : goal.first_refused-requires-clause-small
first_refused-requires-clause-small c =
    let code = c.deref.ensures.value ∙ c.in_ok-code.ensures ∙ ap slots c.instructions.ensures in
    omega (arith, ap length code, slots_small c.args.method.now c.requires)

pub first_refused-requires-clause-spaced : goal.first_refused-requires-clause-spaced
first_refused-requires-clause-spaced c =
    subst IsSpaced (sym (c.deref.ensures.value ∙ c.in_ok-code.ensures ∙ ap slots c.instructions.ensures)) (slots_spaced c.args.method.now.instructions)
