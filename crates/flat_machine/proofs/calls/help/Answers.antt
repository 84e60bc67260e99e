use Rattle.std.proofs.Common.{◌≡◌, Some, true, ap, sym, subst, ◌∙◌, arith}
use Rattle.std.proofs.lemmas.Grind.{common_steps}
use Rattle.helpers.specs.Table.{helper_of}
use Rattle.flat_machine.specs.StateView.{caps_in, layout_in, flat_state}
use Rattle.flat_machine.specs.inner.FlatState.{Answers, may_call, helped}
use Rattle.flat_machine.proofs.Table.{help_is}
use Rattle.flat_machine.proofs.calls.help.Goals as goal

pub returns-in-None-2-clause-helped : goal.returns-in-None-2-clause-helped
returns-in-None-2-clause-helped c =
    let caps = caps_in c.args.s.now in
    let lay = layout_in c.args.s.now in
    let s = flat_state c.args.s.now in
    let h = c.in-Some.helper in
    let leave : may_call caps c.args.id ≡ true = sym c.may_call.ensures ∙ c.if-not-may_call.false in
    let named : helper_of c.args.id ≡ Some h = sym c.of.ensures ∙ c.in-Some.is in
    help_is caps lay s c.args.id h leave named ∙ subst (λ o. Answers o (flat_state c.help_by.new.s) (helped caps lay h s)) c.in-None-2.is c.in_ok-help_by-in-Some.ensures.helped

pub returns-in-Some-2-clause-helped : goal.returns-in-Some-2-clause-helped
returns-in-Some-2-clause-helped c =
    let caps = caps_in c.args.s.now in
    let lay = layout_in c.args.s.now in
    let s = flat_state c.args.s.now in
    let h = c.in-Some.helper in
    let leave : may_call caps c.args.id ≡ true = sym c.may_call.ensures ∙ c.if-not-may_call.false in
    let named : helper_of c.args.id ≡ Some h = sym c.of.ensures ∙ c.in-Some.is in
    help_is caps lay s c.args.id h leave named ∙ (subst (λ o. Answers o (flat_state c.help_by.new.s) (helped caps lay h s)) c.in-Some-2.is c.in_ok-help_by-in-Some.ensures.helped ∙ ap (λ t. Some t) (sym c.put_answer.ensures.state))

pub returns-then-not-may_call-clause-helped : goal.returns-then-not-may_call-clause-helped
returns-then-not-may_call-clause-helped c = grind (arith, common_steps)

pub returns-in-None-clause-helped : goal.returns-in-None-clause-helped
returns-in-None-clause-helped c = grind (arith, common_steps)
