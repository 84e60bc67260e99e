use Rattle.std.proofs.Common.{◌≡◌, None, ap, ◌∙◌, sym, subst, arith, length}
use Rattle.std.specs.Prelude.{is_some}
use Rattle.bpf_decode.specs.Instruction.{slots}
use Rattle.bpf_machine.specs.Safe.{caps_of}
use Rattle.bpf_machine.specs.Typed.{fetch}
use Rattle.loop_machine.specs.Typed.{NeverStuck}
use Rattle.loop_tables.specs.Table.{loop_table}
use Rattle.loop_tables.specs.Verdict.{loop_verdict}
use Rattle.loop_tables.specs.Safety.{AreCodeFrames}
use Rattle.verifier.specs.inner.Pass.{IsSpaced}
use Rattle.verifier.specs.Rules.{begins_at}
use Rattle.verifier.proofs.Accepts.{first_begins, slots_small, slots_spaced}
use Rattle.verifier.proofs.Runs.{fit_at}
use Rattle.loop_verdict.proofs.method.judge.Goals as goal

pub first_refusal_by_heads-requires-clause-small : goal.first_refusal_by_heads-requires-clause-small
first_refusal_by_heads-requires-clause-small c = omega (arith, ap length c.requires.code, slots_small c.args.method.now c.requires.method)

pub first_refusal_by_heads-requires-clause-spaced : goal.first_refusal_by_heads-requires-clause-spaced
first_refusal_by_heads-requires-clause-spaced c = subst IsSpaced (sym c.requires.code) (slots_spaced c.args.method.now.instructions)

pub first_refusal_by_heads-requires-clause-begins : goal.first_refusal_by_heads-requires-clause-begins
first_refusal_by_heads-requires-clause-begins c =
    let method = c.requires.method in
    let first = first_begins c.args.method.now.instructions method.some_slot in
    ap (λ code. begins_at code 0) c.requires.code ∙ ap is_some first.1

pub first_refusal_by_heads-requires-clause-fit : goal.first_refusal_by_heads-requires-clause-fit
first_refusal_by_heads-requires-clause-fit c = λ p i at.
    let method = c.requires.method in
    fit_at c.args.method.now.instructions p i method.fit (sym (ap (λ code. fetch code p) c.requires.code) ∙ at)

pub returns-in-None-clause-verified : goal.returns-in-None-clause-verified
returns-in-None-clause-verified c =
    let m = c.args.method.now in
    let l = c.args.loops.now in
    let method = c.requires.method in
    let heads = c.heads.ensures.heads in
    let code = c.requires.code in
    let clear : loop_verdict (caps_of m) l.heads (slots m.instructions) ≡ None =
    ap (λ caps. loop_verdict caps l.heads (slots m.instructions)) (sym c.of.ensures)
    ∙ ap (λ hs. loop_verdict c.of.result hs (slots m.instructions)) (sym heads)
    ∙ ap (loop_verdict c.of.result c.heads.result.now) (sym code) ∙ sym c.in_ok-slot.ensures.verdict ∙ c.in-None.is in
    let frames : AreCodeFrames (loop_table (caps_of m) l.heads (slots m.instructions)) =
    subst (λ caps. AreCodeFrames (loop_table caps l.heads (slots m.instructions))) c.of.ensures
    (subst (λ hs. AreCodeFrames (loop_table c.of.result hs (slots m.instructions))) heads
    (subst (λ code. AreCodeFrames (loop_table c.of.result c.heads.result.now code)) code (c.in_ok-slot.ensures.sound c.in-None.is))) in
    let never : NeverStuck m l.budget = c.accepted_loops.ensures m method l frames clear in
    record { method = method; never_stuck = never; safe = c.budgets.ensures m method.fit l.budget never }
