use Rattle.std.proofs.Common.{◌≡◌, ℕ, ◌≤◌, ap, length, subst}
use Rattle.class_calls.specs.Parts.{RefusesToBeginPart, StopsOnPart}
use Rattle.class_calls.proofs.Begun.{not_begun_on_part}
use Rattle.class_calls.proofs.Counted.{refused_by}
use Rattle.class_calls.proofs.Lacking.{lacking}
use Rattle.class_calls.proofs.part_call.call_method_part.Goals as goal

pub returns-in-Ok-call_method-clause-ok : goal.returns-in-Ok-call_method-clause-ok
returns-in-Ok-call_method-clause-ok c = λ class named.
    let begun = c.in-Ok.ensures.begun in
    let found = begun.staged in
    record {
      method = c.args.method.now;
      named = named;
      short = subst (λ (n : ℕ). length c.args.request.input.now ≤ n) (ap (λ k. k.in_cap) c.caps.ensures) begun.short;
      client = begun.client;
      limited = begun.limited;
      plain = found.plain;
      spelled = found.spelled;
      verified = c.ops.ensures.verified;
      answers = λ o agrees formed. c.in-Ok-call_method.ensures.ok o (record { stands = (found.says.agree o).0 agrees; formed = formed });
      known = c.in-Ok.known;
      says = found.says;
      learns = c.in-Ok-call_method.ensures.learns;
    }

pub returns-in-Err-call_method-clause-refused :
    goal.returns-in-Err-call_method-clause-refused
returns-in-Err-call_method-clause-refused c = λ class named.
    let asked = c.args.request in
    let m = c.args.method.now in
    let begun = c.in-Ok.ensures.begun in
    let found = begun.staged in
    let stops : StopsOnPart class asked.method.now asked.part.now asked.caller asked.limits asked.input.now c.in-Err-call_method.stop = record {
      method = m;
      named = named;
      short = subst (λ (n : ℕ). length asked.input.now ≤ n) (ap (λ k. k.in_cap) c.caps.ensures) begun.short;
      client = begun.client;
      limited = begun.limited;
      plain = found.plain;
      spelled = found.spelled;
      known = c.in-Ok.known;
      says = found.says;
      stops = c.in-Err-call_method.ensures.stopped;
      lacking = lacking found.plain c.in-Ok.known found.says.knows asked.limits m asked.caller asked.input.now c.in-Err-call_method.stop c.in-Err-call_method.ensures.stopped;
    } in
    rw (c.stop_refusal.ensures) (refused_by class asked.method.now asked.part.now asked.caller asked.limits asked.input.now c.in-Err-call_method.stop stops)

pub returns-in-Err-clause-refused : goal.returns-in-Err-clause-refused
returns-in-Err-clause-refused c = λ class named.
    let asked = c.args.request in
    let why = subst (λ (n : ℕ). RefusesToBeginPart n asked.part.now asked.caller asked.limits asked.input.now c.in-Err.error) (ap (λ k. k.in_cap) c.caps.ensures) c.in-Err.ensures.refused in
    not_begun_on_part class asked.method.now asked.part.now asked.caller asked.limits asked.input.now c.args.method.now named c.in-Err.error why
