use Rattle.std.proofs.Common.{◌≡◌, ℕ, ◌≤◌, length, subst}
use Rattle.loop_machine.specs.Runs.{IsSafeByBudget}
use Rattle.loop_calls.specs.ByBudget.{AnswersOnByBudget, NeedsNoMoreByBudget, StopsByBudget}
use Rattle.class_loops.specs.Parts.{StopsOnPartByBudget}
use Rattle.class_loops.proofs.Methods.{lacking_by_budget, looped_stops, some_loops}
use Rattle.class_loops.proofs.part_call.call_looped_part.Goals as goal

pub returns-in-Ok-call_by_budget-clause-ok : goal.returns-in-Ok-call_by_budget-clause-ok
returns-in-Ok-call_by_budget-clause-ok c = λ l some.
    let m = c.args.method.now in
    let asked = c.args.request in
    let begun = c.in-Ok.ensures.begun in
    let found = begun.staged in
    let is = c.budgeted-taken.ensures.runs in
    let same : c.budgeted-taken.result.budget ≡ l.budget = c.budgeted-taken.ensures.declared l some in
    let answer = c.in-Ok-call_by_budget.answer in
    record {
      short = subst (λ (n : ℕ). length asked.input.now ≤ n) c.in_cap.ensures begun.short;
      client = begun.client;
      limited = begun.limited;
      plain = found.plain;
      spelled = found.spelled;
      safe = subst (λ (b : ℕ). IsSafeByBudget m b) same is.safe;
      answers = λ o agrees formed. subst (λ (b : ℕ). AnswersOnByBudget asked.limits m b o asked.caller asked.input.now answer) same
          (c.in-Ok-call_by_budget.ensures.ok m is o (record { stands = (found.says.agree o).0 agrees; formed = formed }));
      known = c.in-Ok.known;
      says = found.says;
      learns = subst (λ (b : ℕ). NeedsNoMoreByBudget asked.limits m b c.in-Ok.known asked.caller asked.input.now answer) same (c.in-Ok-call_by_budget.ensures.learns m is);
    }

pub returns-in-Err-call_by_budget-clause-refused : goal.returns-in-Err-call_by_budget-clause-refused
returns-in-Err-call_by_budget-clause-refused c = λ class named.
    let m = c.args.method.now in
    let asked = c.args.request in
    let begun = c.in-Ok.ensures.begun in
    let found = begun.staged in
    let loops = some_loops m c.args.run.now m.loops c.requires.runs in
    let why = c.in-Err-call_by_budget.stop in
    let stopped = subst (λ (b : ℕ). StopsByBudget asked.limits m b c.in-Ok.known asked.caller asked.input.now why) (c.budgeted-taken.ensures.declared loops.0 loops.1) (c.in-Err-call_by_budget.ensures.stopped m c.budgeted-taken.ensures.runs) in
    let stops : StopsOnPartByBudget m loops.0.budget asked.part.now asked.caller asked.limits asked.input.now why = record {
      short = subst (λ (n : ℕ). length asked.input.now ≤ n) c.in_cap.ensures begun.short;
      client = begun.client;
      limited = begun.limited;
      plain = found.plain;
      spelled = found.spelled;
      known = c.in-Ok.known;
      says = found.says;
      stops = stopped;
      lacking = lacking_by_budget c.needs_are_lacking.ensures found.plain c.in-Ok.known found.says.knows asked.limits m loops.0.budget asked.caller asked.input.now why stopped;
    } in
    rw (c.stop_refusal.ensures) (looped_stops class asked.method.now asked.part.now asked.caller asked.limits asked.input.now m named loops.0 loops.1 why stops)
