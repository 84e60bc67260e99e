use Rattle.std.proofs.Common.{◌+◌, ◌≤◌, ap, refl, sym, subst, ◌∙◌, arith, length, map, rules, List, Option}
use Rattle.std.specs.Prelude.{Result, Ok, Err, IfErr, IfOk}
use Rattle.std.proofs.lemmas.List.{length-map}
use Rattle.std.proofs.lemmas.Result.{IfOk-weaker}
use Rattle.bpf_decode.specs.declared.insn.Insn.{Insn}
use Rattle.bpf_ops.specs.Op.{opened, PairsHold}
use Rattle.bpf_machine.specs.declared.caps.Caps.{Caps}
use Rattle.part_calls.specs.declared.run.PartRun.{PartRun}
use Rattle.interp.specs.inner.Run.{first_registers}
use Rattle.interp.proofs.Answered.{length-slots}
use Rattle.part_calls.specs.inner.PartRun.{IsOpening}
use Rattle.loop_calls.specs.ByBudget.{AnswersByBudget, NeedsNoMoreByBudget}
use Rattle.loop_calls.specs.inner.LoopRun.{LoopEnds, PaidIsNeverStuck, WhyLoopStopped}
use Rattle.loop_calls.proofs.LoopAnswered.{answers_on, knows_on, never_stuck_as, stops_by_budget}
use Rattle.loop_calls.proofs.room.LoopRoom.call_by_budget.Goals as goal

pub execute_by_budget-requires-clause-opens : goal.execute_by_budget-requires-clause-opens
execute_by_budget-requires-clause-opens c =
    subst (λ (r : PartRun). IsOpening r c.args.input.now c.deref_mut.result.now) (sym c.new-run.ensures)
    (record {
      registers = refl;
      out_len = refl;
      list = c.requires.list;
      short = c.requires.short;
      memory = search rules;
    })

pub execute_by_budget-requires-clause-slots : goal.execute_by_budget-requires-clause-slots
execute_by_budget-requires-clause-slots c =
    let m = c.requires.method.0 in
    let b = c.requires.method.1 in
    let n = sym (length-map c.args.method.now.ops.now opened) ∙ ap length b.ops ∙ length-slots m.instructions in
    let few = b.method.slots in
    omega (arith, n, few)

pub execute_by_budget-requires-clause-pairs : goal.execute_by_budget-requires-clause-pairs
execute_by_budget-requires-clause-pairs c =
    let b = c.requires.method.1 in
    subst (λ (l : List (Option Insn)). PairsHold l c.args.method.now.ops.now) (sym b.ops) b.pairs

pub execute_by_budget-requires-clause-safe : goal.execute_by_budget-requires-clause-safe
execute_by_budget-requires-clause-safe c =
    let m = c.requires.method.0 in
    let b = c.requires.method.1 in
    let short = subst (λ (k : Caps). length c.args.input.now ≤ k.in_cap) b.caps c.requires.short in
    subst (λ (r : PartRun). PaidIsNeverStuck r (map opened c.args.method.now.ops.now) c.args.method.now.budget c.args.input.now) (sym c.new-run.ensures)
    (λ o may. never_stuck_as c.decoded.ensures.begins c.decoded.ensures.elsewhere c.layouts.ensures c.one_end.ensures.ends m b.method c.args.method.now.budget b.safe c.args.limits c.requires.limits c.args.caller (search rules) c.args.input.now short c.are_bytes.ensures o may.formed c.args.method.now.caps (map opened c.args.method.now.ops.now) b.caps b.ops)

pub returns-clause-ok : goal.returns-clause-ok
returns-clause-ok c = λ m b.
    let short = subst (λ (k : Caps). length c.args.input.now ≤ k.in_cap) b.caps c.requires.short in
    let code = map opened c.args.method.now.ops.now in
    let ends = subst (λ (r : PartRun). IfOk c.execute_by_budget.result (LoopEnds r code c.args.method.now.budget c.args.input.now)) c.new-run.ensures c.execute_by_budget.ensures.ok in
    IfOk-weaker c.execute_by_budget.result _ (AnswersByBudget c.args.limits m c.args.method.now.budget c.args.part c.args.caller c.args.input.now)
    (λ a h. λ o may. answers_on c.decoded.ensures.begins c.decoded.ensures.elsewhere c.layouts.ensures c.one_end.ensures.ends m b.method c.args.method.now.budget b.safe c.args.limits c.requires.limits c.args.caller (search rules) c.args.input.now short c.are_bytes.ensures o may.formed c.args.method.now.caps code b.caps b.ops c.args.part a (h o may))
    ends

pub returns-clause-learns : goal.returns-clause-learns
returns-clause-learns c = λ m b.
    let short = subst (λ (k : Caps). length c.args.input.now ≤ k.in_cap) b.caps c.requires.short in
    let code = map opened c.args.method.now.ops.now in
    let ends = subst (λ (r : PartRun). IfOk c.execute_by_budget.result (LoopEnds r code c.args.method.now.budget c.args.input.now)) c.new-run.ensures c.execute_by_budget.ensures.ok in
    IfOk-weaker c.execute_by_budget.result _ (NeedsNoMoreByBudget c.args.limits m c.args.method.now.budget c.args.part c.args.caller c.args.input.now)
    (λ a h. λ o may. knows_on c.decoded.ensures.begins c.decoded.ensures.elsewhere c.layouts.ensures c.one_end.ensures.ends m b.method c.args.method.now.budget b.safe c.args.limits c.requires.limits c.args.caller (search rules) c.args.input.now short c.are_bytes.ensures o may.formed c.args.method.now.caps code b.caps b.ops c.args.part a (h o may))
    ends

weaker : {A E : Type 0} (r : Result A E) (P Q : E → Type 0) → ((e : E) → P e → Q e) → IfErr r P → IfErr r Q
weaker (Ok a) P Q f h = tt
weaker (Err e) P Q f h = f e h

pub returns-clause-stopped : goal.returns-clause-stopped
returns-clause-stopped c = λ m b.
    let code = map opened c.args.method.now.ops.now in
    let stopped = subst (λ (r : PartRun). IfErr c.execute_by_budget.result (WhyLoopStopped r code c.args.method.now.budget c.args.input.now)) c.new-run.ensures c.execute_by_budget.ensures.stopped in
    let made : PartRun = record {
      caps = c.args.method.now.caps;
      limits = c.args.limits;
      registers = first_registers (length c.args.input.now) c.args.method.now.caps.in_cap (c.args.method.now.caps.in_cap + c.args.method.now.caps.out_cap + 512);
      part = c.args.part;
      out_len = 0;
      caller = c.args.caller;
    } in
    weaker c.execute_by_budget.result (WhyLoopStopped made code c.args.method.now.budget c.args.input.now) _
    (λ why h. stops_by_budget c.decoded.ensures.begins c.decoded.ensures.elsewhere m b.method made code c.args.method.now.budget c.args.input.now b.caps b.ops c.requires.some why h)
    stopped
