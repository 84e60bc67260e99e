use Rattle.std.proofs.Common.{◌+◌, ◌≤◌, ap, refl, sym, subst, ◌∙◌, arith, length, map, rules}
use Rattle.std.specs.Prelude.{Result, Ok, Err, IfErr, IfOk}
use Rattle.std.proofs.lemmas.List.{length-map}
use Rattle.std.proofs.lemmas.Result.{IfOk-weaker}
use Rattle.bpf_ops.specs.Op.{opened}
use Rattle.bpf_machine.specs.declared.caps.Caps.{Caps}
use Rattle.part_calls.specs.declared.run.PartRun.{PartRun}
use Rattle.part_calls.specs.Parts.{AnswersPart, NeedsNoMore}
use Rattle.interp.specs.inner.Run.{first_registers}
use Rattle.part_calls.specs.inner.PartRun.{IsOpening, PartEnds, PartEndsSomehow, PartNeedsNoMore, WhyStopped}
use Rattle.interp.proofs.Answered.{length-slots}
use Rattle.part_calls.proofs.PartAnswered.{part_ends_somehow, answers_on, ends_knowing, stops_part}
use Rattle.part_calls.proofs.room.PartRoom.call_method.Goals as goal

pub execute_part-requires-clause-opens : goal.execute_part-requires-clause-opens
execute_part-requires-clause-opens c =
    subst (λ (r : PartRun). IsOpening r c.args.input.now c.deref_mut.result.now) (sym c.new-run.ensures)
    (record {
      registers = refl;
      out_len = refl;
      list = c.requires.list;
      short = subst (λ (k : Caps). length c.args.input.now ≤ k.in_cap) (sym c.caps-caps.ensures) c.requires.short;
      memory = search rules;
    })

pub execute_part-requires-clause-slots : goal.execute_part-requires-clause-slots
execute_part-requires-clause-slots c =
    let n = sym (length-map c.ops.result.now opened) ∙ ap length c.ops.ensures.ops ∙ length-slots c.args.method.now.instructions in
    let few = c.ops.ensures.verified.method.slots in
    omega (arith, n, few)

pub execute_part-requires-clause-ends : goal.execute_part-requires-clause-ends
execute_part-requires-clause-ends c =
    subst (λ (r : PartRun). PartEndsSomehow r (map opened c.ops.result.now) c.count.result c.args.input.now) (sym c.new-run.ensures)
    (λ o may. part_ends_somehow c.chains.ensures c.decoded.ensures.begins c.layouts.ensures c.simulation.ensures.simulates_within c.lists.ensures.within c.args.method.now c.ops.ensures.verified c.args.limits c.requires.limits c.args.caller (search rules) c.args.input.now c.requires.short c.are_bytes.ensures o may.formed c.caps-caps.result (map opened c.ops.result.now) c.count.result c.caps-caps.ensures c.ops.ensures.ops c.count.ensures)

pub returns-clause-ok : goal.returns-clause-ok
returns-clause-ok c =
    let run : PartRun = c.new-run.result in
    let ends = subst (λ (r : PartRun). IfOk c.execute_part.result (PartEnds r (map opened c.ops.result.now) c.count.result c.args.input.now)) c.new-run.ensures c.execute_part.ensures.ok in
    IfOk-weaker c.execute_part.result _ (AnswersPart c.args.limits c.args.method.now c.args.part c.args.caller c.args.input.now)
    (λ a h. λ o may. answers_on c.chains.ensures c.decoded.ensures.begins c.layouts.ensures c.simulation.ensures.simulates_within c.lists.ensures.within c.args.method.now c.ops.ensures.verified c.args.limits c.requires.limits c.args.caller (search rules) c.args.input.now c.requires.short c.are_bytes.ensures o may.formed c.caps-caps.result (map opened c.ops.result.now) c.count.result c.caps-caps.ensures c.ops.ensures.ops c.count.ensures a (h o may))
    ends

weaker : {A E : Type 0} (r : Result A E) (P Q : E → Type 0) → ((e : E) → P e → Q e) → IfErr r P → IfErr r Q
weaker (Ok a) P Q f h = tt
weaker (Err e) P Q f h = f e h

pub returns-clause-stopped : goal.returns-clause-stopped
returns-clause-stopped c =
    let stopped = subst (λ (r : PartRun). IfErr c.execute_part.result (WhyStopped r (map opened c.ops.result.now) c.args.input.now)) c.new-run.ensures c.execute_part.ensures.stopped in
    let made : PartRun = record {
      caps = c.caps-caps.result;
      limits = c.args.limits;
      registers = first_registers (length c.args.input.now) c.caps-caps.result.in_cap (c.caps-caps.result.in_cap + c.caps-caps.result.out_cap + 512);
      part = c.args.part;
      out_len = 0;
      caller = c.args.caller;
    } in
    weaker c.execute_part.result (WhyStopped made (map opened c.ops.result.now) c.args.input.now) _
    (λ why h. stops_part c.args.method.now made (map opened c.ops.result.now) c.args.input.now c.caps-caps.ensures c.ops.ensures.ops c.requires.some why h)
    stopped

pub returns-clause-learns : goal.returns-clause-learns
returns-clause-learns c =
    let learns = subst (λ (r : PartRun). IfOk c.execute_part.result (PartNeedsNoMore r (map opened c.ops.result.now) c.args.input.now)) c.new-run.ensures c.execute_part.ensures.learns in
    let made : PartRun = record {
      caps = c.caps-caps.result;
      limits = c.args.limits;
      registers = first_registers (length c.args.input.now) c.caps-caps.result.in_cap (c.caps-caps.result.in_cap + c.caps-caps.result.out_cap + 512);
      part = c.args.part;
      out_len = 0;
      caller = c.args.caller;
    } in
    IfOk-weaker c.execute_part.result (PartNeedsNoMore made (map opened c.ops.result.now) c.args.input.now) (NeedsNoMore c.args.limits c.args.method.now c.args.part c.args.caller c.args.input.now)
    (λ a h. λ o may. ends_knowing c.args.method.now made (map opened c.ops.result.now) c.args.input.now c.caps-caps.ensures c.ops.ensures.ops o a.steps (h o may))
    learns
