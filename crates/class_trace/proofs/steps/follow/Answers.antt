use Rattle.std.proofs.Common.{◌≡◌, ◌<◌, Some, None, length, sym, subst, ◌∙◌, arith}
use Rattle.bpf_machine.specs.State.{Ended, Stuck}
use Rattle.bpf_machine.specs.Flat.{step, exit_code, run}
use Rattle.flat_machine.specs.View.{layout_of}
use Rattle.flat_machine.specs.StateView.{caps_in, layout_in, flat_state, Steps}
use Rattle.class_trace.specs.Trace.{records, seen}
use Rattle.class_trace.proofs.Going.{all_seen, counted_on, gets_stuck, goes_further, leads_further}
use Rattle.class_trace.proofs.steps.follow.Goals as goal

pub returns-in-Exit : goal.returns-in-Exit
returns-in-Exit c =
    let caps = caps_in c.args.state.now in
    let lay = layout_in c.args.state.now in
    let code = c.args.subject.now.code.now in
    let limit = length c.args.subject.now.insns.now in
    let h : c.loop-n.n < limit = omega arith in
    let s = flat_state c.loop-n.state in
    let t = flat_state c.step.new.self in
    let next = step (caps_in c.loop-n.state) (layout_in c.loop-n.state) code s in
    let at_exit = subst (λ r. Steps r (exit_code code s) next s t) c.in-Exit.is c.in_ok-step.ensures.steps in
    all_seen caps lay code limit c.loop-n.n (flat_state c.args.state.now) s t (records c.loop-n.lines.items)
    (records c.add_record-in-Exit.new.lines.items) c.in-Exit.field-0 h c.loop-n.invariant.counted c.loop-n.invariant.rest c.loop-n.invariant.front (sym at_exit.0) at_exit.1
    c.in_ok-add_record-in-Exit.ensures

pub unreachable-requires : goal.unreachable-requires
unreachable-requires c =
    let caps = caps_in c.args.state.now in
    let lay = layout_in c.args.state.now in
    let code = c.args.subject.now.code.now in
    let before = c.args.state.now.object.after in
    let limit = length c.args.subject.now.insns.now in
    let h : c.loop-n.n < limit = omega arith in
    let s = flat_state c.loop-n.state in
    let t = flat_state c.step.new.self in
    let next = step (caps_in c.loop-n.state) (layout_in c.loop-n.state) code s in
    let stuck = subst (λ r. Steps r (exit_code code s) next s t) c.in-Stuck.is c.in_ok-step.ensures.steps in
    let st = subst (λ m. step m.caps (layout_of m.layout) code s ≡ None) c.loop-n.invariant.machine stuck.1 in
    let e : Ended c.requires.0 c.requires.1 ≡ Stuck =
    sym c.requires.2 ∙ gets_stuck caps lay code before limit c.loop-n.n s (run caps lay code before limit (flat_state c.args.state.now)) h c.loop-n.invariant.rest (sym stuck.0) st in cc

pub loop-n-preserved : goal.loop-n-preserved
loop-n-preserved c =
    let caps = caps_in c.args.state.now in
    let lay = layout_in c.args.state.now in
    let code = c.args.subject.now.code.now in
    let before = c.args.state.now.object.after in
    let limit = length c.args.subject.now.insns.now in
    let h : c.loop-n.n < limit = omega arith in
    let s = flat_state c.loop-n.state in
    let t = flat_state c.step.new.self in
    let next = step (caps_in c.loop-n.state) (layout_in c.loop-n.state) code s in
    let went = subst (λ r. Steps r (exit_code code s) next s t) c.in-Next.is c.in_ok-step.ensures.steps in
    let st = subst (λ m. step m.caps (layout_of m.layout) code s ≡ Some t) c.loop-n.invariant.machine went.1 in
    let added = c.in_ok-add_record-in-Next.ensures in record {
      machine = c.in_ok-step.ensures.machine ∙ c.loop-n.invariant.machine;
      counted = counted_on c.loop-n.n (records c.loop-n.lines.items) (records c.add_record.new.lines.items) (seen s t) c.loop-n.invariant.counted added;
      rest = goes_further caps lay code before limit c.loop-n.n s (run caps lay code before limit (flat_state c.args.state.now)) h c.loop-n.invariant.rest t (sym went.0) st;
      front = leads_further caps lay code (flat_state c.args.state.now) s t (records c.loop-n.lines.items) (records c.add_record.new.lines.items) c.loop-n.invariant.front st added;
    }
