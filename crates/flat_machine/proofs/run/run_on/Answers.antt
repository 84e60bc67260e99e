use Rattle.std.proofs.Common.{◌≡◌, ◌+◌, ◌<◌, Some, None, ap, sym, subst, ◌∙◌, arith}
use Rattle.bpf_machine.specs.State.{outcome_of, Ended}
use Rattle.bpf_machine.specs.Flat.{step, exit_code}
use Rattle.flat_machine.specs.View.{layout_of}
use Rattle.flat_machine.specs.StateView.{caps_in, layout_in, flat_state, Steps}
use Rattle.flat_machine.proofs.Going.{goes_further, gets_stuck, exits_at}
use Rattle.flat_machine.proofs.run.run_on.Goals as goal

pub returns-in-Exit : goal.returns-in-Exit
returns-in-Exit c =
    let before = c.args.s.now.object.after in
    let h : c.loop-n.n < c.args.limit = omega arith in
    let s = flat_state c.loop-n.s in
    let t = flat_state c.step.new.self in
    let exit = exit_code c.args.code.now s in
    let next = step (caps_in c.loop-n.s) (layout_in c.loop-n.s) c.args.code.now s in
    let at_exit = subst (λ r. Steps r exit next s t) c.in-Exit.is c.in_ok-step.ensures.steps in
    ap (λ x. Ended (outcome_of before c.in-Exit.value x) (c.loop-n.n + 1)) at_exit.1
    ∙ sym (exits_at (caps_in c.args.s.now) (layout_in c.args.s.now) c.args.code.now before c.args.limit c.loop-n.n s _ h c.loop-n.invariant.rest c.in-Exit.value (sym at_exit.0))

pub returns-in-Stuck : goal.returns-in-Stuck
returns-in-Stuck c =
    let before = c.args.s.now.object.after in
    let h : c.loop-n.n < c.args.limit = omega arith in
    let s = flat_state c.loop-n.s in
    let t = flat_state c.step.new.self in
    let exit = exit_code c.args.code.now s in
    let next = step (caps_in c.loop-n.s) (layout_in c.loop-n.s) c.args.code.now s in
    let stuck = subst (λ r. Steps r exit next s t) c.in-Stuck.is c.in_ok-step.ensures.steps in
    let st = subst (λ m. step m.caps (layout_of m.layout) c.args.code.now s ≡ None) c.loop-n.invariant.machine stuck.1 in
    sym (gets_stuck (caps_in c.args.s.now) (layout_in c.args.s.now) c.args.code.now before c.args.limit c.loop-n.n s _ h c.loop-n.invariant.rest (sym stuck.0) st)

pub loop-n-preserved : goal.loop-n-preserved
loop-n-preserved c =
    let before = c.args.s.now.object.after in
    let h : c.loop-n.n < c.args.limit = omega arith in
    let s = flat_state c.loop-n.s in
    let t = flat_state c.step.new.self in
    let exit = exit_code c.args.code.now s in
    let next = step (caps_in c.loop-n.s) (layout_in c.loop-n.s) c.args.code.now s in
    let went = subst (λ r. Steps r exit next s t) c.in-Next.is c.in_ok-step.ensures.steps in
    let st = subst (λ m. step m.caps (layout_of m.layout) c.args.code.now s ≡ Some t) c.loop-n.invariant.machine went.1 in record {
      machine = c.in_ok-step.ensures.machine ∙ c.loop-n.invariant.machine;
      rest = goes_further (caps_in c.args.s.now) (layout_in c.args.s.now) c.args.code.now before c.args.limit c.loop-n.n s _ h c.loop-n.invariant.rest t (sym went.0) st;
    }
