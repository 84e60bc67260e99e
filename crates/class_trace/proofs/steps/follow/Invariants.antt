use Rattle.std.proofs.Common.{◌≡◌, ◌-◌, length}
use Rattle.bpf_machine.specs.Flat.{run}
use Rattle.flat_machine.specs.StateView.{caps_in, layout_in, flat_state}
use Rattle.class_trace.specs.Trace.{records}
use Rattle.class_trace.proofs.Going.{LeadsOn, steps_more}
use Rattle.class_trace.proofs.steps.follow.Given as goal

-- what was seen and what is seen of what is left is what is seen of all
abbrev pub invariant-loop-n : goal.invariant-loop-n
invariant-loop-n l =
    let caps = caps_in l.fn.state in
    let lay = layout_in l.fn.state in
    let code = l.subject.code.now in
    let before = (flat_state l.fn.state).object in
    let limit = length l.subject.insns.now in record {
      machine : l.state.memory.machine ≡ l.fn.state.memory.machine;
      counted : length (records l.lines.items) ≡ l.n;
      rest : run caps lay code before limit (flat_state l.fn.state) ≡ steps_more l.n (run caps lay code before (limit - l.n) (flat_state l.state));
      front : LeadsOn caps lay code (flat_state l.fn.state) (records l.lines.items) (flat_state l.state);
    }
