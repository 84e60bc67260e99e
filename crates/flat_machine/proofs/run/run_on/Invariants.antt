use Rattle.std.proofs.Common.{◌≡◌, ◌-◌}
use Rattle.bpf_machine.specs.Flat.{run}
use Rattle.flat_machine.specs.StateView.{caps_in, layout_in, flat_state}
use Rattle.flat_machine.proofs.Going.{steps_more}
use Rattle.flat_machine.proofs.run.run_on.Given as goal

abbrev pub invariant-loop-n : goal.invariant-loop-n
invariant-loop-n l =
    let caps = caps_in l.fn.s in
    let lay = layout_in l.fn.s in
    let before = (flat_state l.fn.s).object in record {
      machine : l.s.memory.machine ≡ l.fn.s.memory.machine;
      rest : run caps lay l.code before l.limit (flat_state l.fn.s) ≡ steps_more l.n (run caps lay l.code before (l.limit - l.n) (flat_state l.s));
    }
