use Rattle.std.proofs.Common.{◌≡◌, subst, arith}
use Rattle.std.proofs.lemmas.Grind.{common_steps}
use Rattle.std.specs.Prelude.{IfOk}
use Rattle.std.specs.Option.{option_copied}
use Rattle.bpf_machine.specs.Flat.{run}
use Rattle.flat_machine.specs.View.{layout_of, ending_of}
use Rattle.flat_machine.specs.StateView.{flat_state}
use Rattle.flat_machine.proofs.run.flat_run.Goals as goal

pub returns : goal.returns
returns c =
    let before = option_copied c.args.start.now.object in
    let at_machine = subst (λ m. IfOk c.run_from.result (λ e. ending_of e ≡ run m.caps (layout_of m.layout) c.args.code.now before c.args.limit (flat_state c.in_ok-s.s))) c.in_ok-s.ensures.machine c.run_from.ensures in
    subst (λ s. IfOk c.run_from.result (λ e. ending_of e ≡ run c.args.machine.now.caps (layout_of c.args.machine.now.layout) c.args.code.now before c.args.limit s)) c.in_ok-s.ensures.entry at_machine

pub run_from-requires : goal.run_from-requires
run_from-requires c = grind (arith, common_steps)
