use Rattle.std.proofs.Common.{◌≡◌, ◌∙◌, ◌+◌, ℕ, List, Bor, map, arith, refl, sym, subst}
use Rattle.cluster_file.specs.Plan.{clients_after}
use Rattle.cluster_file.specs.declared.planned_step.PlannedStep.{PlannedStep}
use Rattle.cluster_file.proofs.Stepping.{Going, all_read, goes_on, starts, stops}
use Rattle.cluster_file.proofs.plan.read_steps.Goals as goal

pub loop-line-init : goal.loop-line-init
loop-line-init c = record { going = starts _ c.args.lines.now _; number = refl }

pub returns-in_default : goal.returns-in_default
returns-in_default c =
    stops _ c.args.lines.now c.loop-line.line-index c.loop-line.clients c.loop-line.number (c.loop-line.number + 1) _ _ _ c.loop-line-test.true (omega arith) c.loop-line.invariant.going
    (sym c.in_ok-step.ensures ∙ c.in_default.is)

pub loop-line-preserved : goal.loop-line-preserved
loop-line-preserved c =
    let names : List (List ℕ) = map (λ (n : Bor (List ℕ)). n.now) c.args.names.now in
    let at : ℕ = c.loop-line.line-index + 1 in
    let number : ℕ = c.loop-line.number + 1 in
    let old : List PlannedStep = c.args.steps.now.items in
    record {
      going = subst (λ n. Going names c.args.lines.now at n number old c.push.new.self.items) (sym c.clients_after-clients.ensures)
          (subst (λ l. Going names c.args.lines.now at (clients_after c.loop-line.clients c.in-Some.step) number old l) (sym c.in_ok-push.ensures.items)
          (goes_on names c.args.lines.now c.loop-line.line-index at c.loop-line.clients c.loop-line.number number old c.loop-line.steps.items _ c.in-Some.step
          c.loop-line-test.true (omega arith) (omega arith) c.loop-line.invariant.going (sym c.in_ok-step.ensures ∙ c.in-Some.is)));
      number = omega (arith, c.loop-line.invariant.number);
    }

pub returns : goal.returns
returns c = all_read _ c.args.lines.now c.loop-line.line-index c.loop-line.clients c.loop-line.number _ _ (omega arith) c.loop-line.invariant.going
