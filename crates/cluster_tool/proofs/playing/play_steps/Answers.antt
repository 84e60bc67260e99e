use Rattle.std.proofs.Common.{arith, length, ◌<◌, subst, List}
use Rattle.std.proofs.Math.Seq.{take-length}
use Rattle.cluster_file.specs.declared.planned_step.PlannedStep.{PlannedStep}
use Rattle.cluster_tool.specs.Callers.{AllCalled}
use Rattle.cluster_tool.proofs.Calling.{all_between}
use Rattle.cluster_tool.proofs.Mapping.{all_made, made_call, made_map, refused_there}
use Rattle.cluster_tool.proofs.playing.play_steps.Goals.{in-Map+in_default, in-Call+then-is_due, in-Call+else-is_due}
use Rattle.cluster_tool.proofs.playing.play_steps.Goals as goal

pub loop-at-preserved : goal.loop-at-preserved
loop-at-preserved g c =
    let within : c.loop-at.at < length c.args.steps.now = omega (arith, c.loop-at-test.true, c.loop-at.auto.at-end) in
    elim c.match-steps-at.branch [
      | in-Map+in_default w ↦ record {
        within = omega (arith, w.from-is);
        called = rw (w.from-is, w.callers-is)
            (all_between g.N.Classes.classes c.args.steps.now c.loop-at.from c.loop-at.at c.args.callers.now.items c.loop-at.callers.items w.call_all.new.callers.items
            c.loop-at.invariant.within c.loop-at.invariant.called w.call_all.ensures);
        made = made_map g.N.ClusterName.config c.args.steps.now c.loop-at.at c.index-steps-at.result w.in-Map.line w.in-Map.nodes w.items.result.now _ within c.index-steps-at.is
            w.in-Map.is w.items.ensures c.loop-at.invariant.made w.in_default.ensures.made;
      }
      | in-Call+then-is_due w ↦ record {
        within = omega (arith, w.from-is);
        called = rw (w.from-is, w.callers-is)
            (all_between g.N.Classes.classes c.args.steps.now c.loop-at.from c.loop-at.at c.args.callers.now.items c.loop-at.callers.items w.call_all-then-is_due.new.callers.items
            c.loop-at.invariant.within c.loop-at.invariant.called w.call_all-then-is_due.ensures);
        made = made_call g.N.ClusterName.config c.args.steps.now c.loop-at.at c.index-steps-at.result w.in-Call.field-0 within c.index-steps-at.is w.in-Call.is
            c.loop-at.invariant.made;
      }
      | in-Call+else-is_due w ↦ record {
        within = omega (arith, w.from-is, c.loop-at.invariant.within);
        called = rw (w.from-is, w.callers-is) c.loop-at.invariant.called;
        made = made_call g.N.ClusterName.config c.args.steps.now c.loop-at.at c.index-steps-at.result w.in-Call.field-0 within c.index-steps-at.is w.in-Call.is
            c.loop-at.invariant.made;
      }
    ]

pub returns-clause-none : goal.returns-clause-none
returns-clause-none g c =
    let steps = c.args.steps.now in
    subst (λ (l : List PlannedStep). AllCalled g.N.Classes.classes l c.args.callers.now.items c.call_all-2.new.callers.items) (take-length steps)
    (all_between g.N.Classes.classes steps c.loop-at.from (length steps) c.args.callers.now.items c.loop-at.callers.items c.call_all-2.new.callers.items
    (omega (arith, c.loop-at.invariant.within, c.loop-at.auto.at-end)) c.loop-at.invariant.called c.call_all-2.ensures)

pub returns-in-Err-clause-some : goal.returns-in-Err-clause-some
returns-in-Err-clause-some g c =
    refused_there g.N.ClusterName.config c.args.steps.now c.loop-at.at c.index-steps-at.result c.in-Map.line c.in-Map.nodes c.items.result.now c.in-Err.why
    (omega (arith, c.loop-at-test.true, c.loop-at.auto.at-end)) c.index-steps-at.is c.in-Map.is c.items.ensures c.loop-at.invariant.made c.in-Err.ensures.refused

pub returns-clause-made : goal.returns-clause-made
returns-clause-made g c =
    let steps = c.args.steps.now in
    all_made g.N.ClusterName.config steps c.loop-at.at (omega (arith, c.loop-at-test.false, c.loop-at.auto.at-end)) c.loop-at.invariant.made
