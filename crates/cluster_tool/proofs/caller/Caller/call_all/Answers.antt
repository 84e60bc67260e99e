use Rattle.cluster_tool.proofs.Calling.{called_next}
use Rattle.cluster_tool.proofs.caller.Caller.call_all.Goals as goal

pub loop-step-preserved : goal.loop-step-preserved
loop-step-preserved g c =
    called_next g.N.Classes.classes c.args.steps.now c.loop-step.step-index c.step-item.result c.args.self.now c.loop-step.self c.take_step.new.self
    c.loop-step-test.true c.step-item.is c.loop-step.invariant c.take_step.ensures
