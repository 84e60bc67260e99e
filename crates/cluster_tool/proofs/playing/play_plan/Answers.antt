use Rattle.std.proofs.Common.{subst, List}
use Rattle.cluster_file.specs.declared.planned_step.PlannedStep.{PlannedStep}
use Rattle.cluster_tool.specs.Callers.{AllCalled}
use Rattle.cluster_tool.specs.Played.{AreMapsMade}
use Rattle.cluster_tool.proofs.Ends.{are_done}
use Rattle.cluster_tool.proofs.playing.play_plan.Goals as goal

pub returns-in-Ok-all_ends : goal.returns-in-Ok-all_ends
returns-in-Ok-all_ends g c =
    let olds = c.in-Ok.callers.items in
    let news = c.play_steps.new.callers.items in
    let called : AllCalled g.N.Classes.classes c.args.plan.now.steps olds news =
    subst (λ (l : List PlannedStep). AllCalled g.N.Classes.classes l olds news) c.steps.ensures c.in-None.ensures.none in
    let made : AreMapsMade g.N.ClusterName.config c.args.plan.now.steps =
    subst (λ (l : List PlannedStep). AreMapsMade g.N.ClusterName.config l) c.steps.ensures c.in-None.ensures.made in
    are_done g.N.Classes.classes g.N.ClusterName.config c.args.plan.now.steps c.clients.result olds news _ c.in-Ok-all_ends.ensures.ends c.clients.ensures c.in-Ok.ensures called
    c.in-Ok-all_ends.ensures.kept made
