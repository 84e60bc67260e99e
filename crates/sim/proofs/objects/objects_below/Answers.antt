use Rattle.std.proofs.Common.{ap, ◌∙◌, IfOk, string_bytes, subst, sym}
use Rattle.std.proofs.lemmas.Result.{IfOk-weaker}
use Rattle.sim_world.specs.declared.taken.Taken.{Taken}
use Rattle.sim.specs.Run.{IsBelow, node_objects}
use Rattle.sim.proofs.objects.objects_below.Goals as goal

pub returns-in-Shown : goal.returns-in-Shown
returns-in-Shown g c =
    subst (λ (taken : Taken). IfOk c.node_objects.result (λ t. IsBelow g.C.Classes.classes c.args.world.now taken (string_bytes t))) (sym c.in-Shown.is)
    (IfOk-weaker c.node_objects.result _ _ (λ t is p held. is ∙ ap (node_objects g.C.Classes.classes) (c.node.ensures p held)) c.node_objects.ensures)
