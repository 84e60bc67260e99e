use Rattle.std.proofs.Common.{ap, ◌∙◌, slice_get}
use Rattle.sim_world.specs.inner.Parts.{Parts}
use Rattle.sim_world.proofs.Standing.{node_held}
use Rattle.sim_world.proofs.world.World.node.Goals as goal

pub returns : goal.returns
returns g c = λ p held.
    c.node.ensures ∙ ap (λ (w : Parts). slice_get w.nodes c.args.number) c.self.view_is
    ∙ node_held g.C.Classes.classes c.args.self.now c.args.number p held
