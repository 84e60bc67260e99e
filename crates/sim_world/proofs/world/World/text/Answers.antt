use Rattle.std.proofs.Common.{ap, ◌∙◌}
use Rattle.std.proofs.lemmas.Result.{IfOk-weaker}
use Rattle.sim_world.specs.inner.Parts.{Parts, kept_taken}
use Rattle.sim_world.proofs.Messages.{same_taken}
use Rattle.sim_world.proofs.world.World.text.Goals as goal

pub returns : goal.returns
returns g c =
    IfOk-weaker c.text.result _ _
    (λ t is p held. is ∙ ap (λ (w : Parts). kept_taken w.sent c.args.taken.now) c.self.view_is
    ∙ same_taken p.world.nodes c.args.self.now.sent p.world.sent c.args.taken.now held.sent)
    c.text.ensures
