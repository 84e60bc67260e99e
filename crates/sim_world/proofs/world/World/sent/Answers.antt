use Rattle.std.proofs.Common.{List, map, ap, ◌∙◌}
use Rattle.sim_world.specs.Holds.{kept_shown}
use Rattle.sim_world.specs.declared.kept.KeptMessage.{KeptMessage}
use Rattle.sim_world.specs.inner.Parts.{Parts}
use Rattle.sim_world.proofs.Messages.{same_shown}
use Rattle.sim_world.proofs.world.World.sent.Goals as goal

pub returns-clause-shown : goal.returns-clause-shown
returns-clause-shown g c = λ p held.
    ap (λ (ks : List KeptMessage). map kept_shown ks) (c.messages.ensures ∙ ap (λ (w : Parts). w.sent) c.self.view_is)
    ∙ same_shown p.world.nodes c.args.self.now.sent p.world.sent held.sent
