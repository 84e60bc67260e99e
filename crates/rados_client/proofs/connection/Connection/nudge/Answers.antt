use Rattle.std.proofs.Common.{subst}
use Rattle.op_shards.specs.Passes.{Grew}
use Rattle.rados_client.specs.Session.{Contact}
use Rattle.rados_client.specs.Promise.{NotAsked}
use Rattle.rados_client.proofs.Asking.{internal_not_asked}
use Rattle.rados_client.proofs.connection.Connection.nudge.Goals as goal

pub returns-clause-grew : goal.returns-clause-grew
returns-clause-grew g c = subst (λ (k : Contact). Grew k.sends c.nudge.new.sends) c.self.view_is c.nudge.ensures.grew

pub returns-clause-untaken : goal.returns-clause-untaken
returns-clause-untaken g c =
    let r = c.args.request.now in
    subst (λ (k : Contact). NotAsked k.sends c.nudge.new.sends r) c.self.view_is (internal_not_asked _ _ c.nudge.new.sends r c.nudge.ensures.only)
