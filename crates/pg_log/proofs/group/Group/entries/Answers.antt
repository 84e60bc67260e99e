use Rattle.std.proofs.Common.{List, subst}
use Rattle.pg_log.specs.Requests.{ClientRequest}
use Rattle.pg_log.specs.Entries.{AreSafe}
use Rattle.pg_log.proofs.group.Group.entries.Goals as goal

pub returns-clause-safe : goal.returns-clause-safe
returns-clause-safe g c = let P : List ClientRequest → Type 0 = AreSafe g.C.Classes.classes in subst P c.self.view_is c.self.invariant.safe
