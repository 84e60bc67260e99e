use Rattle.std.proofs.Common.{sym, subst, List}
use Rattle.pg_log.specs.Requests.{ClientRequest}
use Rattle.pg_log.specs.Log.{Legal}
use Rattle.pg_log.specs.Entries.{AreSafe}
use Rattle.pg_log.proofs.group.Group.copy.Goals as goal

pub keep_copies-requires-clause-legal : goal.keep_copies-requires-clause-legal
keep_copies-requires-clause-legal g c = let P : List ClientRequest → Type 0 = Legal g.C.Classes.classes in subst P (sym c.entries.ensures.requests) c.entries.ensures.legal

pub keep_copies-requires-clause-safe : goal.keep_copies-requires-clause-safe
keep_copies-requires-clause-safe g c = let P : List ClientRequest → Type 0 = AreSafe g.C.Classes.classes in subst P (sym c.entries.ensures.requests) c.entries.ensures.safe
