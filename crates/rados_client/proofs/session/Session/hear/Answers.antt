use Rattle.std.proofs.Common.{List, ap, subst}
use mathlib.Core.List.{IsPrefix}
use Rattle.pg_log.specs.Requests.{ClientRequest}
use Rattle.commit_board.specs.Lists.{list_at}
use Rattle.rados_client.specs.Session.{SessionState}
use Rattle.rados_client.proofs.session.Session.hear.Goals as goal

pub returns-clause-known : goal.returns-clause-known
returns-clause-known g c i =
    subst (λ (x : List ClientRequest). IsPrefix x (list_at c.hear.new.self.seen i)) (ap (λ (s : SessionState). list_at s.contact.seen i) c.self.view_is) (c.hear.ensures.known i)
