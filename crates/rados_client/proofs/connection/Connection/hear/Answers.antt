use Rattle.std.proofs.Common.{List, ap, subst}
use mathlib.Core.List.{IsPrefix}
use Rattle.pg_log.specs.Requests.{ClientRequest}
use Rattle.commit_board.specs.Lists.{list_at}
use Rattle.rados_client.specs.Session.{Contact}
use Rattle.rados_client.proofs.connection.Connection.hear.Goals as goal

pub returns-clause-known : goal.returns-clause-known
returns-clause-known g c i =
    subst (λ (x : List ClientRequest). IsPrefix x (list_at c.meet.new.seen.lists i)) (ap (λ (k : Contact). list_at k.seen i) c.self.view_is) (c.meet.ensures.known i)
