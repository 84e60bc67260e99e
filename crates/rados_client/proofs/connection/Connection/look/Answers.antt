use Rattle.std.proofs.Common.{◌≡◌, refl, subst}
use Rattle.pg_log.specs.Requests.{ClientRequest}
use Rattle.group_cell.specs.Answering.{request_in}
use Rattle.rados_client.specs.Found.{IsFound}
use Rattle.rados_client.proofs.connection.Connection.look.Goals as goal

pub returns-in-Refused-clause-found : goal.returns-in-Refused-clause-found
returns-in-Refused-clause-found g c =
    let is : request_in c.in-Some.post ≡ c.args.request.now = c.if-not-answers.ensures.0 refl in
    let asked : c.in-Refused.refused.request ≡ c.args.request.now = rw c.in-Refused.is at is in
    subst (λ (r : ClientRequest). IsFound g.N.Classes.classes c.args.self.now.seen r c.of_refusal.result) asked (c.of_refusal.ensures c.args.self.now.seen)
