use Rattle.std.proofs.Common.{◌∙◌, ap, sym, ◌++◌, ◌∷◌, []}
use Rattle.pg_log.specs.Places.{kept_of}
use Rattle.pg_log.proofs.Indexed.{added}
use Rattle.pg_log.proofs.Room.{room_put}
use Rattle.pg_log.proofs.places.Places.add_first.Goals as goal

pub returns-clause-ok : goal.returns-clause-ok
returns-clause-ok c = λ list r is client number at.
    added c.args.self.now.by_client c.insert.new.self c.args.key c.args.request.0 c.args.request.1 c.in_ok-requests.requests c.in_ok-insert.ensures.updates
    (c.in_ok-requests.ensures ∙ ap (λ o. kept_of o ++ (c.args.request.0, c.args.request.1) ∷ []) (sym c.requires))
    list r is client number at

pub returns-clause-room : goal.returns-clause-room
returns-clause-room c = λ client. room_put c.args.self.now.by_client c.insert.new.self c.args.key c.in_ok-requests.requests c.in_ok-insert.ensures.updates (sym c.requires) client
