use Rattle.rados_client.proofs.Asking.{is_answered}
use Rattle.rados_client.proofs.connection.Connection.accept.Goals as goal

pub returns-clause-answered : goal.returns-clause-answered
returns-clause-answered g c =
    let posted = c.args.posted in
    let parts = c.into_parts-place.ensures in
    is_answered g.N.Classes.classes _ c.hear.new.self.seen posted.lists posted.row posted.request _ posted.place _ posted.answer c.new.result
    c.hear.ensures.heard parts.note.1 parts.stands parts.place parts.answer c.new.ensures
