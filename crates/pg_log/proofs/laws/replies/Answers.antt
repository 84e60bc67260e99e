use Rattle.std.proofs.Common.{sym}
use Rattle.pg_log.proofs.Fold.{reply_at-append, reply_at-last, no_reply}
use Rattle.pg_log.proofs.Kept.{reply_made}
use Rattle.pg_log.proofs.laws.replies.Goals as goal

pub returns-clause-there : goal.returns-clause-there
returns-clause-there c = no_reply

pub returns-clause-last : goal.returns-clause-last
returns-clause-last c = reply_at-last

pub returns-clause-stay : goal.returns-clause-stay
returns-clause-stay c = reply_at-append

pub returns-clause-entries : goal.returns-clause-entries
returns-clause-entries c = λ classes es k e h at. sym (reply_made classes es k e h at)
