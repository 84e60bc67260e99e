use Rattle.std.proofs.Common.{rules}
use Rattle.replication.proofs.placed.append_at.Goals as goal

-- turned by earlier_place_appends_again
pub returns-in_err-entry-clause-answer : goal.returns-in_err-entry-clause-answer
returns-in_err-entry-clause-answer g c = search rules

-- turned by earlier_place_appends_again
pub returns-in_err-place-clause-answer : goal.returns-in_err-place-clause-answer
returns-in_err-place-clause-answer g c = search rules

-- turned by earlier_place_appends_again
pub returns-clause-answer : goal.returns-clause-answer
returns-clause-answer g c = search rules

-- turned by earlier_place_appends_again
pub returns-clause-ok : goal.returns-clause-ok
returns-clause-ok g c = search rules
