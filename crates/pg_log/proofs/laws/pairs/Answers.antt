use Rattle.pg_log.proofs.Standing.{same_place, place_of-within, place_of-legal}
use Rattle.pg_log.proofs.laws.pairs.Goals as goal

pub returns-clause-once : goal.returns-clause-once
returns-clause-once c = same_place

pub returns-clause-place : goal.returns-clause-place
returns-clause-place c = place_of-legal

pub returns-clause-there : goal.returns-clause-there
returns-clause-there c = place_of-within
