use Rattle.pg_log.proofs.Indexed.{reaches_in-last, reaches_in-none}
use Rattle.pg_log.proofs.places.reaches.Goals as goal

pub returns-in-Some : goal.returns-in-Some
returns-in-Some c = λ h. reaches_in-last c.args.number c.args.requests.now c.in-Some.last.now h c.in-Some.ensures.value

pub returns-in-None : goal.returns-in-None
returns-in-None c = λ h. reaches_in-none c.args.number c.args.requests.now c.in-None.ensures.value
