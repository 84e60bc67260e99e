use Rattle.part_calls.proofs.More.{more_is_enough, needed_once, no_earlier}
use Rattle.part_calls.proofs.laws.more_is_enough.Goals as goal

pub returns-clause-enough : goal.returns-clause-enough
returns-clause-enough c = more_is_enough

pub returns-clause-later : goal.returns-clause-later
returns-clause-later c = no_earlier

pub returns-clause-once : goal.returns-clause-once
returns-clause-once c = needed_once
