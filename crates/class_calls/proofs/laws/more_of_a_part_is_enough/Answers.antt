use Rattle.class_calls.proofs.Lacking.{all_is_enough, more_of_part, needed_once, no_earlier}
use Rattle.class_calls.proofs.laws.more_of_a_part_is_enough.Goals as goal

pub returns-clause-all : goal.returns-clause-all
returns-clause-all c = all_is_enough c.one_part.ensures

pub returns-clause-more : goal.returns-clause-more
returns-clause-more c = more_of_part c.one_part.ensures c.more_is_enough.ensures.enough

pub returns-clause-later : goal.returns-clause-later
returns-clause-later c = no_earlier c.one_part.ensures c.more_is_enough.ensures.later

pub returns-clause-once : goal.returns-clause-once
returns-clause-once c = needed_once c.one_part.ensures c.more_is_enough.ensures.once
