use Rattle.part_rounds.proofs.Rounds.{few_in_run, rounds_are_few}
use Rattle.part_rounds.proofs.laws.rounds_are_few.Goals as goal

pub returns-clause-few : goal.returns-clause-few
returns-clause-few c = rounds_are_few c.more_is_enough.ensures.later c.more_is_enough.ensures.once

pub returns-clause-in_run : goal.returns-clause-in_run
returns-clause-in_run c = few_in_run c.more_is_enough.ensures.later c.more_is_enough.ensures.once
