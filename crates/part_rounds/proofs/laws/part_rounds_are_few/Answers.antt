use Rattle.part_rounds.proofs.OfBytes.{part_few_in_run, part_rounds_are_few}
use Rattle.part_rounds.proofs.laws.part_rounds_are_few.Goals as goal

pub returns-clause-few : goal.returns-clause-few
returns-clause-few c = part_rounds_are_few c.one_part.ensures c.more_of_a_part_is_enough.ensures.later c.more_of_a_part_is_enough.ensures.once

pub returns-clause-in_run : goal.returns-clause-in_run
returns-clause-in_run c = part_few_in_run c.one_part.ensures c.more_of_a_part_is_enough.ensures.later c.more_of_a_part_is_enough.ensures.once
