use Rattle.tests_verdict.proofs.FlatSlots.{flat_slots_hold}
use Rattle.tests_verdict.proofs.slots.slots_as_numbers.Goals as goal

pub returns : goal.returns
returns c = flat_slots_hold
