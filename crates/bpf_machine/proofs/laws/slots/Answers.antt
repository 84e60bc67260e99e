use Rattle.bpf_machine.proofs.Parts.{le_value-le_bytes}
use Rattle.bpf_machine.proofs.StackSlots.{slots_have_values, slots_begin_at_zero, numbers_are_read, bytes_are_written, places_are_written}
use Rattle.bpf_machine.proofs.laws.slots.Goals as goal

pub returns-clause-values : goal.returns-clause-values
returns-clause-values c = slots_have_values

pub returns-clause-begin : goal.returns-clause-begin
returns-clause-begin c = slots_begin_at_zero

pub returns-clause-read : goal.returns-clause-read
returns-clause-read c = numbers_are_read

pub returns-clause-bytes : goal.returns-clause-bytes
returns-clause-bytes c = bytes_are_written

pub returns-clause-places : goal.returns-clause-places
returns-clause-places c = places_are_written

pub returns-clause-numbers : goal.returns-clause-numbers
returns-clause-numbers c = le_value-le_bytes
