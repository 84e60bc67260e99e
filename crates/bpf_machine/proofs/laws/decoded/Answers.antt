use Rattle.bpf_machine.proofs.Fetch.{bytes_are_instructions, elsewhere_is_stuck}
use Rattle.bpf_machine.proofs.laws.decoded.Goals as goal

pub returns-clause-begins : goal.returns-clause-begins
returns-clause-begins c = bytes_are_instructions

pub returns-clause-elsewhere : goal.returns-clause-elsewhere
returns-clause-elsewhere c = elsewhere_is_stuck
