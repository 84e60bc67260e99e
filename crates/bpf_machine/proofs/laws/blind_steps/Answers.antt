use Rattle.bpf_machine.proofs.Blind.{steps_are_blind}
use Rattle.bpf_machine.proofs.laws.blind_steps.Goals as goal

pub returns : goal.returns
returns c = steps_are_blind
