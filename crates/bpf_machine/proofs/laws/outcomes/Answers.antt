use Rattle.bpf_machine.proofs.Runs.{outcomes_are_one}
use Rattle.bpf_machine.proofs.laws.outcomes.Goals as goal

pub returns : goal.returns
returns c = outcomes_are_one
