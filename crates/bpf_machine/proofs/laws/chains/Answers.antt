use Rattle.bpf_machine.proofs.Counting.{runs_are_chains}
use Rattle.bpf_machine.proofs.laws.chains.Goals as goal

pub returns : goal.returns
returns c = runs_are_chains
