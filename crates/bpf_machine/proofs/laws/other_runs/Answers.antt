use Rattle.bpf_machine.proofs.Counting.{stuck_runs_are_chains, unfinished_runs_are_chains}
use Rattle.bpf_machine.proofs.laws.other_runs.Goals as goal

pub returns-clause-stuck : goal.returns-clause-stuck
returns-clause-stuck c = stuck_runs_are_chains

pub returns-clause-unfinished : goal.returns-clause-unfinished
returns-clause-unfinished c = unfinished_runs_are_chains
