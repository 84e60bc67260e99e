use Rattle.bpf_machine.proofs.Kept.{outcomes_are_within_limits, calls_are_within_limits}
use Rattle.bpf_machine.proofs.laws.limits_are_kept.Goals as goal

pub returns-clause-runs : goal.returns-clause-runs
returns-clause-runs c = outcomes_are_within_limits c.effects_are_within_limits.ensures

pub returns-clause-calls : goal.returns-clause-calls
returns-clause-calls c = calls_are_within_limits c.effects_are_within_limits.ensures
