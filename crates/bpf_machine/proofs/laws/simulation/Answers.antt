use Rattle.bpf_machine.proofs.Runs.{simulates, simulates_within, ends_always_is_safe, ends_within_is_safe}
use Rattle.bpf_machine.proofs.laws.simulation.Goals as goal

pub returns-clause-simulates : goal.returns-clause-simulates
returns-clause-simulates c = simulates

pub returns-clause-simulates_within : goal.returns-clause-simulates_within
returns-clause-simulates_within c = simulates_within

pub returns-clause-safe : goal.returns-clause-safe
returns-clause-safe c = ends_always_is_safe

pub returns-clause-within : goal.returns-clause-within
returns-clause-within c = ends_within_is_safe
