use Rattle.loop_lines.proofs.RoundTrip.{budget_reads, head_reads, one_line}
use Rattle.loop_lines.proofs.laws.round_trip.Goals as goal

pub returns-clause-budget : goal.returns-clause-budget
returns-clause-budget c = λ n some most. budget_reads n some most

pub returns-clause-head : goal.returns-clause-head
returns-clause-head c = λ ps are. head_reads ps are

pub returns-clause-one : goal.returns-clause-one
returns-clause-one c = λ ps qs p q e. one_line ps qs p q e
