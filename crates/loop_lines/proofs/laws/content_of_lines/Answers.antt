use Rattle.loop_lines.proofs.RoundTrip.{budget_content, head_content}
use Rattle.loop_lines.proofs.laws.content_of_lines.Goals as goal

pub returns-clause-budget : goal.returns-clause-budget
returns-clause-budget c = λ n most. budget_content n most

pub returns-clause-head : goal.returns-clause-head
returns-clause-head c = λ ps are. head_content ps are
