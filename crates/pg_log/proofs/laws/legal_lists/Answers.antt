use Rattle.pg_log.proofs.Legal.{legal_beginning, legal_empty, legal_push, follows}
use Rattle.pg_log.proofs.laws.legal_lists.Goals as goal

pub returns-clause-beginnings : goal.returns-clause-beginnings
returns-clause-beginnings c = legal_beginning

pub returns-clause-empty : goal.returns-clause-empty
returns-clause-empty c = legal_empty

pub returns-clause-append : goal.returns-clause-append
returns-clause-append c = λ classes xs r. (λ l. (legal_beginning classes xs _ l, follows classes xs r l), λ p. legal_push classes xs r p.0 p.1)
