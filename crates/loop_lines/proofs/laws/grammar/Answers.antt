use Rattle.loop_lines.proofs.Grammatical.{budget_says, budget_is, head_says, head_is}
use Rattle.loop_lines.proofs.laws.grammar.Goals as goal

pub returns-clause-budget_read : goal.returns-clause-budget_read
returns-clause-budget_read c = λ text n e. budget_says text n e

pub returns-clause-budget_only : goal.returns-clause-budget_only
returns-clause-budget_only c = λ text n is. budget_is text n is

pub returns-clause-head_read : goal.returns-clause-head_read
returns-clause-head_read c = λ text ps e. head_says text ps e

pub returns-clause-head_only : goal.returns-clause-head_only
returns-clause-head_only c = λ text ps is. head_is text ps is
