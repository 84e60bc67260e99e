use Rattle.abstract_num.proofs.Order.{reflexive, transitive, below_holds}
use Rattle.abstract_num.proofs.laws.order_laws.Goals as goal

pub returns-clause-reflexive : goal.returns-clause-reflexive
returns-clause-reflexive c = reflexive

pub returns-clause-transitive : goal.returns-clause-transitive
returns-clause-transitive c = transitive

pub returns-clause-holds : goal.returns-clause-holds
returns-clause-holds c = below_holds
