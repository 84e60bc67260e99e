use Rattle.class_tool.proofs.Reported.{made}
use Rattle.class_tool.proofs.run.call_and_log.Goals as goal

pub returns-clause-ok : goal.returns-clause-ok
returns-clause-ok c =
    made c.outcomes.ensures c.args.class c.args.asked.now c.args.input.items c.in_ok-outcome.outcome c.methods-methods.ensures.class
    (rw c.deref.ensures.value at c.in_ok-outcome.ensures.ok) c.log.result c.log.ensures.ok
