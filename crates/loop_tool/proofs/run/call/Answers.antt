use Rattle.std.proofs.Common.{rules}
use Rattle.loop_tool.proofs.Called.{refused}
use Rattle.loop_tool.proofs.run.call.Goals as goal

-- turned by caller_is_dropped
pub returns-clause-ok : goal.returns-clause-ok
returns-clause-ok c = search rules

pub returns-clause-err : goal.returns-clause-err
returns-clause-err c =
    refused c.args.class.now c.args.asked.now.method.now c.args.input.now c.call_loops.result c.call_loops.ensures.no_method c.call_loops.ensures.too_long
