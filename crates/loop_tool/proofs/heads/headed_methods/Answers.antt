use Rattle.std.proofs.Common.{sym, rules, arith}
use Rattle.loop_tool.specs.Heads.{IsUnheaded}
use Rattle.loop_tool.proofs.Headed.{if_err, memory_among, next_headed}
use Rattle.loop_tool.proofs.heads.headed_methods.Goals as goal

-- turned by first_method_alone_gets_heads
pub loop-method-preserved : goal.loop-method-preserved
loop-method-preserved c =
    let more = next_headed c.args.budget c.args.methods.now c.loop-method.method-index c.method-item.result c.loop-method.headed.items c.in_ok-one.one
    (omega arith) c.method-item.is c.loop-method.invariant c.in_ok-one.ensures.headed in
    search rules

pub returns-in_err-one-clause-unheaded : goal.returns-in_err-one-clause-unheaded
returns-in_err-one-clause-unheaded c =
    if_err (IsUnheaded c.args.methods.now) c.from_residual.result c.in_err-one.field-0.0 c.from_residual.ensures.1
    (c.method-item.result, (c.loop-method.method-index, omega arith, sym c.method-item.is), c.in_err-one.ensures.unheaded)

pub returns-in_err-push-clause-unheaded : goal.returns-in_err-push-clause-unheaded
returns-in_err-push-clause-unheaded c =
    memory_among c.args.methods.now c.loop-method.method-index c.method-item.result c.from_residual-in_err-push.result (omega arith) c.method-item.is
    c.from_residual-in_err-push.ensures.1
