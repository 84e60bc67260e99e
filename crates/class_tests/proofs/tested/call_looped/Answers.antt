use Rattle.std.specs.Option.{option_copied}
use Rattle.std.proofs.lemmas.Result.{IfOk-weaker}
use Rattle.class_tests.proofs.Calling.{by_loops}
use Rattle.class_tests.proofs.tested.call_looped.Goals as goal

pub returns-clause-ok : goal.returns-clause-ok
returns-clause-ok c =
    IfOk-weaker c.call_loops.result _ _ (by_loops c.args.class.now c.args.method.now c.args.case.now c.args.input.now c.methods-methods.ensures.class.methods (option_copied c.as_ref-object.result) c.as_ref-object.ensures.value c.loop_outcomes.ensures) c.call_loops.ensures.ok
