use Rattle.std.specs.Option.{option_copied}
use Rattle.std.proofs.lemmas.Result.{IfOk-weaker}
use Rattle.class_tests.proofs.Calling.{plainly}
use Rattle.class_tests.proofs.tested.call_plain.Goals as goal

pub returns-clause-ok : goal.returns-clause-ok
returns-clause-ok c =
    IfOk-weaker c.call.result _ _ (plainly c.args.class.now c.args.method.now c.args.case.now c.args.input.now c.methods-methods.ensures.class.methods (option_copied c.as_ref-object.result) c.as_ref-object.ensures.value c.outcomes.ensures) c.call.ensures.ok
