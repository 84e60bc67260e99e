use Rattle.std.proofs.Common.{List, ℕ, subst}
use Rattle.class_tool.specs.LargeRun.{LargeRefused}
use Rattle.class_tool.proofs.large_run.call.Goals as goal

pub returns-in-Err-clause-err : goal.returns-in-Err-clause-err
returns-in-Err-clause-err c =
    let why = c.of_refusal.ensures c.args.class.now c.as_bytes.result.now c.args.input.now c.in-Err.ensures.refused in
    subst (λ (name : List ℕ). LargeRefused c.args.class.now name c.args.input.now c.of_refusal.result) c.as_bytes.ensures.value why
