use Rattle.std.proofs.Common.{ap, ◌∙◌, subst, sym}
use Rattle.bpf_decode.specs.Instruction.{slots}
use Rattle.bpf_ops.specs.Op.{PairsHold}
use Rattle.loop_verdict.specs.Verified.{IsLoopMethod}
use Rattle.loop_verdict.proofs.method.verify_by_heads.Goals as goal

pub judge-requires-clause-code : goal.judge-requires-clause-code
judge-requires-clause-code c = c.deref.ensures.value ∙ c.in_ok-code.ensures ∙ ap slots c.instructions.ensures

pub new-requires-clause-verified : goal.new-requires-clause-verified
new-requires-clause-verified c = subst (IsLoopMethod c.args.method.now) (sym c.budget.ensures) c.in_ok-judge.ensures.verified

pub new-requires-clause-ops : goal.new-requires-clause-ops
new-requires-clause-ops c = c.in_ok-ops.ensures.begun ∙ c.deref-2.ensures.value ∙ c.in_ok-code.ensures ∙ ap slots c.instructions.ensures

pub new-requires-clause-pairs : goal.new-requires-clause-pairs
new-requires-clause-pairs c = subst (λ code. PairsHold code c.in_ok-ops.ops.items) (c.deref-2.ensures.value ∙ c.in_ok-code.ensures ∙ ap slots c.instructions.ensures) c.in_ok-ops.ensures.pairs
