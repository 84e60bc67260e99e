use Rattle.std.proofs.Common.{◌≡◌, drop, map}
use Rattle.cluster_tool.specs.Answers.{any_refused}
use Rattle.cluster_tool.proofs.refused.any_refused.Given as goal

-- those that are left decide
abbrev pub invariant-loop-calls : goal.invariant-loop-calls
invariant-loop-calls l = any_refused (map (λ v. v.items) (drop l.calls-index l.ends)) ≡ any_refused (map (λ v. v.items) l.ends)
