use Rattle.std.proofs.Common.{◌≡◌, drop}
use Rattle.std.specs.List.{list_any}
use Rattle.cluster_tool.specs.Answers.{is_refused}
use Rattle.cluster_tool.proofs.refused.has_refused.Given as goal

-- those that are left decide
abbrev pub invariant-loop-end : goal.invariant-loop-end
invariant-loop-end l = list_any is_refused (drop l.end-index l.ends) ≡ list_any is_refused l.ends
