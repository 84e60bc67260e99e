use Rattle.std.proofs.Common.{◌≡◌, ◌++◌, suc, drop, map, string_bytes}
use Rattle.cluster_file.specs.Text.{all_lines}
use Rattle.cluster_tool.specs.Answers.{shown}
use Rattle.cluster_tool.proofs.shown.lines_of.Given as goal

-- the lines so far and those that are left
abbrev pub invariant-loop-before : goal.invariant-loop-before
invariant-loop-before l =
    string_bytes l.text ++ all_lines l.groups l.steps (suc l.before) (map (map shown) (map (λ v. v.items) (drop l.before l.ends))) ≡ all_lines l.groups l.steps 1 (map (map shown) (map (λ v. v.items) l.ends))
