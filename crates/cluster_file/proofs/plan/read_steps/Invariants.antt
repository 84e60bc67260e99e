use Rattle.std.proofs.Common.{◌≡◌, ◌+◌, map, Bor, List, ℕ}
use Rattle.cluster_file.proofs.Stepping.{Going}
use Rattle.cluster_file.proofs.plan.read_steps.Given as goal

-- the lines above were read, and numbered
abbrev pub invariant-loop-line : goal.invariant-loop-line
invariant-loop-line l =
    let text : Bor (List ℕ) → List ℕ = λ t. t.now in
    record { going : Going (map text l.names) l.lines l.line-index l.clients l.number l.initial.steps.items l.steps.items; number : l.number ≡ l.line-index + 1 }
