use Rattle.std.proofs.Common.{◌≡◌, ◌+◌, drop, map, ℕ, List, Bor, None}
use Rattle.object_texts.specs.Saved.{of_lines}
use Rattle.object_texts.proofs.saved.spelled_object.Given as goal

-- the lines that are left decide
abbrev pub invariant-loop-n : goal.invariant-loop-n
invariant-loop-n l =
    let text : Bor (List ℕ) → List ℕ = λ line. line.now in
    of_lines (l.n + 1) l.object (map text (drop l.n l.lines.items)) ≡ of_lines 1 None (map text l.lines.items)
