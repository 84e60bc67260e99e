use Rattle.std.proofs.Common.{◌≡◌, ◌++◌, string_bytes, drop, map, Bor, List, ℕ}
use Rattle.std.specs.List.{flat_map}
use Rattle.class_reports.specs.Notes.{named_line}
use Rattle.class_reports.proofs.named.named_text.Given as goal

-- the lines so far and those of what is left
abbrev pub invariant-loop-line : goal.invariant-loop-line
invariant-loop-line l =
    let text : Bor (List ℕ) → List ℕ = λ t. t.now in
    string_bytes l.named ++ flat_map (named_line l.name) (map text (drop l.line-index l.line-items)) ≡
    flat_map (named_line l.name) (map text l.line-items)
