use Rattle.std.proofs.Common.{map, take, Bor, List, ℕ}
use Rattle.loop_tool.specs.Reports.{AreReportsOf}
use Rattle.loop_tool.proofs.loop_reports.verify_files_by_loops.Given as goal

-- a report of each file so far
abbrev pub invariant-loop-name : goal.invariant-loop-name
invariant-loop-name g l =
    let text : Bor (List ℕ) → List ℕ = λ n. n.now in
    AreReportsOf (g.F.ReadableFiles.disk l.files) l.asked (map text (take l.name-index l.name-items)) l.reports.items
