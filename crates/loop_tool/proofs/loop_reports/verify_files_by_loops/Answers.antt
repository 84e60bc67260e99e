use Rattle.std.proofs.Common.{rules, Bor, List, ℕ}
use Rattle.loop_tool.proofs.Told.{next_told}
use Rattle.loop_tool.proofs.loop_reports.verify_files_by_loops.Goals as goal

pub loop-name-preserved : goal.loop-name-preserved
loop-name-preserved g c =
    let told = next_told (g.F.ReadableFiles.disk c.args.files.now) c.args.asked.now (λ (n : Bor (List ℕ)). n.now) c.deref-name-items.result.now c.loop-name.name-index _ c.loop-name.reports.items
    c.in_ok-report.report (search rules) c.loop-name.invariant c.in_ok-report.ensures in
    search rules
