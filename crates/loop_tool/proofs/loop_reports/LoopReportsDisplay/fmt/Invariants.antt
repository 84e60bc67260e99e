use Rattle.std.proofs.Common.{take}
use Rattle.std.specs.Fmt.{HasWritten, IsPlainFormatter}
use Rattle.loop_tool.specs.Reports.{reports_text}
use Rattle.loop_tool.proofs.loop_reports.LoopReportsDisplay.fmt.Given as goal

abbrev pub invariant-loop-report : goal.invariant-loop-report
invariant-loop-report g l =
    IsPlainFormatter l.initial.f → HasWritten g.W.Write.write_str_gives l.initial.f (reports_text (take l.report-index l.report-items)) l.f
