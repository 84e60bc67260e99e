use Rattle.std.proofs.Common.{◌≡◌, drop}
use Rattle.loop_tool.specs.Reports.{all_accepted}
use Rattle.loop_tool.proofs.loop_reports.LoopReports.are_accepted.Given as goal

-- those that are left decide
abbrev pub invariant-loop-report : goal.invariant-loop-report
invariant-loop-report l = all_accepted (drop l.report-index l.report-items) ≡ all_accepted l.report-items
