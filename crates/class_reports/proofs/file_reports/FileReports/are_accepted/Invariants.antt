use Rattle.std.proofs.Common.{◌≡◌, drop}
use Rattle.class_reports.specs.Reports.{all_accepted}
use Rattle.class_reports.proofs.file_reports.FileReports.are_accepted.Given as goal

-- those that are left decide
abbrev pub invariant-loop-report : goal.invariant-loop-report
invariant-loop-report l = all_accepted (drop l.report-index l.report-items) ≡ all_accepted l.report-items
