use Rattle.std.proofs.Common.{inr}
use Rattle.class_tool.proofs.run.run_and_save.Goals as goal

pub returns-in-Err-clause-err : goal.returns-in-Err-clause-err
returns-in-Err-clause-err g c = inr (record { report = c.in_ok-report.report; made = c.in_ok-report.ensures.ok; unsaved = rw c.from.ensures c.in-Err.ensures.err })
