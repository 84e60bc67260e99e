use Rattle.std.proofs.Common.{inl, inr}
use Rattle.std.proofs.lemmas.Result.{IfOk-weaker}
use Rattle.class_reports.proofs.file_report.each_report.Goals as goal

pub returns-in-Ok : goal.returns-in-Ok
returns-in-Ok g c =
    IfOk-weaker c.verdicts_report.result _ _ (λ r h. inl (c.in-Ok.verdicts, c.in-Ok.ensures.ok, h.0, h.1)) c.verdicts_report.ensures

pub returns-in-Err : goal.returns-in-Err
returns-in-Err g c =
    IfOk-weaker c.failure_report.result _ _ (λ r h. inr (c.in-Err.failed.failure, c.in-Err.ensures.err, h.0, h.1)) c.failure_report.ensures
