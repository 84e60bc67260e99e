use Rattle.std.proofs.Common.{inl, inr}
use Rattle.std.proofs.lemmas.Result.{IfOk-weaker}
use Rattle.loop_tool.proofs.loop_report.plain_report.Goals as goal

pub returns-in-Ok : goal.returns-in-Ok
returns-in-Ok g c =
    IfOk-weaker c.safe_report.result _ _ (λ r h. inl (c.in-Ok.class, c.in-Ok.ensures.safe, h.0, h.1)) c.safe_report.ensures

pub returns-in-Err : goal.returns-in-Err
returns-in-Err g c =
    IfOk-weaker c.failure_report.result _ _ (λ r h. inr (c.in-Err.failed.failure, c.in-Err.ensures.fails, h.0, h.1)) c.failure_report.ensures
