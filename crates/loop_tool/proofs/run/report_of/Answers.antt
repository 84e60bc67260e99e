use Rattle.std.proofs.Common.{◌≡◌, ◌∙◌, ap, sym, string_bytes, rules}
use Rattle.class_tool.specs.declared.run_report.RunReport.{RunReport}
use Rattle.loop_tool.proofs.Called.{untraced}
use Rattle.loop_tool.proofs.run.report_of.Goals as goal

pub returns : goal.returns
returns c =
    let report = c.in_ok-report.report in
    let e = c.with_trace.ensures in
    let same : c.with_trace.result ≡ record report { traced = c.with_trace.result.traced } = e ∙ ap (λ t. record report { traced = t }) (sym (ap (λ (r : RunReport). r.traced) e)) in
    untraced c.args.asked.now.is_shown c.args.outcome.now report c.with_trace.result same (ap (λ (r : RunReport). string_bytes r.traced) e ∙ search rules) c.in_ok-report.ensures
