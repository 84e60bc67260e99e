use Rattle.std.proofs.Common.{◌∙◌, refl, rules, FitsSigned, w64}
use Rattle.std.proofs.lemmas.Int.{to_z-of_z}
use Rattle.class_tool.proofs.Reported.{reports_beside}
use Rattle.class_tool.proofs.run.report_beside.Goals as goal

pub returns : goal.returns
returns c =
    let fits : FitsSigned w64 c.args.outcome.now.code = search rules in
    let made = simp to_z-of_z at c.new.ensures in
    reports_beside c.args.asked.now.is_shown c.args.outcome.now (record { code = c.args.outcome.now.code; output = c.in_ok-from_slice.field-0 }) c.new.result
    (refl, c.in_ok-from_slice.ensures.items ∙ c.deref.ensures.value) made
