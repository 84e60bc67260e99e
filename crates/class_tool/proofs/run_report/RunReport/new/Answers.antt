use Rattle.std.proofs.Common.{rules}
use Rattle.class_tool.proofs.run_report.RunReport.new.Goals as goal

-- turned by object_before_is_shown
pub returns : goal.returns
returns c = search rules
