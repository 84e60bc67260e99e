use Rattle.std.proofs.Common.{refl}
use Rattle.loop_tool.proofs.loop_report.loop_report.Goals as goal

-- turned by each_file_is_accepted
pub returns : goal.returns
returns g c =
    (c.in_ok-plain.plain, c.in_ok-plain.ensures, refl, rw c.is_named.ensures at c.in_ok-text.ensures)
