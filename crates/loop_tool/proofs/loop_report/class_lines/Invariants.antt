use Rattle.std.proofs.Common.{◌≡◌, ◌++◌, string_bytes, drop}
use Rattle.std.specs.List.{flat_map}
use Rattle.loop_tool.specs.Reports.{method_line}
use Rattle.loop_tool.proofs.loop_report.class_lines.Given as goal

-- the text so far and that of what is left is the whole
abbrev pub invariant-loop-method : goal.invariant-loop-method
invariant-loop-method l =
    string_bytes l.lines ++ flat_map method_line (drop l.method-index l.method-items) ≡ flat_map method_line l.method-items
