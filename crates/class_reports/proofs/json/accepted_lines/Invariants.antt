use Rattle.std.proofs.Common.{◌≡◌, ◌++◌, string_bytes, drop}
use Rattle.class_reports.specs.Json.{accepted_lines}
use Rattle.class_reports.proofs.json.accepted_lines.Given as goal

-- the text so far and that of what is left is the whole
abbrev pub invariant-loop-method : goal.invariant-loop-method
invariant-loop-method l =
    string_bytes l.lines ++ accepted_lines l.file (drop l.method-index l.method-items) ≡ accepted_lines l.file l.method-items
