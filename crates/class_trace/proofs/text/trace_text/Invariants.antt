use Rattle.std.proofs.Common.{◌≡◌, ◌++◌, string_bytes, drop}
use Rattle.class_trace.specs.Trace.{trace_text}
use Rattle.class_trace.proofs.text.trace_text.Given as goal

-- the text so far and that of what is left is the whole
abbrev pub invariant-loop-line : goal.invariant-loop-line
invariant-loop-line l = string_bytes l.text ++ trace_text (drop l.line-index l.lines) ≡ trace_text l.lines
