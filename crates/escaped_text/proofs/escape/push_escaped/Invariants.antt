use Rattle.std.proofs.Common.{◌≡◌, ◌++◌, string_bytes, drop}
use Rattle.escaped_text.specs.Escaped.{escaped}
use Rattle.escaped_text.proofs.escape.push_escaped.Given as goal

-- the text so far, and then what is left as it is shown, is the whole
abbrev pub invariant-loop-byte : goal.invariant-loop-byte
invariant-loop-byte l = string_bytes l.out ++ escaped (drop l.byte-index l.byte-items) ≡ string_bytes l.initial.out ++ escaped l.text
