use Rattle.std.proofs.Common.{◌≡◌, ◌++◌, string_bytes, take}
use Rattle.loop_lines.specs.HeadText.{more_text}
use Rattle.loop_lines.proofs.print.push_more.Given as goal

abbrev pub invariant-loop-place : goal.invariant-loop-place
invariant-loop-place l = string_bytes l.out ≡ string_bytes l.initial.out ++ more_text (take l.place-index l.places)
