use Rattle.std.proofs.Common.{◌≡◌, ◌++◌, drop}
use Rattle.std.specs.String.{string_bytes}
use Rattle.sim_world.specs.Texts.{again_lines}
use Rattle.sim_world.proofs.taken_text.again_lines.Given as goal

-- the lines so far and those of what is left
abbrev pub invariant-loop-number : goal.invariant-loop-number
invariant-loop-number l = string_bytes l.text ++ again_lines (drop l.number-index l.numbers) ≡ again_lines l.numbers
