use Rattle.std.proofs.Common.{◌≡◌, ◌++◌, drop}
use Rattle.std.specs.String.{string_bytes}
use Rattle.sim_world.specs.inner.Parts.{kept_lines}
use Rattle.sim_world.proofs.text.kept_lines.Given as goal

-- the lines so far and those of what is left
abbrev pub invariant-loop-kept : goal.invariant-loop-kept
invariant-loop-kept l = string_bytes l.text ++ kept_lines l.next (drop l.kept-index l.messages) ≡ kept_lines l.number l.messages
