use Rattle.std.proofs.Common.{◌≡◌, ◌++◌, drop, map}
use Rattle.loop_asm.specs.Answers.{contents}
use Rattle.loop_asm.specs.Reading.{other}
use Rattle.loop_asm.proofs.line.others.Given as goal

-- what was read and what is left to read is the whole
abbrev pub invariant-loop-text : goal.invariant-loop-text
invariant-loop-text l = l.all.items ++ map other (contents (drop l.text-index l.texts)) ≡ map other (contents l.texts)
