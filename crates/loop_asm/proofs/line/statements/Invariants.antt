use Rattle.std.proofs.Common.{◌≡◌, ◌++◌, drop, map}
use Rattle.asm_lines.specs.Statements.{statement_of}
use Rattle.loop_asm.specs.Answers.{contents}
use Rattle.loop_asm.proofs.line.statements.Given as goal

-- what was read and what is left to read is the whole
abbrev pub invariant-loop-text : goal.invariant-loop-text
invariant-loop-text l =
    l.all.items ++ map statement_of (contents (drop l.text-index l.texts)) ≡ map statement_of (contents l.texts)
