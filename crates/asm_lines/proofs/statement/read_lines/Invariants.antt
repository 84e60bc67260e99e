use Rattle.std.proofs.Common.{◌≡◌, ◌++◌, ℕ, List, Bor, drop, map}
use Rattle.asm_lines.specs.declared.statement.Statement.{Statement}
use Rattle.asm_lines.specs.Texts.{content}
use Rattle.asm_lines.specs.Statements.{statement_of}
use Rattle.asm_lines.proofs.statement.read_lines.Given as goal

-- what was read and what is left to read is the whole
abbrev pub invariant-loop-line : goal.invariant-loop-line
invariant-loop-line l =
    let says : Bor (List ℕ) → Statement = λ line. statement_of (content line.now) in
    l.all.items ++ map says (drop l.line-index l.lines) ≡ map says l.lines
