use Rattle.std.proofs.Common.{◌≡◌, ◌++◌, ℕ, List, Bor, drop, map}
use Rattle.asm_lines.specs.Texts.{content}
use Rattle.loop_asm.specs.Answers.{contents}
use Rattle.loop_asm.proofs.line.contents.Given as goal

-- what was read and what is left to read is the whole
abbrev pub invariant-loop-line : goal.invariant-loop-line
invariant-loop-line l =
    let says : Bor (List ℕ) → List ℕ = λ line. content line.now in
    contents l.texts.items ++ map says (drop l.line-index l.lines) ≡ map says l.lines
