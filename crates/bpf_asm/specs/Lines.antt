-- What a line says, and the lines of a text: nothing, a label, a `.rules`, a `.method`, an
-- instruction, or why it is none of its form.
use Rattle.std.specs.Prelude.{◌≡◌, ℕ, ◌≤◌, List, [], ◌∷◌, length, Ok, Err}
use Rattle.std.specs.List.{join_with_byte}
use Rattle.asm_lines.specs.declared.statement.Statement.{Statement}
use Rattle.asm_lines.specs.declared.statement.Statement.TheVariants as statements
use Rattle.bpf_asm.specs.Syntax.{Without, HasContent, IsInstructionText, IsRulesText, IsDirectiveText}
use Rattle.bpf_asm.specs.Shapes.{IsLabelText, IsFaultyRules, IsFaultyDirective, IsFaultyInstruction}

-- what a line says whose content that is
abbrev pub IsStatementText : List ℕ → Statement → Type 0
IsStatementText text statements.Empty = text ≡ []
IsStatementText text (statements.Label name) = IsLabelText text name
IsStatementText text (statements.Rules (Ok rules)) = IsRulesText text rules
IsStatementText text (statements.Rules (Err fault)) = IsFaultyRules text fault
IsStatementText text (statements.Directive (Ok header)) = IsDirectiveText text header
IsStatementText text (statements.Directive (Err fault)) = IsFaultyDirective text fault
IsStatementText text (statements.Instruction (Ok draft)) = IsInstructionText text draft
IsStatementText text (statements.Instruction (Err fault)) = IsFaultyInstruction text fault

-- a line by its content
pub record IsLine (line : List ℕ) (statement : Statement) : Type 0 where
  pub content : List ℕ
  pub has_content : HasContent line content
  pub says : IsStatementText content statement

-- each line says a statement, and none has a line feed
abbrev pub AreLines : List (List ℕ) → List Statement → Type 0
AreLines [] [] = Unit {0}
AreLines [] (s ∷ ss) = ⊥
AreLines (line ∷ lines) [] = ⊥
AreLines (line ∷ lines) (s ∷ ss) = Without 10 line × IsLine line s × AreLines lines ss

-- the lines of a text, with line feeds between them: the last may be empty
pub record TextSays (text : List ℕ) (statements : List Statement) : Type 0 where
  pub lines : List (List ℕ)
  pub joined : text ≡ join_with_byte 10 lines
  pub some : 1 ≤ length lines
  pub are_lines : AreLines lines statements
