-- Laws of the texts.
use Rattle.std.specs.Prelude.{◌≡◌, ℕ, ◌≤◌, List, None, Ok}
use Rattle.std.specs.List.{AllByRecursion}
use Rattle.bpf_decode.specs.declared.insn.Insn.{Insn}
use Rattle.bpf_decode.specs.Instruction.{AllFit, slot_total}
use Rattle.asm_lines.specs.Canonical.{canonical_text, class_text, class_with_slots}
use Rattle.bpf_asm.specs.Grammar.{IsMethodText, IsClassText}
use Rattle.asm_lines.specs.declared.statement.Statement.{Statement}
use Rattle.bpf_asm.specs.Lines.{TextSays}
use Rattle.bpf_asm.specs.Bodies.{read_text}
use Rattle.bpf_asm.specs.Classes.{read_class_text}
use Rattle.bpf_decode.specs.Class.{ClassMethod, Class, IsClass, AreWithinSet}
use Rattle.bpf_decode.specs.declared.limits.TheConstants.{SLOT_LIMIT}

-- the canonical text of instructions is read as those instructions
abbrev pub TextsGiveBack : Type 0
TextsGiveBack = (is : List Insn) → AllFit is → 1 ≤ slot_total is → slot_total is ≤ SLOT_LIMIT →
    read_text (canonical_text is) ≡ Ok is

-- and is in the grammar
abbrev pub TextsAreInGrammar : Type 0
TextsAreInGrammar =
    (is : List Insn) → AllFit is → 1 ≤ slot_total is → slot_total is ≤ SLOT_LIMIT → IsMethodText (canonical_text is) is

-- methods without loops, which no text of this crate says
abbrev pub HaveNoLoops : List ClassMethod → Type 0
HaveNoLoops ms = AllByRecursion (λ m. m.loops ≡ None) ms

-- the canonical text of a class without loops is read as that class
abbrev pub ClassTextsGiveBack : Type 0
ClassTextsGiveBack =
    (c : Class) → IsClass c.methods → AreWithinSet c.rules c.methods → HaveNoLoops c.methods →
    read_class_text (class_text c) ≡ Ok c

-- and is in the grammar
abbrev pub ClassTextsAreInGrammar : Type 0
ClassTextsAreInGrammar =
    (c : Class) → IsClass c.methods → AreWithinSet c.rules c.methods → HaveNoLoops c.methods →
    IsClassText (class_text c) c

-- the text of a class without loops, with slots, is read as that class
abbrev pub SlotTextsGiveBack : Type 0
SlotTextsGiveBack =
    (c : Class) → IsClass c.methods → AreWithinSet c.rules c.methods → HaveNoLoops c.methods →
    read_class_text (class_with_slots c) ≡ Ok c

-- and is in the grammar
abbrev pub SlotTextsAreInGrammar : Type 0
SlotTextsAreInGrammar =
    (c : Class) → IsClass c.methods → AreWithinSet c.rules c.methods → HaveNoLoops c.methods →
    IsClassText (class_with_slots c) c

-- Each text says one list of lines, and only one.
pub record SaysOnce (text : List ℕ) : Type 0 where
  pub lines : List Statement
  pub say : TextSays text lines
  pub one : (others : List Statement) → TextSays text others → others ≡ lines

-- that is so of every text
abbrev pub TextsSayLines : Type 0
TextsSayLines = (text : List ℕ) → SaysOnce text
