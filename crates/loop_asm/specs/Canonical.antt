-- The canonical text of a class with loops: a budget's line stands after a method's first, and a head's line
-- before the instruction that stands at its slot.
use Rattle.std.specs.Prelude.{ℕ, ◌+◌, List, [], ◌∷◌, ◌++◌, Option, Some, None, codes}
use Rattle.std.specs.List.{flat_map}
use Rattle.bpf_decode.specs.declared.insn.Insn.{Insn}
use Rattle.bpf_decode.specs.Instruction.{slot_count}
use Rattle.bpf_decode.specs.Class.{ClassMethod, Class}
use Rattle.asm_lines.specs.Canonical.{line_of, directive_line, rules_text, slot_line}
use Rattle.loop_heads.specs.declared.place.HeadPlace.{HeadPlace}
use Rattle.loop_heads.specs.Loops.{PlainHead, PlainLoops, head_at}
use Rattle.loop_lines.specs.HeadText.{head_line, budget_line}

-- how an instruction's line is written, by its slot
abbrev pub Written : Type 0
Written = ℕ → Insn → List ℕ

-- alone, or with its slot in a comment
abbrev pub alone : Written
alone slot i = line_of i

abbrev pub with_slot : Written
with_slot slot i = slot_line slot i

-- the line of a head, if there is one
abbrev pub head_text : Option (List HeadPlace) → List ℕ
head_text None = []
head_text (Some places) = head_line places ++ codes "\n"

-- instructions, the first of them at that slot
abbrev pub code_text : Written → List PlainHead → ℕ → List Insn → List ℕ
code_text write heads slot [] = []
code_text write heads slot (i ∷ is) =
    head_text (head_at heads slot) ++ (write slot i ++ (codes "\n" ++ code_text write heads (slot + slot_count i) is))

-- a budget's line, if there are loops, and the code
abbrev pub looped_code : Written → Option PlainLoops → List Insn → List ℕ
looped_code write None is = code_text write [] 0 is
looped_code write (Some l) is = budget_line l.budget ++ (codes "\n" ++ code_text write l.heads 0 is)

-- a method with these loops
abbrev pub looped_method : Written → ClassMethod → Option PlainLoops → List ℕ
looped_method write m loops = directive_line m ++ (codes "\n" ++ looped_code write loops m.instructions)

-- a method with the loops that it declares
abbrev pub method_text : Written → ClassMethod → List ℕ
method_text write m = looped_method write m m.loops

-- the text of a class
abbrev pub class_text : Written → Class → List ℕ
class_text write c = rules_text c.rules ++ flat_map (method_text write) c.methods
