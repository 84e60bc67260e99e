-- The one text of a method's instructions, and of a class.
use Rattle.std.specs.Prelude.{ℕ, ℤ, pos, negsuc, ◌+◌, ◌/◌, ◌%◌, suc, zero, List, [], ◌∷◌, ◌++◌, ◌==◌, if◌then◌else◌}
use Rattle.std.specs.Prelude.{codes}
use Rattle.std.specs.List.{flat_map}
use Rattle.std.specs.Fmt.{decimal, signed_decimal}
use Rattle.std.specs.Char.{digit_char}
use Rattle.bpf_decode.specs.declared.insn.Operand.{Operand}
use Rattle.bpf_decode.specs.declared.insn.Operand.TheVariants.{Immediate, Register}
use Rattle.bpf_decode.specs.declared.insn.Insn.{Insn}
use Rattle.bpf_decode.specs.declared.insn.Insn.TheVariants.{Alu, Neg, Mov, MovSigned, End, LoadWide, Load, LoadSigned}
use Rattle.bpf_decode.specs.declared.insn.Insn.TheVariants.{Store, Jump, JumpLong, Branch, Call, CallLocal, Exit}
use Rattle.bpf_decode.specs.declared.rule_set.RuleSet.{RuleSet}
use Rattle.bpf_decode.specs.declared.rule_set.RuleSet.TheVariants.{One, Two, Three}
use Rattle.bpf_decode.specs.Class.{ClassMethod, Class}
use Rattle.bpf_decode.specs.Instruction.{slot_count}
use Rattle.asm_lines.specs.declared.form.Form.TheVariants as forms
use Rattle.asm_lines.specs.Words.{word_of}

-- a register: `r` and its number
abbrev pub register_text : ℕ → List ℕ
register_text number = codes "r" ++ decimal number

-- the source of an instruction: a number, with `-` before a negative one, or a register
abbrev pub source_text : Operand → List ℕ
source_text (Immediate imm) = signed_decimal imm
source_text (Register src) = register_text src

-- an offset or a distance: always with its sign
abbrev pub offset_text : ℤ → List ℕ
offset_text (pos n) = codes "+" ++ decimal n
offset_text (negsuc n) = codes "-" ++ decimal (suc n)

-- a place in memory: a register and an offset in brackets
abbrev pub memory_text : ℕ → ℤ → List ℕ
memory_text base offset = codes "[" ++ register_text base ++ offset_text offset ++ codes "]"

-- the low digits of a number to base 16, in lower case
unfoldable pub hex_digits : ℕ → ℕ → List ℕ
hex_digits zero n = []
hex_digits (suc count) n = hex_digits count (n / 16) ++ (digit_char (n % 16) ∷ [])

-- the number of a wide load: `0x` and 16 digits
abbrev pub wide_text : ℕ → List ℕ
wide_text n = codes "0x" ++ hex_digits 16 n

-- a word and its operands: one space after the word and after each comma
abbrev pub with_one : List ℕ → List ℕ → List ℕ
with_one word a = word ++ codes " " ++ a

abbrev pub with_two : List ℕ → List ℕ → List ℕ → List ℕ
with_two word a b = word ++ codes " " ++ a ++ codes ", " ++ b

abbrev pub with_three : List ℕ → List ℕ → List ℕ → List ℕ → List ℕ
with_three word a b c = word ++ codes " " ++ a ++ codes ", " ++ b ++ codes ", " ++ c

-- an instruction's line, without its end
abbrev pub line_of : Insn → List ℕ
line_of (Alu bits operation dst source) =
    with_two (word_of (forms.Alu bits operation)) (register_text dst) (source_text source)
line_of (Neg bits dst) = with_one (word_of (forms.Neg bits)) (register_text dst)
line_of (Mov bits dst source) = with_two (word_of (forms.Mov bits)) (register_text dst) (source_text source)
line_of (MovSigned extension dst src) =
    with_two (word_of (forms.MovSigned extension)) (register_text dst) (register_text src)
line_of (End order width dst) = with_one (word_of (forms.End order width)) (register_text dst)
line_of (LoadWide dst value) = with_two (word_of forms.LoadWide) (register_text dst) (wide_text value)
line_of (Load width dst base offset) =
    with_two (word_of (forms.Load width)) (register_text dst) (memory_text base offset)
line_of (LoadSigned width dst base offset) =
    with_two (word_of (forms.LoadSigned width)) (register_text dst) (memory_text base offset)
line_of (Store width base offset (Immediate imm)) =
    with_two (word_of (forms.StoreNumber width)) (memory_text base offset) (signed_decimal imm)
line_of (Store width base offset (Register src)) =
    with_two (word_of (forms.StoreRegister width)) (memory_text base offset) (register_text src)
line_of (Jump offset) = with_one (word_of forms.Jump) (offset_text offset)
line_of (JumpLong distance) = with_one (word_of forms.JumpLong) (offset_text distance)
line_of (Branch bits comparison dst source offset) =
    with_three (word_of (forms.Branch bits comparison)) (register_text dst) (source_text source) (offset_text offset)
line_of (Call helper) = with_one (word_of forms.Call) (decimal helper)
line_of (CallLocal distance) = with_one (word_of forms.Call) (codes "local " ++ offset_text distance)
line_of Exit = word_of forms.Exit

-- the text of instructions: a line each, with a line feed at its end
abbrev pub canonical_text : List Insn → List ℕ
canonical_text insns = flat_map (λ i. line_of i ++ codes "\n") insns

-- a method's flags: 1 reads, 2 writes, 3 both
abbrev pub flags_text : ℕ → List ℕ
flags_text flags = if flags == 1 then codes "r" else (if flags == 2 then codes "w" else codes "rw")

-- the line that begins a method, without its end: its name, flags and capacities
abbrev pub directive_line : ClassMethod → List ℕ
directive_line m = codes ".method " ++ m.name ++ codes " " ++ flags_text m.flags ++ codes " " ++ decimal m.in_cap ++
    codes " " ++ decimal m.out_cap

-- a method: its first line, and its instructions
abbrev pub method_text : ClassMethod → List ℕ
method_text m = directive_line m ++ codes "\n" ++ canonical_text m.instructions

-- methods, one after the other
abbrev pub methods_text : List ClassMethod → List ℕ
methods_text ms = flat_map method_text ms

-- the line of a rule set, with its end: rule set 1 has none
abbrev pub rules_text : RuleSet → List ℕ
rules_text One = []
rules_text Two = codes ".rules 2\n"
rules_text Three = codes ".rules 3\n"

-- the text of a class: its rule set, and its methods
abbrev pub class_text : Class → List ℕ
class_text c = rules_text c.rules ++ methods_text c.methods

-- ---- the same with each instruction's slot in a comment

-- an instruction's line and its slot, without its end
abbrev pub slot_line : ℕ → Insn → List ℕ
slot_line slot i = line_of i ++ codes " ; slot " ++ decimal slot

-- instructions, the first of them at that slot
abbrev pub code_with_slots : ℕ → List Insn → List ℕ
code_with_slots slot [] = []
code_with_slots slot (i ∷ is) = slot_line slot i ++ codes "\n" ++ code_with_slots (slot + slot_count i) is

-- a method's slots begin at 0
abbrev pub method_with_slots : ClassMethod → List ℕ
method_with_slots m = directive_line m ++ codes "\n" ++ code_with_slots 0 m.instructions

-- the same of methods, and of a class:
abbrev pub methods_with_slots : List ClassMethod → List ℕ
methods_with_slots ms = flat_map method_with_slots ms

abbrev pub class_with_slots : Class → List ℕ
class_with_slots c = rules_text c.rules ++ methods_with_slots c.methods
