-- Why a line is none of its form: the shape of a word's operands whatever their numbers, and what
-- tells 1 Word, 2 Operand and 3 Range apart.
use Rattle.std.specs.Prelude.{◌≡◌, ◌⊎◌, ℕ, ℤ, ◌≤◌, true, List, [], ◌++◌, length, codes}
use Rattle.bpf_decode.specs.Limits.{is_method_name}
use Rattle.bpf_decode.specs.declared.rule_set.RuleSet.{RuleSet}
use Rattle.asm_lines.specs.declared.draft.Draft.{Draft}
use Rattle.asm_lines.specs.declared.fault.AsmFault.{AsmFault}
use Rattle.asm_lines.specs.declared.fault.AsmFault.TheVariants as faults
use Rattle.asm_lines.specs.declared.form.Form.{Form}
use Rattle.asm_lines.specs.declared.form.Form.TheVariants.{Alu, Neg, Mov, MovSigned, End, LoadWide, Load, LoadSigned}
use Rattle.asm_lines.specs.declared.form.Form.TheVariants.{StoreNumber, StoreRegister, Jump, JumpLong, Branch, Call}
use Rattle.asm_lines.specs.declared.form.Form.TheVariants.{Exit}
use Rattle.asm_lines.specs.Headers.{MethodHeader}
use Rattle.asm_lines.specs.Texts.{is_label_name}
use Rattle.asm_lines.specs.Words.{word_of}
use Rattle.bpf_asm.specs.Syntax.{HasWord, IsDecimal, IsInteger, IsSigned, One, Two, Three, AreFlags, IsDraftText}
use Rattle.bpf_asm.specs.Syntax.{IsRuleSet, IsDirectiveText}

-- ---- operands, whatever their numbers

-- `r` and any number
pub record AnyRegister (text : List ℕ) : Type 0 where
  pub number : List ℕ
  pub value : ℕ
  pub whole : text ≡ codes "r" ++ number
  pub decimal : IsDecimal number value

-- any number, with `-` before a negative one
abbrev pub AnyNumber : List ℕ → Type 0
AnyNumber text = (z : ℤ) × IsInteger text z

-- any number with its sign
abbrev pub AnySigned : List ℕ → Type 0
AnySigned text = (z : ℤ) × IsSigned text z

-- any register or any number
abbrev pub AnySource : List ℕ → Type 0
AnySource text = AnyRegister text ⊎ AnyNumber text

-- a register in brackets, with any offset or none
pub record AnyPlace (text : List ℕ) : Type 0 where
  pub base : List ℕ
  pub offset : List ℕ
  pub whole : text ≡ codes "[" ++ (base ++ (offset ++ codes "]"))
  pub is_base : AnyRegister base
  pub is_offset : AnySigned offset ⊎ (offset ≡ [])

-- a label's name, or any distance
abbrev pub AnyTarget : List ℕ → Type 0
AnyTarget text = (is_label_name text ≡ true) ⊎ AnySigned text

-- `local` and any target
pub record AnyLocal (text : List ℕ) : Type 0 where
  pub rest : List ℕ
  pub word : HasWord text (codes "local") rest
  pub is_target : AnyTarget rest

-- what a call may have: `local` and a target, or a helper's number
abbrev pub AnyCall : List ℕ → Type 0
AnyCall text = AnyLocal text ⊎ AnyNumber text

-- one, two and three of them, with commas between them
abbrev pub OfOne : (List ℕ → Type 0) → List ℕ → Type 0
OfOne Any rest = One {A = Unit {0}} (λ text _. Any text) rest tt

abbrev pub OfTwo : (List ℕ → Type 0) → (List ℕ → Type 0) → List ℕ → Type 0
OfTwo Left Right rest = Two {A = Unit {0}} {B = Unit {0}} (λ text _. Left text) (λ text _. Right text) rest tt tt

abbrev pub OfThree : (List ℕ → Type 0) → (List ℕ → Type 0) → (List ℕ → Type 0) → List ℕ → Type 0
OfThree Left Middle Right rest = Three {A = Unit {0}} {B = Unit {0}} {C = Unit {0}} (λ text _. Left text)
    (λ text _. Middle text) (λ text _. Right text) rest tt tt tt

-- the operands of a form
abbrev pub AnyOperands : Form → List ℕ → Type 0
AnyOperands (Alu bits operation) rest = OfTwo AnyRegister AnySource rest
AnyOperands (Neg bits) rest = OfOne AnyRegister rest
AnyOperands (Mov bits) rest = OfTwo AnyRegister AnySource rest
AnyOperands (MovSigned extension) rest = OfTwo AnyRegister AnyRegister rest
AnyOperands (End order width) rest = OfOne AnyRegister rest
AnyOperands LoadWide rest = OfTwo AnyRegister AnyNumber rest
AnyOperands (Load width) rest = OfTwo AnyRegister AnyPlace rest
AnyOperands (LoadSigned width) rest = OfTwo AnyRegister AnyPlace rest
AnyOperands (StoreNumber width) rest = OfTwo AnyPlace AnyNumber rest
AnyOperands (StoreRegister width) rest = OfTwo AnyPlace AnyRegister rest
AnyOperands Jump rest = OfOne AnyTarget rest
AnyOperands JumpLong rest = OfOne AnyTarget rest
AnyOperands (Branch bits comparison) rest = OfThree AnyRegister AnySource AnyTarget rest
AnyOperands Call rest = OfOne AnyCall rest
AnyOperands Exit rest = rest ≡ []

-- ---- lines that are none of their form

-- a word's operands that are not of its form
pub record AreMisshapen (word rest : List ℕ) : Type 0 where
  pub form : Form
  pub is_word : word ≡ word_of form
  pub other : ¬ AnyOperands form rest

-- operands of the form, but of no instruction: a number is out of its range
pub record AreOutOfRange (word rest : List ℕ) : Type 0 where
  pub form : Form
  pub is_word : word ≡ word_of form
  pub shaped : AnyOperands form rest
  pub none : (draft : Draft) → ¬ IsDraftText draft word rest

-- 1 Word: a word of no form; 2 Operand: operands that are not of the form; 3 Range: a number out of
-- its range
abbrev pub InstructionFault : List ℕ → List ℕ → AsmFault → Type 0
InstructionFault word rest faults.Word = (form : Form) → ¬ (word ≡ word_of form)
InstructionFault word rest faults.Operand = AreMisshapen word rest
InstructionFault word rest faults.Range = AreOutOfRange word rest
InstructionFault word rest faults.Label = ⊥
InstructionFault word rest faults.NoMemory = ⊥

-- a label's name and a colon
abbrev pub IsLabelText : List ℕ → List ℕ → Type 0
IsLabelText text name = (text ≡ name ++ codes ":") × (is_label_name name ≡ true)

-- a line that is neither empty nor a label nor a `.rules` nor a `.method`, and no instruction
pub record IsFaultyInstruction (text : List ℕ) (fault : AsmFault) : Type 0 where
  pub word : List ℕ
  pub rest : List ℕ
  pub parts : HasWord text word rest
  pub some : 1 ≤ length text
  pub no_label : (name : List ℕ) → ¬ IsLabelText text name
  pub no_rules : ¬ (word ≡ codes ".rules")
  pub no_method : ¬ (word ≡ codes ".method")
  pub faulty : InstructionFault word rest fault

-- 2 Operand: what stands after `.rules` is the number of no rule set
pub record IsFaultyRules (text : List ℕ) (fault : AsmFault) : Type 0 where
  pub rest : List ℕ
  pub word : HasWord text (codes ".rules") rest
  pub other : (rules : RuleSet) → ¬ IsRuleSet rest rules
  pub is_fault : fault ≡ faults.Operand

-- `.method`, a name, flags and two numbers, whatever they are
pub record AnyDirective (text : List ℕ) : Type 0 where
  pub behind_name : List ℕ
  pub name : List ℕ
  pub flags_text : List ℕ
  pub flags : ℕ
  pub caps : List ℕ
  pub in_cap : List ℕ
  pub out_cap : List ℕ
  pub name_word : HasWord text name behind_name
  pub is_name : is_method_name name ≡ true
  pub flags_word : HasWord behind_name flags_text caps
  pub are_flags : AreFlags flags_text flags
  pub in_cap_word : HasWord caps in_cap out_cap
  pub is_in_cap : AnyNumber in_cap
  pub is_out_cap : AnyNumber out_cap

-- 2 Operand: what stands after `.method` is not of its form; 3 Range: a number is out of its range
abbrev pub DirectiveFault : List ℕ → List ℕ → AsmFault → Type 0
DirectiveFault text rest faults.Word = ⊥
DirectiveFault text rest faults.Operand = ¬ AnyDirective rest
DirectiveFault text rest faults.Range = AnyDirective rest × ((header : MethodHeader) → ¬ IsDirectiveText text header)
DirectiveFault text rest faults.Label = ⊥
DirectiveFault text rest faults.NoMemory = ⊥

-- a `.method` line with such a fault
pub record IsFaultyDirective (text : List ℕ) (fault : AsmFault) : Type 0 where
  pub rest : List ℕ
  pub word : HasWord text (codes ".method") rest
  pub faulty : DirectiveFault text rest fault
