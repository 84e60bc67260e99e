-- What a line is made of, as relations: its comment and blanks, its words, its operands and their
-- numbers.
use Rattle.std.specs.Prelude.{◌≡◌, ◌⊎◌, ℕ, ℤ, pos, negsuc, ◌==◌, ◌||◌, ◌≤◌, ◌-◌, not, suc, true, false, List, [], ◌∷◌}
use Rattle.std.specs.Prelude.{◌++◌, length, slice_index, FitsSigned, codes}
use Rattle.std.specs.List.{list_all}
use Rattle.std.specs.Int.{w16, w32}
use Rattle.std.specs.Str.Parse.{digits_value}
use Rattle.bpf_decode.specs.declared.insn.Operand.{Operand}
use Rattle.bpf_decode.specs.declared.insn.Operand.TheVariants.{Immediate, Register}
use Rattle.bpf_decode.specs.declared.insn.Insn.{Insn}
use Rattle.bpf_decode.specs.declared.insn.Insn.TheVariants as insns
use Rattle.asm_lines.specs.declared.form.Form.TheVariants as forms
use Rattle.asm_lines.specs.declared.target.Target.{Target}
use Rattle.asm_lines.specs.declared.target.Target.TheVariants.{Slots, Label}
use Rattle.asm_lines.specs.declared.draft.Draft.{Draft}
use Rattle.asm_lines.specs.declared.draft.Draft.TheVariants as drafts
use Rattle.asm_lines.specs.Texts.{is_blank, is_label_name}
use Rattle.text_digits.specs.Digits.{all_digits}
use Rattle.asm_lines.specs.Words.{word_of}
use Rattle.bpf_decode.specs.declared.rule_set.RuleSet.{RuleSet}
use Rattle.bpf_decode.specs.declared.rule_set.RuleSet.TheVariants as rule_sets
use Rattle.asm_lines.specs.Canonical.{flags_text}
use Rattle.asm_lines.specs.Headers.{MethodHeader}
use Rattle.bpf_decode.specs.Limits.{is_method_name}
use Rattle.bpf_decode.specs.declared.limits.TheConstants.{CAPACITY_LIMIT}

-- ---- how a line is cut

-- a text of blanks alone, one without blanks, and one without a byte:
abbrev pub AreBlanks : List ℕ → Type 0
AreBlanks text = list_all is_blank text ≡ true

abbrev pub NoBlanks : List ℕ → Type 0
NoBlanks text = list_all (λ c. not (is_blank c)) text ≡ true

abbrev pub Without : ℕ → List ℕ → Type 0
Without byte text = list_all (λ c. not (c == byte)) text ≡ true

-- a text that neither begins nor ends with a blank
abbrev pub IsSolid : List ℕ → Type 0
IsSolid text = (is_blank (slice_index text 0) ≡ false) × (is_blank (slice_index text (length text - 1)) ≡ false)

-- a text with blanks around it, or none
pub record IsPadded (text inner : List ℕ) : Type 0 where
  pub before : List ℕ
  pub after : List ℕ
  pub whole : text ≡ before ++ (inner ++ after)
  pub blank_before : AreBlanks before
  pub blank_after : AreBlanks after
  pub solid : IsSolid inner

-- nothing, or a `;` and all after it
abbrev pub IsComment : List ℕ → Type 0
IsComment [] = Unit {0}
IsComment (c ∷ cs) = c ≡ 59

-- what stands on a line, without its comment
pub record HasContent (line inner : List ℕ) : Type 0 where
  pub text : List ℕ
  pub comment : List ℕ
  pub whole : line ≡ text ++ comment
  pub is_comment : IsComment comment
  pub without : Without 59 text
  pub padded : IsPadded text inner

-- a word, blanks, and what stands after them: nothing, or what the blanks part from the word
pub record HasWord (text word rest : List ℕ) : Type 0 where
  pub gap : List ℕ
  pub whole : text ≡ word ++ (gap ++ rest)
  pub word_solid : NoBlanks word
  pub blanks : AreBlanks gap
  pub rest_solid : is_blank (slice_index rest 0) ≡ false
  pub parted : (1 ≤ length gap) ⊎ (rest ≡ [])

-- ---- numbers

-- decimal digits without a leading zero
pub record IsDecimal (text : List ℕ) (n : ℕ) : Type 0 where
  pub digits : all_digits 10 text ≡ true
  pub lead : (length text == 1 || not (slice_index text 0 == 48)) ≡ true
  pub value : digits_value 10 text ≡ n

-- `0x` and 1 to 16 digits to base 16, of either case
pub record IsHexadecimal (text : List ℕ) (n : ℕ) : Type 0 where
  pub hex : List ℕ
  pub whole : text ≡ codes "0x" ++ hex
  pub digits : all_digits 16 hex ≡ true
  pub most : length hex ≤ 16
  pub value : digits_value 16 hex ≡ n

-- a number without a sign
abbrev pub IsNatural : List ℕ → ℕ → Type 0
IsNatural text n = IsDecimal text n ⊎ IsHexadecimal text n

-- one byte and a number after it
pub record IsBehind (byte : ℕ) (text : List ℕ) (n : ℕ) : Type 0 where
  pub number : List ℕ
  pub whole : text ≡ byte ∷ number
  pub natural : IsNatural number n

-- `-` stands before a negative number alone
abbrev pub IsInteger : List ℕ → ℤ → Type 0
IsInteger text (pos n) = IsNatural text n
IsInteger text (negsuc n) = IsBehind 45 text (suc n)

-- `+` or `-` stands before each number
abbrev pub IsSigned : List ℕ → ℤ → Type 0
IsSigned text (pos n) = IsBehind 43 text n
IsSigned text (negsuc n) = IsBehind 45 text (suc n)

-- ---- operands

-- an immediate of 32 bits, an offset of 16 and a distance of 32:
abbrev pub IsImmediate : List ℕ → ℤ → Type 0
IsImmediate text z = IsInteger text z × FitsSigned w32 z

abbrev pub IsOffset : List ℕ → ℤ → Type 0
IsOffset text z = IsSigned text z × FitsSigned w16 z

abbrev pub IsDistance : List ℕ → ℤ → Type 0
IsDistance text z = IsSigned text z × FitsSigned w32 z

-- a number from 0 to `most`
abbrev pub IsUnsigned : ℕ → List ℕ → ℕ → Type 0
IsUnsigned most text n = IsNatural text n × (n ≤ most)

-- `r` and a number from 0 to 10
pub record IsRegister (text : List ℕ) (n : ℕ) : Type 0 where
  pub number : List ℕ
  pub whole : text ≡ codes "r" ++ number
  pub decimal : IsDecimal number n
  pub most : n ≤ 10

-- an immediate or a register
abbrev pub IsSource : List ℕ → Operand → Type 0
IsSource text (Immediate z) = IsImmediate text z
IsSource text (Register n) = IsRegister text n

-- an offset, or nothing for +0
abbrev pub IsOffsetOrNone : List ℕ → ℤ → Type 0
IsOffsetOrNone text z = IsOffset text z ⊎ ((text ≡ []) × (z ≡ pos 0))

-- a place in memory: a register and an offset in brackets
pub record IsPlace (text : List ℕ) (place : ℕ × ℤ) : Type 0 where
  pub base : List ℕ
  pub offset : List ℕ
  pub whole : text ≡ codes "[" ++ (base ++ (offset ++ codes "]"))
  pub is_base : IsRegister base place.0
  pub is_offset : IsOffsetOrNone offset place.1

-- a label's name
abbrev pub IsLabelName : List ℕ → List ℕ → Type 0
IsLabelName text name = (text ≡ name) × (is_label_name name ≡ true)

-- where a jump goes, by an offset of 16 bits or a distance of 32, or to a label
abbrev pub IsNearTarget : List ℕ → Target → Type 0
IsNearTarget text (Slots z) = IsOffset text z
IsNearTarget text (Label name) = IsLabelName text name

abbrev pub IsFarTarget : List ℕ → Target → Type 0
IsFarTarget text (Slots z) = IsDistance text z
IsFarTarget text (Label name) = IsLabelName text name

-- `local` and where the call goes
pub record IsLocal (text : List ℕ) (target : Target) : Type 0 where
  pub rest : List ℕ
  pub word : HasWord text (codes "local") rest
  pub is_target : IsFarTarget rest target

-- one operand, which has no comma, with blanks around it
pub record One {A : Type 0} (Is : List ℕ → A → Type 0) (text : List ℕ) (a : A) : Type 0 where
  pub inner : List ℕ
  pub without : Without 44 text
  pub padded : IsPadded text inner
  pub is : Is inner a

-- two operands with a comma between them
pub record Two {A B : Type 0} (IsA : List ℕ → A → Type 0) (IsB : List ℕ → B →
    Type 0) (text : List ℕ) (a : A) (b : B) : Type 0 where
  pub left : List ℕ
  pub right : List ℕ
  pub whole : text ≡ left ++ (44 ∷ right)
  pub one : One IsA left a
  pub other : One IsB right b

-- three operands with commas between them
pub record Three {A B C : Type 0} (IsA : List ℕ → A → Type 0) (IsB : List ℕ → B → Type 0) (IsC : List ℕ → C →
    Type 0) (text : List ℕ) (a : A) (b : B) (c : C) : Type 0 where
  pub left : List ℕ
  pub right : List ℕ
  pub whole : text ≡ left ++ (44 ∷ right)
  pub one : One IsA left a
  pub others : Two IsB IsC right b c

-- ---- lines

-- an instruction that goes nowhere else by a distance: its word, and its operands after it
abbrev pub IsPlainText : Insn → List ℕ → List ℕ → Type 0
IsPlainText (insns.Alu bits operation dst source) word rest =
    (word ≡ word_of (forms.Alu bits operation)) × Two IsRegister IsSource rest dst source
IsPlainText (insns.Neg bits dst) word rest = (word ≡ word_of (forms.Neg bits)) × One IsRegister rest dst
IsPlainText (insns.Mov bits dst source) word rest =
    (word ≡ word_of (forms.Mov bits)) × Two IsRegister IsSource rest dst source
IsPlainText (insns.MovSigned extension dst src) word rest =
    (word ≡ word_of (forms.MovSigned extension)) × Two IsRegister IsRegister rest dst src
IsPlainText (insns.End order width dst) word rest = (word ≡ word_of (forms.End order width)) × One IsRegister rest dst
IsPlainText (insns.LoadWide dst value) word rest =
    (word ≡ word_of forms.LoadWide) × Two IsRegister (IsUnsigned 18446744073709551615) rest dst value
IsPlainText (insns.Load width dst base offset) word rest =
    (word ≡ word_of (forms.Load width)) × Two IsRegister IsPlace rest dst (base, offset)
IsPlainText (insns.LoadSigned width dst base offset) word rest =
    (word ≡ word_of (forms.LoadSigned width)) × Two IsRegister IsPlace rest dst (base, offset)
IsPlainText (insns.Store width base offset (Immediate imm)) word rest =
    (word ≡ word_of (forms.StoreNumber width)) × Two IsPlace IsImmediate rest (base, offset) imm
IsPlainText (insns.Store width base offset (Register src)) word rest =
    (word ≡ word_of (forms.StoreRegister width)) × Two IsPlace IsRegister rest (base, offset) src
IsPlainText (insns.Call helper) word rest = (word ≡ word_of forms.Call) × One (IsUnsigned 4294967295) rest helper
IsPlainText insns.Exit word rest = (word ≡ word_of forms.Exit) × (rest ≡ [])
IsPlainText (insns.Jump offset) word rest = ⊥
IsPlainText (insns.JumpLong distance) word rest = ⊥
IsPlainText (insns.Branch bits comparison dst source offset) word rest = ⊥
IsPlainText (insns.CallLocal distance) word rest = ⊥

-- an instruction whose label, if it has one, isn't resolved
abbrev pub IsDraftText : Draft → List ℕ → List ℕ → Type 0
IsDraftText (drafts.Plain insn) word rest = IsPlainText insn word rest
IsDraftText (drafts.Jump target) word rest = (word ≡ word_of forms.Jump) × One IsNearTarget rest target
IsDraftText (drafts.JumpLong target) word rest = (word ≡ word_of forms.JumpLong) × One IsFarTarget rest target
IsDraftText (drafts.Branch bits comparison dst source target) word rest =
    (word ≡ word_of (forms.Branch bits comparison)) × Three IsRegister IsSource IsNearTarget rest dst source target
IsDraftText (drafts.CallLocal target) word rest = (word ≡ word_of forms.Call) × One IsLocal rest target

-- an instruction's line, by its content
pub record IsInstructionText (text : List ℕ) (draft : Draft) : Type 0 where
  pub word : List ℕ
  pub rest : List ℕ
  pub parts : HasWord text word rest
  pub says : IsDraftText draft word rest

-- the number of a rule set, as it stands after `.rules`: rule set 1 has no such line
abbrev pub IsRuleSet : List ℕ → RuleSet → Type 0
IsRuleSet text rule_sets.One = ⊥
IsRuleSet text rule_sets.Two = text ≡ codes "2"
IsRuleSet text rule_sets.Three = text ≡ codes "3"

-- `.rules` and the number of a rule set
pub record IsRulesText (text : List ℕ) (rules : RuleSet) : Type 0 where
  pub rest : List ℕ
  pub word : HasWord text (codes ".rules") rest
  pub says : IsRuleSet rest rules

-- 1 reads, 2 writes, 3 both
abbrev pub AreFlags : List ℕ → ℕ → Type 0
AreFlags text flags = (1 ≤ flags) × (flags ≤ 3) × (text ≡ flags_text flags)

-- `.method`, a name, flags, and the capacities of input and output, by the limits that all rule
-- sets have
pub record IsDirectiveText (text : List ℕ) (header : MethodHeader) : Type 0 where
  pub behind_word : List ℕ
  pub behind_name : List ℕ
  pub flags : List ℕ
  pub caps : List ℕ
  pub in_cap : List ℕ
  pub out_cap : List ℕ
  pub word : HasWord text (codes ".method") behind_word
  pub name : HasWord behind_word header.name behind_name
  pub is_name : is_method_name header.name ≡ true
  pub flags_word : HasWord behind_name flags caps
  pub are_flags : AreFlags flags header.flags
  pub in_cap_word : HasWord caps in_cap out_cap
  pub is_in_cap : IsUnsigned CAPACITY_LIMIT in_cap header.in_cap
  pub is_out_cap : IsUnsigned CAPACITY_LIMIT out_cap header.out_cap
