-- What a line says.
use Rattle.std.specs.Prelude.{ℕ, ◌==◌, ◌&&◌, ◌-◌, Bool, List, length, take, slice_index, if◌then◌else◌, Option, Some}
use Rattle.std.specs.Prelude.{None, Result, Ok, Err, codes, map}
use Rattle.std.specs.Str.{bytes_eq}
use Rattle.std.specs.List.{slice_split}
use Rattle.asm_lines.specs.declared.fault.AsmFault.{AsmFault}
use Rattle.asm_lines.specs.declared.fault.AsmFault.TheVariants as faults
use Rattle.asm_lines.specs.Headers.{MethodHeader}
use Rattle.asm_lines.specs.declared.statement.Statement.{Statement}
use Rattle.asm_lines.specs.declared.statement.Statement.TheVariants.{Empty, Label, Rules, Directive, Instruction}
use Rattle.asm_lines.specs.Texts.{content, first_word, after_word, is_label_name}
use Rattle.asm_lines.specs.Operands.{filled, both, unsigned_of}
use Rattle.asm_lines.specs.Drafts.{instruction_of}
use Rattle.bpf_decode.specs.declared.rule_set.RuleSet.{RuleSet}
use Rattle.bpf_decode.specs.declared.rule_set.RuleSet.TheVariants.{Two, Three}
use Rattle.bpf_decode.specs.Limits.{is_method_name}
use Rattle.bpf_decode.specs.declared.limits.TheConstants.{CAPACITY_LIMIT}

-- flags: `r`, `w` or `rw`
unfoldable pub flags_of : List ℕ → Option ℕ
flags_of text = if bytes_eq text (codes "r") then Some 1
    else (if bytes_eq text (codes "w") then Some 2 else (if bytes_eq text (codes "rw") then Some 3 else None))

-- the numbers of a method's line, by the limits that all rule sets have, with the name and the
-- flags before them
abbrev pub header_with : Bool → List ℕ → Option ℕ → List ℕ → Result MethodHeader AsmFault
header_with named name None caps = Err faults.Operand
header_with named name (Some flags) caps =
    if named then
    filled (λ p. record { name = name; flags = flags; in_cap = p.0; out_cap = p.1 })
    (both (unsigned_of CAPACITY_LIMIT (first_word caps)) (unsigned_of CAPACITY_LIMIT (after_word caps)))
    else Err faults.Operand

-- what stands after `.method`: a name, flags, and the capacities of input and output
unfoldable pub header_of : List ℕ → Result MethodHeader AsmFault
header_of text =
    header_with (is_method_name (first_word text)) (first_word text) (flags_of (first_word (after_word text)))
    (after_word (after_word text))

-- what stands after `.rules`: 2 or 3, since a class of rule set 1 has no such line
abbrev pub rules_of : List ℕ → Result RuleSet AsmFault
rules_of text =
    if bytes_eq text (codes "2") then Ok Two else (if bytes_eq text (codes "3") then Ok Three else Err faults.Operand)

-- a label's line: its name and a colon
unfoldable pub is_label_line : List ℕ → Bool
is_label_line text = slice_index text (length text - 1) == 58 && is_label_name (take (length text - 1) text)

-- what a line says whose content that is
unfoldable pub statement_of : List ℕ → Statement
statement_of text =
    if length text == 0 then Empty
    else (if is_label_line text then Label (take (length text - 1) text)
    else (if bytes_eq (first_word text) (codes ".rules") then Rules (rules_of (after_word text))
    else (if bytes_eq (first_word text) (codes ".method") then Directive (header_of (after_word text))
    else Instruction (instruction_of text))))

-- the lines of a text: what stands between line feeds, so that an empty one may be the last
abbrev pub lines_of : List ℕ → List (List ℕ)
lines_of text = slice_split (λ b. b == 10) text

-- what each line says
unfoldable pub statements_of : List ℕ → List Statement
statements_of text = map (λ line. statement_of (content line)) (lines_of text)
