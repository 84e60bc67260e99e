-- Methods: labels are resolved, and the lines read in order up to the first that is refused.
use Rattle.std.specs.Prelude.{ℕ, ℤ, pos, negsuc, ◌+◌, ◌-ℤ◌, ◌&&◌, nat_le, nat_lt, int_le, Bool, true, false, List, []}
use Rattle.std.specs.Prelude.{◌∷◌, ◌++◌, is_some, count_by, if◌then◌else◌, Option, Some, None, Result, Ok, Err}
use Rattle.std.specs.Str.{bytes_eq}
use Rattle.bpf_decode.specs.declared.insn.Insn.{Insn}
use Rattle.bpf_decode.specs.declared.insn.Insn.TheVariants as insns
use Rattle.bpf_decode.specs.Instruction.{slot_count}
use Rattle.asm_lines.specs.declared.fault.AsmFault.{AsmFault}
use Rattle.asm_lines.specs.declared.fault.AsmFault.TheVariants as faults
use Rattle.asm_lines.specs.declared.fault.AsmError.{AsmError}
use Rattle.asm_lines.specs.declared.target.Target.{Target}
use Rattle.asm_lines.specs.declared.target.Target.TheVariants as targets
use Rattle.asm_lines.specs.declared.draft.Draft.{Draft}
use Rattle.asm_lines.specs.declared.draft.Draft.TheVariants as drafts
use Rattle.asm_lines.specs.declared.statement.Statement.{Statement}
use Rattle.asm_lines.specs.declared.statement.Statement.TheVariants.{Empty, Label, Rules, Directive, Instruction}
use Rattle.asm_lines.specs.Operands.{filled}
use Rattle.asm_lines.specs.Statements.{statements_of}
use Rattle.bpf_decode.specs.declared.limits.TheConstants.{SLOT_LIMIT}

-- how many slots an instruction takes; one that is refused counts for one
abbrev pub draft_slots : Result Draft AsmFault → ℕ
draft_slots (Ok (drafts.Plain insn)) = slot_count insn
draft_slots (Ok (drafts.Jump target)) = 1
draft_slots (Ok (drafts.JumpLong target)) = 1
draft_slots (Ok (drafts.Branch bits comparison dst source target)) = 1
draft_slots (Ok (drafts.CallLocal target)) = 1
draft_slots (Err fault) = 1

-- how many slots a line takes
abbrev pub line_slots : Statement → ℕ
line_slots Empty = 0
line_slots (Label name) = 0
line_slots (Rules rules) = 0
line_slots (Directive header) = 0
line_slots (Instruction d) = draft_slots d

-- whether a line is the label of that name
abbrev pub is_label : List ℕ → Statement → Bool
is_label name Empty = false
is_label name (Label other) = bytes_eq other name
is_label name (Rules rules) = false
is_label name (Directive header) = false
is_label name (Instruction d) = false

-- the slot at which a method's first label of that name stands; its lines begin at a slot
unfoldable pub slot_of_label : List ℕ → ℕ → List Statement → Option ℕ
slot_of_label name slot [] = None
slot_of_label name slot (s ∷ ss) = if is_label name s then Some slot else slot_of_label name (slot + line_slots s) ss

-- a distance from `low` to `high`
abbrev pub distance_within : ℤ → ℤ → ℤ → Result ℤ AsmFault
distance_within low high z = if int_le low z && int_le z high then Ok z else Err faults.Range

-- the distance from the slot after a jump at `slot` to a label: an unknown one is 4 Label
abbrev pub distance_to : ℤ → ℤ → ℕ → Option ℕ → Result ℤ AsmFault
distance_to low high slot None = Err faults.Label
distance_to low high slot (Some at) = distance_within low high (pos at -ℤ pos (slot + 1))

-- a target as a distance; the labels are those of all the method's lines
abbrev pub resolved : ℤ → ℤ → List Statement → ℕ → Target → Result ℤ AsmFault
resolved low high all slot (targets.Slots z) = distance_within low high z
resolved low high all slot (targets.Label name) = distance_to low high slot (slot_of_label name 0 all)

-- the ranges of an offset of 16 bits and of an immediate
abbrev pub near : List Statement → ℕ → Target → Result ℤ AsmFault
near all slot target = resolved (negsuc 32767) (pos 32767) all slot target

abbrev pub far : List Statement → ℕ → Target → Result ℤ AsmFault
far all slot target = resolved (negsuc 2147483647) (pos 2147483647) all slot target

-- the instruction at a slot
abbrev pub finished : List Statement → ℕ → Draft → Result Insn AsmFault
finished all slot (drafts.Plain insn) = Ok insn
finished all slot (drafts.Jump target) = filled insns.Jump (near all slot target)
finished all slot (drafts.JumpLong target) = filled insns.JumpLong (far all slot target)
finished all slot (drafts.Branch bits comparison dst source target) =
    filled (insns.Branch bits comparison dst source) (near all slot target)
finished all slot (drafts.CallLocal target) = filled insns.CallLocal (far all slot target)

-- an instruction's line: its own fault, or 3 Range if it passes 4,096 slots, or that of its label
abbrev pub instruction_at : List Statement → ℕ → Result Draft AsmFault → Result (Option Insn) AsmFault
instruction_at all slot (Err fault) = Err fault
instruction_at all slot (Ok d) =
    if nat_le (slot + draft_slots (Ok d)) SLOT_LIMIT then filled Some (finished all slot d) else Err faults.Range

-- what a line at a slot gives: an instruction or nothing. `before` has the method's lines above it:
-- a label that stands among them already is 4 Label
abbrev pub line_at : List Statement → List Statement → ℕ → Statement → Result (Option Insn) AsmFault
line_at all before slot Empty = Ok None
line_at all before slot (Label name) = if is_some (slot_of_label name 0 before) then Err faults.Label else Ok None
line_at all before slot (Rules rules) = Err faults.Word
line_at all before slot (Directive header) = Err faults.Word
line_at all before slot (Instruction d) = instruction_at all slot d

-- on to the next line, or the refusal of this one
abbrev pub proceed : ℕ → Result (Option Insn) AsmFault → Result (List Insn) AsmError →
    (Insn → Result (List Insn) AsmError) → Result (List Insn) AsmError
proceed line (Err fault) without with_insn = Err (record { line = line; fault = fault })
proceed line (Ok None) without with_insn = without
proceed line (Ok (Some insn)) without with_insn = with_insn insn

-- the instructions of lines in order: `line` is the number of the next, `slot` the next slot,
-- `done` what stands above
unfoldable pub body_from : List Statement → List Statement → ℕ → ℕ → List Insn → List Statement →
    Result (List Insn) AsmError
body_from all before line slot done [] = Ok done
body_from all before line slot done (s ∷ rest) =
    proceed line (line_at all before slot s)
    (body_from all (before ++ (s ∷ [])) (line + 1) slot done rest)
    (λ insn. body_from all (before ++ (s ∷ [])) (line + 1) (slot + slot_count insn) (done ++ (insn ∷ [])) rest)

-- a method's instructions, whose first line has that number
abbrev pub body : ℕ → List Statement → Result (List Insn) AsmError
body first lines = body_from lines [] first 0 [] lines

-- an instruction's line, refused or not
abbrev pub is_instruction : Statement → Bool
is_instruction Empty = false
is_instruction (Label name) = false
is_instruction (Rules rules) = false
is_instruction (Directive header) = false
is_instruction (Instruction d) = true

-- whether an instruction stands among the lines
abbrev pub has_instruction : List Statement → Bool
has_instruction lines = nat_lt 0 (count_by is_instruction lines)

-- the fault on the first line of a text without instructions, if one method's text is read:
-- `.rules` and `.method` are 1 Word
abbrev pub bare_fault : List Statement → AsmFault
bare_fault [] = faults.Range
bare_fault (Empty ∷ rest) = faults.Range
bare_fault (Label name ∷ rest) = faults.Range
bare_fault (Instruction d ∷ rest) = faults.Range
bare_fault (Rules rules ∷ rest) = faults.Word
bare_fault (Directive header ∷ rest) = faults.Word

-- what `assemble` answers
abbrev pub assembled : List Statement → Result (List Insn) AsmError
assembled lines = if has_instruction lines then body 1 lines else Err (record { line = 1; fault = bare_fault lines })

-- Reading one method's text: its instructions, or the first line that is refused and the least
-- fault there.
unfoldable pub read_text : List ℕ → Result (List Insn) AsmError
read_text text = assembled (statements_of text)
