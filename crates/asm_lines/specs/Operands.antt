-- Operands: registers, numbers, places in memory and targets of jumps.
use Rattle.std.specs.Prelude.{ℕ, ℤ, pos, ◌==◌, ◌&&◌, ◌||◌, ◌-◌, nat_le, Bool, List, length, take, drop, slice_index}
use Rattle.std.specs.Prelude.{Option, Some, None, if◌then◌else◌, Result, Ok, Err}
use Rattle.std.specs.List.{before_first}
use Rattle.bpf_decode.specs.declared.insn.Operand.{Operand}
use Rattle.bpf_decode.specs.declared.insn.Operand.TheVariants.{Immediate, Register}
use Rattle.asm_lines.specs.declared.fault.AsmFault.{AsmFault}
use Rattle.asm_lines.specs.declared.fault.AsmFault.TheVariants as faults
use Rattle.asm_lines.specs.declared.target.Target.{Target}
use Rattle.asm_lines.specs.declared.target.Target.TheVariants.{Slots, Label}
use Rattle.asm_lines.specs.Fault.{fault_number}
use Rattle.asm_lines.specs.Numbers.{decimal_number, natural_within, plain_within, signed_within, value_of}
use Rattle.asm_lines.specs.Texts.{is_label_name}

-- what was read, as something else
abbrev pub filled : {A B : Type 0} → (A → B) → Result A AsmFault → Result B AsmFault
filled f (Ok a) = Ok (f a)
filled f (Err fault) = Err fault

-- the fault of the lower number
abbrev pub least : AsmFault → AsmFault → AsmFault
least f g = if nat_le (fault_number f) (fault_number g) then f else g

-- two readings of one line: of two faults the least
abbrev pub both : {A B : Type 0} → Result A AsmFault → Result B AsmFault → Result (A × B) AsmFault
both (Ok a) (Ok b) = Ok (a, b)
both (Ok a) (Err g) = Err g
both (Err f) (Ok b) = Err f
both (Err f) (Err g) = Err (least f g)

-- a register: `r` and a number from 0 to 10 without leading zeros
unfoldable pub register_of : List ℕ → Result ℕ AsmFault
register_of text =
    if slice_index text 0 == 114 then natural_within 10 (decimal_number (drop 1 text)) else Err faults.Operand

-- an immediate of 32 bits
unfoldable pub immediate_of : List ℕ → Result ℤ AsmFault
immediate_of text = filled value_of (plain_within 2147483648 2147483647 text)

-- an offset of 16 bits
unfoldable pub offset_of : List ℕ → Result ℤ AsmFault
offset_of text = filled value_of (signed_within 32768 32767 text)

-- a distance of 32 bits
unfoldable pub distance_of : List ℕ → Result ℤ AsmFault
distance_of text = filled value_of (signed_within 2147483648 2147483647 text)

-- a number from 0 to `most`
unfoldable pub unsigned_of : ℕ → List ℕ → Result ℕ AsmFault
unsigned_of most text = filled (λ n. n.magnitude) (plain_within 0 most text)

-- a register or an immediate
unfoldable pub source_of : List ℕ → Result Operand AsmFault
source_of text =
    if slice_index text 0 == 114 then filled Register (register_of text) else filled Immediate (immediate_of text)

-- `+` or `-`
abbrev pub is_sign : ℕ → Bool
is_sign c = c == 43 || c == 45

-- no offset stands for +0
unfoldable pub offset_or_zero : List ℕ → Result ℤ AsmFault
offset_or_zero text = if length text == 0 then Ok (pos 0) else offset_of text

-- what stands in brackets
unfoldable pub place_within : List ℕ → Result (ℕ × ℤ) AsmFault
place_within inner =
    both (register_of (before_first is_sign inner)) (offset_or_zero (drop (length (before_first is_sign inner)) inner))

-- a place in memory: a register in brackets, with an offset or none
unfoldable pub memory_of : List ℕ → Result (ℕ × ℤ) AsmFault
memory_of text =
    if slice_index text 0 == 91 && slice_index text (length text - 1) == 93
    then place_within (take (length text - 2) (drop 1 text)) else Err faults.Operand

-- where a jump goes: a label, or an offset of 16 bits or a distance of 32
unfoldable pub near_target_of : List ℕ → Result Target AsmFault
near_target_of text = if is_label_name text then Ok (Label text) else filled Slots (offset_of text)

unfoldable pub far_target_of : List ℕ → Result Target AsmFault
far_target_of text = if is_label_name text then Ok (Label text) else filled Slots (distance_of text)

-- one, two and three operands, or 2 Operand
abbrev pub of_one : {A : Type 0} → (List ℕ → Result A AsmFault) → Option (List ℕ) → Result A AsmFault
of_one read None = Err faults.Operand
of_one read (Some a) = read a

abbrev pub of_two : {A B : Type 0} → (List ℕ → Result A AsmFault) → (List ℕ → Result B AsmFault) →
    Option (List ℕ × List ℕ) → Result (A × B) AsmFault
of_two left right None = Err faults.Operand
of_two left right (Some p) = both (left p.0) (right p.1)

abbrev pub of_three : {A B C : Type 0} → (List ℕ → Result A AsmFault) → (List ℕ → Result B AsmFault) →
    (List ℕ → Result C AsmFault) → Option (List ℕ × List ℕ × List ℕ) → Result (A × (B × C)) AsmFault
of_three left middle right None = Err faults.Operand
of_three left middle right (Some t) = both (left t.0) (both (middle t.1) (right t.2))
