-- The table of opcodes (RFC 9669 sections 4 and 5): each row's opcode, its fields and its
-- instruction.
use Rattle.std.specs.Prelude.{ℕ, ◌+◌, ◌*◌, ◌/◌, ◌%◌, ◌^◌, ◌==◌, ◌&&◌, ◌||◌, nat_le, Bool, List, [], ◌∷◌, Option, Some}
use Rattle.std.specs.Prelude.{None, option_map, option_and_then, if◌then◌else◌}
use Rattle.std.specs.List.{find}
use Rattle.std.specs.Int.{w16, w32, cast_signed}
use Rattle.bpf_decode.specs.declared.access.Width.TheVariants.{Byte, Half, Word, Double}
use Rattle.bpf_decode.specs.declared.access.SignedWidth.TheVariants as signed
use Rattle.bpf_decode.specs.declared.operation.OpWidth.{OpWidth}
use Rattle.bpf_decode.specs.declared.operation.OpWidth.TheVariants.{Bits32, Bits64}
use Rattle.bpf_decode.specs.declared.insn.Operand.{Operand}
use Rattle.bpf_decode.specs.declared.insn.Operand.TheVariants.{Immediate, Register}
use Rattle.bpf_decode.specs.declared.insn.Insn.{Insn}
use Rattle.bpf_decode.specs.declared.insn.Insn.TheVariants as insns
use Rattle.bpf_decode.specs.declared.row.OpcodeRow.{OpcodeRow}
use Rattle.bpf_decode.specs.declared.row.OpcodeRow.TheVariants.{AluImmediate, AluRegister, Neg, MovImmediate}
use Rattle.bpf_decode.specs.declared.row.OpcodeRow.TheVariants.{MovRegister, End, Wide, Load, LoadSigned}
use Rattle.bpf_decode.specs.declared.row.OpcodeRow.TheVariants.{StoreImmediate, StoreRegister, Jump, JumpLong}
use Rattle.bpf_decode.specs.declared.row.OpcodeRow.TheVariants.{BranchImmediate, BranchRegister, Call, Exit}
use Rattle.bpf_decode.specs.Fields.{Fields, fields_of}
use Rattle.bpf_decode.specs.Instruction.{slot, imm_field, alu_class, jump_class, operation_code, order_opcode}
use Rattle.bpf_decode.specs.Instruction.{comparison_code, size_code, signed_size_code}
use Rattle.bpf_decode.specs.Opcodes.{operation_of, offset_selects, selected, order_of, imm_selects, end_width_of}
use Rattle.bpf_decode.specs.Opcodes.{move_selects, signed_move_of, comparison_of}

-- a row's opcode
abbrev pub opcode : OpcodeRow → ℕ
opcode (AluImmediate bits operation) = alu_class bits + 16 * operation_code operation
opcode (AluRegister bits operation) = alu_class bits + 8 + 16 * operation_code operation
opcode (Neg bits) = alu_class bits + 0x80
opcode (MovImmediate bits) = alu_class bits + 0xb0
opcode (MovRegister bits) = alu_class bits + 0xb8
opcode (End order) = order_opcode order
opcode Wide = 0x18
opcode (Load width) = 0x61 + 8 * size_code width
opcode (LoadSigned width) = 0x81 + 8 * signed_size_code width
opcode (StoreImmediate width) = 0x62 + 8 * size_code width
opcode (StoreRegister width) = 0x63 + 8 * size_code width
opcode Jump = 0x05
opcode JumpLong = 0x06
opcode (BranchImmediate bits comparison) = jump_class bits + 16 * comparison_code comparison
opcode (BranchRegister bits comparison) = jump_class bits + 8 + 16 * comparison_code comparison
opcode Call = 0x85
opcode Exit = 0x95

-- The rows of the classes ALU and ALU64, by source bit and code.
abbrev pub alu_row : OpWidth → ℕ → ℕ → Option OpcodeRow
alu_row bits source code =
    if code == 0x8 then (if source == 0 then Some (Neg bits) else None) else
    if code == 0xb then (if source == 0 then Some (MovImmediate bits) else Some (MovRegister bits)) else
    if code == 0xd then option_map End (order_of bits source) else
    if source == 0 then option_map (AluImmediate bits) (operation_of code)
    else option_map (AluRegister bits) (operation_of code)

-- of JMP and JMP32 as comparisons
abbrev pub branch_row : OpWidth → ℕ → ℕ → Option OpcodeRow
branch_row bits source code =
    if source == 0 then option_map (BranchImmediate bits) (comparison_of code)
    else option_map (BranchRegister bits) (comparison_of code)

-- and every other row, by opcode
abbrev pub rows : List OpcodeRow
rows =
    Jump ∷ JumpLong ∷ Wide
    ∷ Load Word ∷ StoreImmediate Word ∷ StoreRegister Word ∷ Load Half ∷ StoreImmediate Half ∷ StoreRegister Half
    ∷ Load Byte ∷ StoreImmediate Byte ∷ StoreRegister Byte ∷ Load Double ∷ StoreImmediate Double ∷ StoreRegister Double
    ∷ LoadSigned signed.Word ∷ LoadSigned signed.Half ∷ LoadSigned signed.Byte ∷ Call ∷ Exit ∷ []

-- the row of an opcode that is none of those
unfoldable pub other_row : ℕ → Option OpcodeRow
other_row n = find (λ row. opcode row == n) rows

-- the row of an opcode
abbrev pub row_of : ℕ → Option OpcodeRow
row_of n =
    if n % 8 == 4 then alu_row Bits32 (n / 8 % 2) (n / 16) else
    if n % 8 == 7 then alu_row Bits64 (n / 8 % 2) (n / 16) else
    if (n % 8 == 5) && (n / 16 == 0 || n / 16 == 8 || n / 16 == 9) then other_row n else
    if n % 8 == 5 then branch_row Bits64 (n / 8 % 2) (n / 16) else
    if (n % 8 == 6) && (n / 16 == 0) then other_row n else
    if n % 8 == 6 then branch_row Bits32 (n / 8 % 2) (n / 16) else other_row n

-- the fields that a row doesn't use are zero, and a selecting field has a value of an instruction
abbrev pub fields_allowed : OpcodeRow → Fields → Bool
fields_allowed (AluImmediate bits operation) f = (f.src == 0) && offset_selects operation f.offset
fields_allowed (AluRegister bits operation) f = (f.imm == 0) && offset_selects operation f.offset
fields_allowed (Neg bits) f = (f.src == 0) && (f.offset == 0) && (f.imm == 0)
fields_allowed (MovImmediate bits) f = (f.src == 0) && (f.offset == 0)
fields_allowed (MovRegister bits) f = (f.imm == 0) && ((f.offset == 0) || move_selects bits f.offset)
fields_allowed (End order) f = (f.src == 0) && (f.offset == 0) && imm_selects f.imm
fields_allowed Wide f = (f.src == 0) && (f.offset == 0)
fields_allowed (Load width) f = f.imm == 0
fields_allowed (LoadSigned width) f = f.imm == 0
fields_allowed (StoreImmediate width) f = f.src == 0
fields_allowed (StoreRegister width) f = f.imm == 0
fields_allowed Jump f = (f.dst == 0) && (f.src == 0) && (f.imm == 0)
fields_allowed JumpLong f = (f.dst == 0) && (f.src == 0) && (f.offset == 0)
fields_allowed (BranchImmediate bits comparison) f = f.src == 0
fields_allowed (BranchRegister bits comparison) f = f.imm == 0
fields_allowed Call f = (f.dst == 0) && nat_le f.src 1 && (f.offset == 0)
fields_allowed Exit f = (f.dst == 0) && (f.src == 0) && (f.offset == 0) && (f.imm == 0)

-- the high half that a wide load's second slot has (section 5.4): all else in it is zero
abbrev pub second_half : Fields → Option ℕ
second_half f = if (f.opcode == 0) && (f.dst == 0) && (f.src == 0) && (f.offset == 0) then Some f.imm else None

-- the high half of a row's number, from the bytes after its first slot
abbrev pub high_half : OpcodeRow → List ℕ → Option ℕ
high_half Wide bytes = option_and_then second_half (fields_of bytes)
high_half row bytes = Some 0

-- the instruction of a row
abbrev pub instruction : OpcodeRow → Fields → ℕ → Insn
instruction (AluImmediate bits operation) f high =
    insns.Alu bits (selected operation f.offset) f.dst (Immediate (cast_signed w32 f.imm))
instruction (AluRegister bits operation) f high = insns.Alu bits (selected operation f.offset) f.dst (Register f.src)
instruction (Neg bits) f high = insns.Neg bits f.dst
instruction (MovImmediate bits) f high = insns.Mov bits f.dst (Immediate (cast_signed w32 f.imm))
instruction (MovRegister bits) f high = if f.offset == 0 then insns.Mov bits f.dst (Register f.src)
    else insns.MovSigned (signed_move_of bits f.offset) f.dst f.src
instruction (End order) f high = insns.End order (end_width_of f.imm) f.dst
instruction Wide f high = insns.LoadWide f.dst (f.imm + high * 2 ^ 32)
instruction (Load width) f high = insns.Load width f.dst f.src (cast_signed w16 f.offset)
instruction (LoadSigned width) f high = insns.LoadSigned width f.dst f.src (cast_signed w16 f.offset)
instruction (StoreImmediate width) f high =
    insns.Store width f.dst (cast_signed w16 f.offset) (Immediate (cast_signed w32 f.imm))
instruction (StoreRegister width) f high = insns.Store width f.dst (cast_signed w16 f.offset) (Register f.src)
instruction Jump f high = insns.Jump (cast_signed w16 f.offset)
instruction JumpLong f high = insns.JumpLong (cast_signed w32 f.imm)
instruction (BranchImmediate bits comparison) f high =
    insns.Branch bits comparison f.dst (Immediate (cast_signed w32 f.imm)) (cast_signed w16 f.offset)
instruction (BranchRegister bits comparison) f high =
    insns.Branch bits comparison f.dst (Register f.src) (cast_signed w16 f.offset)
instruction Call f high = if f.src == 0 then insns.Call f.imm else insns.CallLocal (cast_signed w32 f.imm)
instruction Exit f high = insns.Exit

-- the slot of an operation on a register and an operand: by one opcode for a number, by another for
-- a register
abbrev pub operand_slot : ℕ → ℕ → ℕ → Operand → ℕ → List ℕ
operand_slot immediate register dst (Immediate imm) offset = slot immediate dst 0 offset (imm_field imm)
operand_slot immediate register dst (Register src) offset = slot register dst src offset 0
