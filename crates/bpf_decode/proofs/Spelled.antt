-- What is spelled is read: each instruction, from its bytes.
use Rattle.std.proofs.Common.{◌≡◌, ℕ, ℤ, ◌+◌, ◌*◌, ◌/◌, ◌%◌, ◌^◌, ◌≤◌, Bool, true, List, ◌++◌, Option, Some, Result, Ok, refl, ap, ◌∙◌, arith}
use Rattle.std.specs.Prelude.{IsSome, ◌&&◌, nat_le, option_and_then}
use Rattle.std.specs.Option.{ok_or}
use Rattle.std.specs.Int.{w16, w32, cast_signed}
use Rattle.std.specs.Int.RustNames.{FitsSigned}
use Rattle.std.proofs.lemmas.Int.{to_z-of_z}
use Rattle.std.proofs.lemmas.Bool.{le-leb}
use Rattle.bpf_decode.specs.declared.decode_error.DecodeError.{DecodeError}
use Rattle.bpf_decode.specs.declared.decode_error.DecodeError.TheVariants as errors
use Rattle.bpf_decode.specs.declared.access.Width.TheVariants.{Byte, Half, Word, Double}
use Rattle.bpf_decode.specs.declared.insn.Operand.{Operand}
use Rattle.bpf_decode.specs.declared.insn.Operand.TheVariants.{Immediate, Register}
use Rattle.bpf_decode.specs.declared.insn.Insn.{Insn}
use Rattle.bpf_decode.specs.declared.insn.Insn.TheVariants as insns
use Rattle.bpf_decode.specs.declared.row.OpcodeRow.{OpcodeRow}
use Rattle.bpf_decode.specs.declared.row.OpcodeRow.TheVariants.{AluImmediate, AluRegister, Neg, MovImmediate, MovRegister, End, Wide, Load, LoadSigned, StoreImmediate, StoreRegister, Jump, JumpLong, BranchImmediate, BranchRegister, Call, Exit}
use Rattle.bpf_decode.specs.declared.access.Width.{Width}
use Rattle.bpf_decode.specs.declared.access.SignedWidth.TheVariants as signed
use Rattle.bpf_decode.specs.declared.operation.OpWidth.{OpWidth}
use Rattle.bpf_decode.specs.declared.operation.OpWidth.TheVariants.{Bits32, Bits64}
use Rattle.bpf_decode.specs.declared.operation.Arithmetic.{Arithmetic}
use Rattle.bpf_decode.specs.declared.operation.Arithmetic.TheVariants.{Add, Sub, Mul, Div, SignedDiv, Or, And, Lsh, Rsh, Mod, SignedMod, Xor, Arsh}
use Rattle.bpf_decode.specs.declared.operation.SignedMove.{SignedMove}
use Rattle.bpf_decode.specs.declared.operation.SignedMove.TheVariants.{Byte64, Half64, Word64, Byte32, Half32}
use Rattle.bpf_decode.specs.declared.operation.ByteOrder.{ByteOrder}
use Rattle.bpf_decode.specs.declared.operation.ByteOrder.TheVariants.{ToLittle, ToBig, Swap}
use Rattle.bpf_decode.specs.declared.operation.EndWidth.{EndWidth}
use Rattle.bpf_decode.specs.declared.operation.EndWidth.TheVariants.{End16, End32, End64}
use Rattle.bpf_decode.specs.declared.operation.Comparison.{Comparison}
use Rattle.bpf_decode.specs.declared.operation.Comparison.TheVariants.{Equal, Greater, GreaterEqual, SharesBits, NotEqual, SignedGreater, SignedGreaterEqual, Less, LessEqual, SignedLess, SignedLessEqual}
use Rattle.bpf_decode.specs.Opcodes.{offset_selects, selected}
use Rattle.bpf_decode.specs.Fields.{Fields}
use Rattle.bpf_decode.specs.Instruction.{Fits, OperandFits, slot, bytes_of, imm_field, offset_field, size_code, signed_size_code, alu_class, jump_class, operation_code, operation_offset, order_opcode, comparison_code}
use Rattle.bpf_decode.specs.Table.{opcode, other_row, row_of, fields_allowed, second_half, high_half, instruction}
use Rattle.bpf_decode.specs.Reading.{◌>>=◌, checked, are_registers, insn_at}
use Rattle.bpf_decode.proofs.Bytes.{fields_are, fields_of-slot}

-- the steps of reading an instruction, from what each step gives
abbrev pub by_half : ℕ → Fields → OpcodeRow → Option ℕ → Result Insn DecodeError
by_half n f row o = ok_or o (errors.WideHalf n) >>= λ high. Ok (instruction row f high)

abbrev pub by_allowed : ℕ → Fields → OpcodeRow → List ℕ → Bool → Result Insn DecodeError
by_allowed n f row behind b = checked b (errors.NonzeroField n) f >>= λ h. by_half n f row (high_half row behind)

abbrev pub by_registers : ℕ → Fields → OpcodeRow → List ℕ → Bool → Result Insn DecodeError
by_registers n f row behind b = checked b (errors.Register n) f >>= λ g. by_allowed n f row behind (fields_allowed row f)

abbrev pub by_row : ℕ → Fields → List ℕ → Option OpcodeRow → Result Insn DecodeError
by_row n f behind o = ok_or o (errors.Opcode n) >>= λ row. by_registers n f row behind (are_registers f)

abbrev by_fields : ℕ → List ℕ → Option Fields → Result Insn DecodeError
by_fields n behind o = ok_or o errors.Truncated >>= λ f. by_row n f behind (row_of f.opcode)

pub insn_by : (n op d s o k : ℕ) (rest : List ℕ) (row : OpcodeRow) (high : ℕ) → d ≤ 10 → s ≤ 10 → row_of op ≡ Some row → fields_allowed row (fields_are op d s o k) ≡ true → high_half row rest ≡ Some high
    → insn_at n (slot op d s o k ++ rest) ≡ Ok (instruction row (fields_are op d s o k) high)
unfolding insn_at
insn_by n op d s o k rest row high hd hs found allowed half =
    let f : Fields = fields_are op d s o k in
    let e2 : (nat_le d 10 && nat_le s 10) ≡ true = rw (le-leb d 10 hd, le-leb s 10 hs) refl in
    ap (by_fields n rest) (fields_of-slot op d s o k rest hd)
    ∙ ap (by_row n f rest) found
    ∙ ap (by_registers n f row rest) e2
    ∙ ap (by_allowed n f row rest) allowed
    ∙ ap (by_half n f row) half

signed16 : (z : ℤ) → FitsSigned w16 z → cast_signed w16 (offset_field z) ≡ z
signed16 z h = to_z-of_z w16 z h

signed32 : (z : ℤ) → FitsSigned w32 z → cast_signed w32 (imm_field z) ≡ z
signed32 z h = to_z-of_z w32 z h

low_and_high : (v : ℕ) → v % 2 ^ 32 + v / 2 ^ 32 * 2 ^ 32 ≡ v
low_and_high v = omega arith

-- a row with an opcode of its own
abbrev IsOther : OpcodeRow → Type 0
IsOther (AluImmediate bits operation) = ⊥
IsOther (AluRegister bits operation) = ⊥
IsOther (BranchImmediate bits comparison) = ⊥
IsOther (BranchRegister bits comparison) = ⊥
IsOther row = Unit {0}

-- the row of an operation: the signed ones share that of the unsigned
abbrev base : Arithmetic → Arithmetic
base SignedDiv = Div
base SignedMod = Mod
base operation = operation

alu_imm_row : (bits : OpWidth) (operation : Arithmetic) → row_of (alu_class bits + 16 * operation_code operation) ≡ Some (AluImmediate bits (base operation))
alu_imm_row Bits32 Add = refl
alu_imm_row Bits32 Sub = refl
alu_imm_row Bits32 Mul = refl
alu_imm_row Bits32 Div = refl
alu_imm_row Bits32 SignedDiv = refl
alu_imm_row Bits32 Or = refl
alu_imm_row Bits32 And = refl
alu_imm_row Bits32 Lsh = refl
alu_imm_row Bits32 Rsh = refl
alu_imm_row Bits32 Mod = refl
alu_imm_row Bits32 SignedMod = refl
alu_imm_row Bits32 Xor = refl
alu_imm_row Bits32 Arsh = refl
alu_imm_row Bits64 Add = refl
alu_imm_row Bits64 Sub = refl
alu_imm_row Bits64 Mul = refl
alu_imm_row Bits64 Div = refl
alu_imm_row Bits64 SignedDiv = refl
alu_imm_row Bits64 Or = refl
alu_imm_row Bits64 And = refl
alu_imm_row Bits64 Lsh = refl
alu_imm_row Bits64 Rsh = refl
alu_imm_row Bits64 Mod = refl
alu_imm_row Bits64 SignedMod = refl
alu_imm_row Bits64 Xor = refl
alu_imm_row Bits64 Arsh = refl

alu_reg_row : (bits : OpWidth) (operation : Arithmetic) → row_of (alu_class bits + 8 + 16 * operation_code operation) ≡ Some (AluRegister bits (base operation))
alu_reg_row Bits32 Add = refl
alu_reg_row Bits32 Sub = refl
alu_reg_row Bits32 Mul = refl
alu_reg_row Bits32 Div = refl
alu_reg_row Bits32 SignedDiv = refl
alu_reg_row Bits32 Or = refl
alu_reg_row Bits32 And = refl
alu_reg_row Bits32 Lsh = refl
alu_reg_row Bits32 Rsh = refl
alu_reg_row Bits32 Mod = refl
alu_reg_row Bits32 SignedMod = refl
alu_reg_row Bits32 Xor = refl
alu_reg_row Bits32 Arsh = refl
alu_reg_row Bits64 Add = refl
alu_reg_row Bits64 Sub = refl
alu_reg_row Bits64 Mul = refl
alu_reg_row Bits64 Div = refl
alu_reg_row Bits64 SignedDiv = refl
alu_reg_row Bits64 Or = refl
alu_reg_row Bits64 And = refl
alu_reg_row Bits64 Lsh = refl
alu_reg_row Bits64 Rsh = refl
alu_reg_row Bits64 Mod = refl
alu_reg_row Bits64 SignedMod = refl
alu_reg_row Bits64 Xor = refl
alu_reg_row Bits64 Arsh = refl

branch_imm_row : (bits : OpWidth) (comparison : Comparison) → row_of (jump_class bits + 16 * comparison_code comparison) ≡ Some (BranchImmediate bits comparison)
branch_imm_row Bits32 Equal = refl
branch_imm_row Bits32 Greater = refl
branch_imm_row Bits32 GreaterEqual = refl
branch_imm_row Bits32 SharesBits = refl
branch_imm_row Bits32 NotEqual = refl
branch_imm_row Bits32 SignedGreater = refl
branch_imm_row Bits32 SignedGreaterEqual = refl
branch_imm_row Bits32 Less = refl
branch_imm_row Bits32 LessEqual = refl
branch_imm_row Bits32 SignedLess = refl
branch_imm_row Bits32 SignedLessEqual = refl
branch_imm_row Bits64 Equal = refl
branch_imm_row Bits64 Greater = refl
branch_imm_row Bits64 GreaterEqual = refl
branch_imm_row Bits64 SharesBits = refl
branch_imm_row Bits64 NotEqual = refl
branch_imm_row Bits64 SignedGreater = refl
branch_imm_row Bits64 SignedGreaterEqual = refl
branch_imm_row Bits64 Less = refl
branch_imm_row Bits64 LessEqual = refl
branch_imm_row Bits64 SignedLess = refl
branch_imm_row Bits64 SignedLessEqual = refl

branch_reg_row : (bits : OpWidth) (comparison : Comparison) → row_of (jump_class bits + 8 + 16 * comparison_code comparison) ≡ Some (BranchRegister bits comparison)
branch_reg_row Bits32 Equal = refl
branch_reg_row Bits32 Greater = refl
branch_reg_row Bits32 GreaterEqual = refl
branch_reg_row Bits32 SharesBits = refl
branch_reg_row Bits32 NotEqual = refl
branch_reg_row Bits32 SignedGreater = refl
branch_reg_row Bits32 SignedGreaterEqual = refl
branch_reg_row Bits32 Less = refl
branch_reg_row Bits32 LessEqual = refl
branch_reg_row Bits32 SignedLess = refl
branch_reg_row Bits32 SignedLessEqual = refl
branch_reg_row Bits64 Equal = refl
branch_reg_row Bits64 Greater = refl
branch_reg_row Bits64 GreaterEqual = refl
branch_reg_row Bits64 SharesBits = refl
branch_reg_row Bits64 NotEqual = refl
branch_reg_row Bits64 SignedGreater = refl
branch_reg_row Bits64 SignedGreaterEqual = refl
branch_reg_row Bits64 Less = refl
branch_reg_row Bits64 LessEqual = refl
branch_reg_row Bits64 SignedLess = refl
branch_reg_row Bits64 SignedLessEqual = refl

-- the other rows
other_row_is : (row : OpcodeRow) → IsOther row → row_of (opcode row) ≡ Some row
unfolding other_row
other_row_is (Neg Bits32) o = refl
other_row_is (Neg Bits64) o = refl
other_row_is (MovImmediate Bits32) o = refl
other_row_is (MovImmediate Bits64) o = refl
other_row_is (MovRegister Bits32) o = refl
other_row_is (MovRegister Bits64) o = refl
other_row_is (End ToLittle) o = refl
other_row_is (End ToBig) o = refl
other_row_is (End Swap) o = refl
other_row_is Wide o = refl
other_row_is (Load Byte) o = refl
other_row_is (Load Half) o = refl
other_row_is (Load Word) o = refl
other_row_is (Load Double) o = refl
other_row_is (LoadSigned signed.Byte) o = refl
other_row_is (LoadSigned signed.Half) o = refl
other_row_is (LoadSigned signed.Word) o = refl
other_row_is (StoreImmediate Byte) o = refl
other_row_is (StoreImmediate Half) o = refl
other_row_is (StoreImmediate Word) o = refl
other_row_is (StoreImmediate Double) o = refl
other_row_is (StoreRegister Byte) o = refl
other_row_is (StoreRegister Half) o = refl
other_row_is (StoreRegister Word) o = refl
other_row_is (StoreRegister Double) o = refl
other_row_is Jump o = refl
other_row_is JumpLong o = refl
other_row_is Call o = refl
other_row_is Exit o = refl
other_row_is (AluImmediate bits operation) o = absurd o
other_row_is (AluRegister bits operation) o = absurd o
other_row_is (BranchImmediate bits comparison) o = absurd o
other_row_is (BranchRegister bits comparison) o = absurd o

-- every row is found by its opcode
pub row_found : (row : OpcodeRow) → IsSome (row_of (opcode row))
row_found (AluImmediate bits operation) = rw (alu_imm_row bits operation)
row_found (AluRegister bits operation) = rw (alu_reg_row bits operation)
row_found (BranchImmediate bits comparison) = rw (branch_imm_row bits comparison)
row_found (BranchRegister bits comparison) = rw (branch_reg_row bits comparison)
row_found (Neg bits) = rw (other_row_is (Neg bits) tt)
row_found (MovImmediate bits) = rw (other_row_is (MovImmediate bits) tt)
row_found (MovRegister bits) = rw (other_row_is (MovRegister bits) tt)
row_found (End order) = rw (other_row_is (End order) tt)
row_found Wide = rw (other_row_is Wide tt)
row_found (Load width) = rw (other_row_is (Load width) tt)
row_found (LoadSigned width) = rw (other_row_is (LoadSigned width) tt)
row_found (StoreImmediate width) = rw (other_row_is (StoreImmediate width) tt)
row_found (StoreRegister width) = rw (other_row_is (StoreRegister width) tt)
row_found Jump = rw (other_row_is Jump tt)
row_found JumpLong = rw (other_row_is JumpLong tt)
row_found Call = rw (other_row_is Call tt)
row_found Exit = rw (other_row_is Exit tt)

-- an operation's own offset field selects it
own_offset : (operation : Arithmetic) → (offset_selects (base operation) (operation_offset operation) ≡ true) × (selected (base operation) (operation_offset operation) ≡ operation)
own_offset Add = (refl, refl)
own_offset Sub = (refl, refl)
own_offset Mul = (refl, refl)
own_offset Div = (refl, refl)
own_offset SignedDiv = (refl, refl)
own_offset Or = (refl, refl)
own_offset And = (refl, refl)
own_offset Lsh = (refl, refl)
own_offset Rsh = (refl, refl)
own_offset Mod = (refl, refl)
own_offset SignedMod = (refl, refl)
own_offset Xor = (refl, refl)
own_offset Arsh = (refl, refl)

alu_again : (n : ℕ) (bits : OpWidth) (operation : Arithmetic) (dst : ℕ) (source : Operand) (rest : List ℕ) → dst ≤ 10 → OperandFits source → insn_at n (bytes_of (insns.Alu bits operation dst source) ++ rest) ≡ Ok (insns.Alu bits operation dst source)
alu_again n bits operation dst (Immediate imm) rest d h =
    insn_by n (alu_class bits + 16 * operation_code operation) dst 0 (operation_offset operation) (imm_field imm) rest (AluImmediate bits (base operation)) 0 d (omega arith) (alu_imm_row bits operation) (own_offset operation).0 refl
    ∙ ap (λ (o : Arithmetic). Ok (insns.Alu bits o dst (Immediate (cast_signed w32 (imm_field imm))))) (own_offset operation).1
    ∙ ap (λ (z : ℤ). Ok (insns.Alu bits operation dst (Immediate z))) (signed32 imm h)
alu_again n bits operation dst (Register src) rest d h =
    insn_by n (alu_class bits + 8 + 16 * operation_code operation) dst src (operation_offset operation) 0 rest (AluRegister bits (base operation)) 0 d h (alu_reg_row bits operation) (own_offset operation).0 refl
    ∙ ap (λ (o : Arithmetic). Ok (insns.Alu bits o dst (Register src))) (own_offset operation).1

mov_again : (n : ℕ) (bits : OpWidth) (dst : ℕ) (source : Operand) (rest : List ℕ) → dst ≤ 10 → OperandFits source → insn_at n (bytes_of (insns.Mov bits dst source) ++ rest) ≡ Ok (insns.Mov bits dst source)
mov_again n bits dst (Immediate imm) rest d h =
    insn_by n (alu_class bits + 0xb0) dst 0 0 (imm_field imm) rest (MovImmediate bits) 0 d (omega arith) (other_row_is (MovImmediate bits) tt) refl refl
    ∙ ap (λ (z : ℤ). Ok (insns.Mov bits dst (Immediate z))) (signed32 imm h)
mov_again n bits dst (Register src) rest d h = insn_by n (alu_class bits + 0xb8) dst src 0 0 rest (MovRegister bits) 0 d h (other_row_is (MovRegister bits) tt) refl refl

signed_move_again : (n : ℕ) (extension : SignedMove) (dst src : ℕ) (rest : List ℕ) → dst ≤ 10 → src ≤ 10 → insn_at n (bytes_of (insns.MovSigned extension dst src) ++ rest) ≡ Ok (insns.MovSigned extension dst src)
signed_move_again n Byte64 dst src rest d s = insn_by n (alu_class Bits64 + 0xb8) dst src 8 0 rest (MovRegister Bits64) 0 d s (other_row_is (MovRegister Bits64) tt) refl refl
signed_move_again n Half64 dst src rest d s = insn_by n (alu_class Bits64 + 0xb8) dst src 16 0 rest (MovRegister Bits64) 0 d s (other_row_is (MovRegister Bits64) tt) refl refl
signed_move_again n Word64 dst src rest d s = insn_by n (alu_class Bits64 + 0xb8) dst src 32 0 rest (MovRegister Bits64) 0 d s (other_row_is (MovRegister Bits64) tt) refl refl
signed_move_again n Byte32 dst src rest d s = insn_by n (alu_class Bits32 + 0xb8) dst src 8 0 rest (MovRegister Bits32) 0 d s (other_row_is (MovRegister Bits32) tt) refl refl
signed_move_again n Half32 dst src rest d s = insn_by n (alu_class Bits32 + 0xb8) dst src 16 0 rest (MovRegister Bits32) 0 d s (other_row_is (MovRegister Bits32) tt) refl refl

end_again : (n : ℕ) (order : ByteOrder) (width : EndWidth) (dst : ℕ) (rest : List ℕ) → dst ≤ 10 → insn_at n (bytes_of (insns.End order width dst) ++ rest) ≡ Ok (insns.End order width dst)
end_again n order End16 dst rest d = insn_by n (order_opcode order) dst 0 0 16 rest (End order) 0 d (omega arith) (other_row_is (End order) tt) refl refl
end_again n order End32 dst rest d = insn_by n (order_opcode order) dst 0 0 32 rest (End order) 0 d (omega arith) (other_row_is (End order) tt) refl refl
end_again n order End64 dst rest d = insn_by n (order_opcode order) dst 0 0 64 rest (End order) 0 d (omega arith) (other_row_is (End order) tt) refl refl

branch_again : (n : ℕ) (bits : OpWidth) (comparison : Comparison) (dst : ℕ) (source : Operand) (offset : ℤ) (rest : List ℕ) → dst ≤ 10 → FitsSigned w16 offset → OperandFits source → insn_at n (bytes_of (insns.Branch bits comparison dst source offset) ++ rest) ≡ Ok (insns.Branch bits comparison dst source offset)
branch_again n bits comparison dst (Immediate imm) offset rest d f h =
    insn_by n (jump_class bits + 16 * comparison_code comparison) dst 0 (offset_field offset) (imm_field imm) rest (BranchImmediate bits comparison) 0 d (omega arith) (branch_imm_row bits comparison) refl refl
    ∙ ap (λ (z : ℤ). Ok (insns.Branch bits comparison dst (Immediate (cast_signed w32 (imm_field imm))) z)) (signed16 offset f)
    ∙ ap (λ (z : ℤ). Ok (insns.Branch bits comparison dst (Immediate z) offset)) (signed32 imm h)
branch_again n bits comparison dst (Register src) offset rest d f h =
    insn_by n (jump_class bits + 8 + 16 * comparison_code comparison) dst src (offset_field offset) 0 rest (BranchRegister bits comparison) 0 d h (branch_reg_row bits comparison) refl refl
    ∙ ap (λ (z : ℤ). Ok (insns.Branch bits comparison dst (Register src) z)) (signed16 offset f)

store_again : (n : ℕ) (width : Width) (to : ℕ) (offset : ℤ) (source : Operand) (rest : List ℕ) → to ≤ 10 → FitsSigned w16 offset → OperandFits source → insn_at n (bytes_of (insns.Store width to offset source) ++ rest) ≡ Ok (insns.Store width to offset source)
store_again n width to offset (Immediate imm) rest d f h =
    insn_by n (0x62 + 8 * size_code width) to 0 (offset_field offset) (imm_field imm) rest (StoreImmediate width) 0 d (omega arith) (other_row_is (StoreImmediate width) tt) refl refl
    ∙ ap (λ (z : ℤ). Ok (insns.Store width to z (Immediate (cast_signed w32 (imm_field imm))))) (signed16 offset f)
    ∙ ap (λ (z : ℤ). Ok (insns.Store width to offset (Immediate z))) (signed32 imm h)
store_again n width to offset (Register src) rest d f h =
    insn_by n (0x63 + 8 * size_code width) to src (offset_field offset) 0 rest (StoreRegister width) 0 d h (other_row_is (StoreRegister width) tt) refl refl
    ∙ ap (λ (z : ℤ). Ok (insns.Store width to z (Register src))) (signed16 offset f)

pub insn_again : (n : ℕ) (i : Insn) (rest : List ℕ) → Fits i → insn_at n (bytes_of i ++ rest) ≡ Ok i
insn_again n (insns.Alu bits operation dst source) rest h = alu_again n bits operation dst source rest h.0 h.1
insn_again n (insns.Neg bits dst) rest h = insn_by n (alu_class bits + 0x80) dst 0 0 0 rest (Neg bits) 0 h (omega arith) (other_row_is (Neg bits) tt) refl refl
insn_again n (insns.Mov bits dst source) rest h = mov_again n bits dst source rest h.0 h.1
insn_again n (insns.MovSigned extension dst src) rest h = signed_move_again n extension dst src rest h.0 h.1
insn_again n (insns.End order width dst) rest h = end_again n order width dst rest h
insn_again n (insns.LoadWide dst value) rest h =
    let half : high_half Wide (slot 0 0 0 0 (value / 2 ^ 32) ++ rest) ≡ Some (value / 2 ^ 32) = ap (λ (o : Option Fields). option_and_then second_half o) (fields_of-slot 0 0 0 0 (value / 2 ^ 32) rest (omega arith)) in
    insn_by n 0x18 dst 0 0 (value % 2 ^ 32) (slot 0 0 0 0 (value / 2 ^ 32) ++ rest) Wide (value / 2 ^ 32) h.0 (omega arith) (other_row_is Wide tt) refl half
    ∙ ap (λ (v : ℕ). Ok (insns.LoadWide dst v)) (low_and_high value)
insn_again n (insns.Load width dst from offset) rest h =
    insn_by n (0x61 + 8 * size_code width) dst from (offset_field offset) 0 rest (Load width) 0 h.0 h.1 (other_row_is (Load width) tt) refl refl
    ∙ ap (λ (z : ℤ). Ok (insns.Load width dst from z)) (signed16 offset h.2)
insn_again n (insns.LoadSigned width dst from offset) rest h =
    insn_by n (0x81 + 8 * signed_size_code width) dst from (offset_field offset) 0 rest (LoadSigned width) 0 h.0 h.1 (other_row_is (LoadSigned width) tt) refl refl
    ∙ ap (λ (z : ℤ). Ok (insns.LoadSigned width dst from z)) (signed16 offset h.2)
insn_again n (insns.Store width to offset source) rest h = store_again n width to offset source rest h.0 h.1 h.2
insn_again n (insns.Jump offset) rest h =
    insn_by n 0x05 0 0 (offset_field offset) 0 rest Jump 0 (omega arith) (omega arith) (other_row_is Jump tt) refl refl
    ∙ ap (λ (z : ℤ). Ok (insns.Jump z)) (signed16 offset h)
insn_again n (insns.JumpLong distance) rest h =
    insn_by n 0x06 0 0 0 (imm_field distance) rest JumpLong 0 (omega arith) (omega arith) (other_row_is JumpLong tt) refl refl
    ∙ ap (λ (z : ℤ). Ok (insns.JumpLong z)) (signed32 distance h)
insn_again n (insns.Branch bits comparison dst source offset) rest h = branch_again n bits comparison dst source offset rest h.0 h.1 h.2
insn_again n (insns.Call helper) rest h =
    insn_by n 0x85 0 0 0 helper rest Call 0 (omega arith) (omega arith) (other_row_is Call tt) refl refl
insn_again n (insns.CallLocal distance) rest h =
    insn_by n 0x85 0 1 0 (imm_field distance) rest Call 0 (omega arith) (omega arith) (other_row_is Call tt) refl refl
    ∙ ap (λ (z : ℤ). Ok (insns.CallLocal z)) (signed32 distance h)
insn_again n insns.Exit rest h =
    insn_by n 0x95 0 0 0 0 rest Exit 0 (omega arith) (omega arith) (other_row_is Exit tt) refl refl
