-- The bytes of an instruction weigh what it does.
use Rattle.std.proofs.Common.{◌≡◌, ℕ, ◌+◌, ◌*◌, ◌/◌, ◌≤◌, List, ◌++◌, Option, Some, None, Bool, true, false, refl, ap, ◌∙◌, arith}
use Rattle.std.specs.Prelude.{◌==◌, ◌&&◌, if◌then◌else◌}
use Rattle.std.proofs.lemmas.Bool.{eqb-true}
use Rattle.bpf_decode.specs.Fields.{fields_of}
use Rattle.bpf_decode.specs.declared.slot.Slot.{Slot}
use Rattle.bpf_decode.specs.declared.operation.OpWidth.TheVariants.{Bits32, Bits64}
use Rattle.bpf_decode.specs.declared.operation.Comparison.{Comparison}
use Rattle.bpf_decode.specs.declared.operation.Comparison.TheVariants.{Equal, Greater, GreaterEqual, SharesBits, NotEqual, SignedGreater, SignedGreaterEqual, Less, LessEqual, SignedLess, SignedLessEqual}
use Rattle.bpf_decode.specs.declared.operation.SignedMove.TheVariants.{Byte64, Half64, Word64, Byte32, Half32}
use Rattle.bpf_decode.specs.declared.operation.ByteOrder.TheVariants.{ToLittle, ToBig, Swap}
use Rattle.bpf_decode.specs.declared.access.Width.TheVariants.{Byte, Half, Word, Double}
use Rattle.bpf_decode.specs.declared.access.SignedWidth.TheVariants as signed
use Rattle.bpf_decode.specs.declared.insn.Operand.TheVariants.{Immediate, Register}
use Rattle.bpf_decode.specs.declared.insn.Insn.{Insn}
use Rattle.bpf_decode.specs.declared.insn.Insn.TheVariants.{Alu, Neg, Mov, MovSigned, End, LoadWide, Load, LoadSigned, Store, Jump, JumpLong, Branch, Call, CallLocal, Exit}
use Rattle.bpf_decode.specs.Instruction.{bytes_of, slot, spelling, slots, AllFit, jump_class, comparison_code, operation_offset, imm_field, offset_field}
use Rattle.bpf_machine.specs.Flat.{at_slot}
use Rattle.bpf_machine.specs.Typed.{fetch}
use Rattle.bpf_machine.proofs.Fetch.{begins}
use Rattle.loop_machine.specs.Runs.{weight_by, weight_at}
use Rattle.loop_machine.specs.Typed.{weight_of}

-- an opcode that isn't a call's
other : (opcode dst src offset imm : ℕ) (rest : List ℕ) → (opcode ≡ 0x85 → ⊥) → weight_by (fields_of (slot opcode dst src offset imm ++ rest)) ≡ 1
other opcode dst src offset imm rest h = ap (λ b. if b && ((dst + 16 * src) / 16 == 0) then 64 else 1) (not_equal (opcode == 0x85) refl)
  where
    not_equal : (b : Bool) → (opcode == 0x85) ≡ b → (opcode == 0x85) ≡ false
    not_equal true e = absurd (h (eqb-true opcode 0x85 e))
    not_equal false e = e

-- no comparison has that code
no_call : (c : Comparison) → jump_class Bits64 + 16 * comparison_code c ≡ 0x85 → ⊥
no_call Equal e = omega arith
no_call Greater e = omega arith
no_call GreaterEqual e = omega arith
no_call SharesBits e = omega arith
no_call NotEqual e = omega arith
no_call SignedGreater e = omega arith
no_call SignedGreaterEqual e = omega arith
no_call Less e = omega arith
no_call LessEqual e = omega arith
no_call SignedLess e = omega arith
no_call SignedLessEqual e = omega arith

weight_spelled : (i : Insn) (rest : List ℕ) → weight_by (fields_of (bytes_of i ++ rest)) ≡ weight_of i
weight_spelled (Alu Bits32 operation dst (Immediate imm)) rest = other _ dst 0 (operation_offset operation) (imm_field imm) rest (λ e. omega arith)
weight_spelled (Alu Bits32 operation dst (Register src)) rest = other _ dst src (operation_offset operation) 0 rest (λ e. omega arith)
weight_spelled (Alu Bits64 operation dst (Immediate imm)) rest = other _ dst 0 (operation_offset operation) (imm_field imm) rest (λ e. omega arith)
weight_spelled (Alu Bits64 operation dst (Register src)) rest = other _ dst src (operation_offset operation) 0 rest (λ e. omega arith)
weight_spelled (Neg Bits32 dst) rest = refl
weight_spelled (Neg Bits64 dst) rest = refl
weight_spelled (Mov Bits32 dst (Immediate imm)) rest = refl
weight_spelled (Mov Bits32 dst (Register src)) rest = refl
weight_spelled (Mov Bits64 dst (Immediate imm)) rest = refl
weight_spelled (Mov Bits64 dst (Register src)) rest = refl
weight_spelled (MovSigned Byte64 dst src) rest = refl
weight_spelled (MovSigned Half64 dst src) rest = refl
weight_spelled (MovSigned Word64 dst src) rest = refl
weight_spelled (MovSigned Byte32 dst src) rest = refl
weight_spelled (MovSigned Half32 dst src) rest = refl
weight_spelled (End ToLittle width dst) rest = refl
weight_spelled (End ToBig width dst) rest = refl
weight_spelled (End Swap width dst) rest = refl
weight_spelled (LoadWide dst value) rest = refl
weight_spelled (Load Byte dst from offset) rest = refl
weight_spelled (Load Half dst from offset) rest = refl
weight_spelled (Load Word dst from offset) rest = refl
weight_spelled (Load Double dst from offset) rest = refl
weight_spelled (LoadSigned signed.Byte dst from offset) rest = refl
weight_spelled (LoadSigned signed.Half dst from offset) rest = refl
weight_spelled (LoadSigned signed.Word dst from offset) rest = refl
weight_spelled (Store Byte to offset (Immediate imm)) rest = refl
weight_spelled (Store Half to offset (Immediate imm)) rest = refl
weight_spelled (Store Word to offset (Immediate imm)) rest = refl
weight_spelled (Store Double to offset (Immediate imm)) rest = refl
weight_spelled (Store Byte to offset (Register src)) rest = refl
weight_spelled (Store Half to offset (Register src)) rest = refl
weight_spelled (Store Word to offset (Register src)) rest = refl
weight_spelled (Store Double to offset (Register src)) rest = refl
weight_spelled (Jump offset) rest = refl
weight_spelled (JumpLong distance) rest = refl
weight_spelled (Branch Bits32 comparison dst (Immediate imm) offset) rest = other _ dst 0 (offset_field offset) (imm_field imm) rest (λ e. omega arith)
weight_spelled (Branch Bits32 comparison dst (Register src) offset) rest = other _ dst src (offset_field offset) 0 rest (λ e. omega arith)
weight_spelled (Branch Bits64 comparison dst (Immediate imm) offset) rest = other _ dst 0 (offset_field offset) (imm_field imm) rest (λ e. no_call comparison e)
weight_spelled (Branch Bits64 comparison dst (Register src) offset) rest = other _ dst src (offset_field offset) 0 rest (λ e. omega arith)
weight_spelled (Call helper) rest = refl
weight_spelled (CallLocal distance) rest = refl
weight_spelled Exit rest = refl

pub weighs : (is : List Insn) → AllFit is → (p : ℕ) (i : Insn) → fetch (slots is) p ≡ Some i → weight_at (spelling is) p ≡ weight_of i
weighs is fit p i e =
    let b = begins is p i fit e in
    ap (λ bytes. weight_by (fields_of bytes)) b.bytes ∙ weight_spelled i b.rest

-- nothing weighs less than 1
pub bytes_weigh : (code : List ℕ) (p : ℕ) → 1 ≤ weight_at code p
bytes_weigh code p = by (fields_of (at_slot code p))
  where
    either : (b : Bool) → 1 ≤ (if b then 64 else 1)
    either true = omega arith
    either false = omega arith

    by : (o : Option Slot) → 1 ≤ weight_by o
    by None = omega arith
    by (Some f) = either ((f.opcode == 0x85) && (f.src == 0))

pub instructions_weigh : (i : Insn) → 1 ≤ weight_of i
instructions_weigh (Call helper) = omega arith
instructions_weigh i = omega arith
