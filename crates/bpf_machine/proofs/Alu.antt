-- Arithmetic and the wide load: each instruction's bytes, and its image.
use Rattle.std.proofs.Common.{◌≡◌, ℕ, ◌+◌, ◌*◌, ◌/◌, ◌%◌, ◌^◌, ◌≤◌, List, ◌++◌, Some, refl, ap, ◌∙◌, arith}
use Rattle.bpf_decode.specs.declared.operation.OpWidth.{OpWidth}
use Rattle.bpf_decode.specs.declared.operation.OpWidth.TheVariants.{Bits32, Bits64}
use Rattle.bpf_decode.specs.declared.operation.Arithmetic.{Arithmetic}
use Rattle.bpf_decode.specs.declared.operation.Arithmetic.TheVariants.{Add, Sub, Mul, Div, SignedDiv, Or, And, Lsh, Rsh, Mod, SignedMod, Xor, Arsh}
use Rattle.bpf_decode.specs.declared.operation.SignedMove.{SignedMove}
use Rattle.bpf_decode.specs.declared.operation.SignedMove.TheVariants.{Byte64, Half64, Word64, Byte32, Half32}
use Rattle.bpf_decode.specs.declared.operation.ByteOrder.{ByteOrder}
use Rattle.bpf_decode.specs.declared.operation.ByteOrder.TheVariants.{ToLittle, ToBig, Swap}
use Rattle.bpf_decode.specs.declared.operation.EndWidth.{EndWidth}
use Rattle.bpf_decode.specs.declared.operation.EndWidth.TheVariants.{End16, End32, End64}
use Rattle.bpf_decode.specs.declared.insn.Operand.{Operand}
use Rattle.bpf_decode.specs.declared.insn.Operand.TheVariants.{Immediate, Register}
use Rattle.bpf_decode.specs.declared.insn.Insn.TheVariants.{Alu, Neg, Mov, MovSigned, End, LoadWide}
use Rattle.bpf_decode.specs.Instruction.{bytes_of, slot, imm_field, OperandFits, alu_class, operation_code, operation_offset}
use Rattle.bpf_decode.specs.declared.value.Value.TheVariants.{Num}
use Rattle.bpf_machine.specs.declared.caps.Caps.{Caps}
use Rattle.bpf_decode.specs.Arithmetic.{alu_value, neg_value, mov_value, signed_move_value, end_value}
use Rattle.bpf_machine.specs.State.{◌>>=◌, State, reg, set_reg, go}
use Rattle.bpf_machine.specs.Flat.{Layout, signed32, act, act_on, flat_after}
use Rattle.bpf_machine.specs.Typed.{Typed, alu_values, mov_values, typed_act, address, image}
use Rattle.bpf_machine.specs.Decoded.{insn_act}
use Rattle.bpf_machine.proofs.Sim.{Sim, Any, sim_some, sim_bind}
use Rattle.bpf_machine.proofs.Slot.{row, slot_fields, by_row, imm_extended, wide_halves}
use Rattle.bpf_machine.proofs.Registers.{register, sets, operand, alus, movs, number_in, after_sim}

module _ (caps : Caps) (lay : Layout) where
  -- the rows of an operation by an immediate
  imm_row : (bits : OpWidth) (operation : Arithmetic) (dst imm : ℕ) (rest : List ℕ) (s : State ℕ) → dst ≤ 10 → act_on caps lay (slot (alu_class bits + 16 * operation_code operation) dst 0 (operation_offset operation) imm ++ rest) s ≡ (reg s dst >>= λ x. flat_after caps lay s (set_reg s dst (alu_value bits operation x (signed32 imm))))
  imm_row Bits32 Add dst imm rest s h = by_row caps lay 0x04 dst 0 0 imm rest s h
  imm_row Bits32 Sub dst imm rest s h = by_row caps lay 0x14 dst 0 0 imm rest s h
  imm_row Bits32 Mul dst imm rest s h = by_row caps lay 0x24 dst 0 0 imm rest s h
  imm_row Bits32 Div dst imm rest s h = by_row caps lay 0x34 dst 0 0 imm rest s h
  imm_row Bits32 SignedDiv dst imm rest s h = by_row caps lay 0x34 dst 0 1 imm rest s h
  imm_row Bits32 Or dst imm rest s h = by_row caps lay 0x44 dst 0 0 imm rest s h
  imm_row Bits32 And dst imm rest s h = by_row caps lay 0x54 dst 0 0 imm rest s h
  imm_row Bits32 Lsh dst imm rest s h = by_row caps lay 0x64 dst 0 0 imm rest s h
  imm_row Bits32 Rsh dst imm rest s h = by_row caps lay 0x74 dst 0 0 imm rest s h
  imm_row Bits32 Mod dst imm rest s h = by_row caps lay 0x94 dst 0 0 imm rest s h
  imm_row Bits32 SignedMod dst imm rest s h = by_row caps lay 0x94 dst 0 1 imm rest s h
  imm_row Bits32 Xor dst imm rest s h = by_row caps lay 0xa4 dst 0 0 imm rest s h
  imm_row Bits32 Arsh dst imm rest s h = by_row caps lay 0xc4 dst 0 0 imm rest s h
  imm_row Bits64 Add dst imm rest s h = by_row caps lay 0x07 dst 0 0 imm rest s h
  imm_row Bits64 Sub dst imm rest s h = by_row caps lay 0x17 dst 0 0 imm rest s h
  imm_row Bits64 Mul dst imm rest s h = by_row caps lay 0x27 dst 0 0 imm rest s h
  imm_row Bits64 Div dst imm rest s h = by_row caps lay 0x37 dst 0 0 imm rest s h
  imm_row Bits64 SignedDiv dst imm rest s h = by_row caps lay 0x37 dst 0 1 imm rest s h
  imm_row Bits64 Or dst imm rest s h = by_row caps lay 0x47 dst 0 0 imm rest s h
  imm_row Bits64 And dst imm rest s h = by_row caps lay 0x57 dst 0 0 imm rest s h
  imm_row Bits64 Lsh dst imm rest s h = by_row caps lay 0x67 dst 0 0 imm rest s h
  imm_row Bits64 Rsh dst imm rest s h = by_row caps lay 0x77 dst 0 0 imm rest s h
  imm_row Bits64 Mod dst imm rest s h = by_row caps lay 0x97 dst 0 0 imm rest s h
  imm_row Bits64 SignedMod dst imm rest s h = by_row caps lay 0x97 dst 0 1 imm rest s h
  imm_row Bits64 Xor dst imm rest s h = by_row caps lay 0xa7 dst 0 0 imm rest s h
  imm_row Bits64 Arsh dst imm rest s h = by_row caps lay 0xc7 dst 0 0 imm rest s h

  -- and by a register
  reg_row : (bits : OpWidth) (operation : Arithmetic) (dst src : ℕ) (rest : List ℕ) (s : State ℕ) → dst ≤ 10 → act_on caps lay (slot (alu_class bits + 8 + 16 * operation_code operation) dst src (operation_offset operation) 0 ++ rest) s ≡ (reg s src >>= λ y. reg s dst >>= λ x. flat_after caps lay s (set_reg s dst (alu_value bits operation x y)))
  reg_row Bits32 Add dst src rest s h = by_row caps lay 0x0c dst src 0 0 rest s h
  reg_row Bits32 Sub dst src rest s h = by_row caps lay 0x1c dst src 0 0 rest s h
  reg_row Bits32 Mul dst src rest s h = by_row caps lay 0x2c dst src 0 0 rest s h
  reg_row Bits32 Div dst src rest s h = by_row caps lay 0x3c dst src 0 0 rest s h
  reg_row Bits32 SignedDiv dst src rest s h = by_row caps lay 0x3c dst src 1 0 rest s h
  reg_row Bits32 Or dst src rest s h = by_row caps lay 0x4c dst src 0 0 rest s h
  reg_row Bits32 And dst src rest s h = by_row caps lay 0x5c dst src 0 0 rest s h
  reg_row Bits32 Lsh dst src rest s h = by_row caps lay 0x6c dst src 0 0 rest s h
  reg_row Bits32 Rsh dst src rest s h = by_row caps lay 0x7c dst src 0 0 rest s h
  reg_row Bits32 Mod dst src rest s h = by_row caps lay 0x9c dst src 0 0 rest s h
  reg_row Bits32 SignedMod dst src rest s h = by_row caps lay 0x9c dst src 1 0 rest s h
  reg_row Bits32 Xor dst src rest s h = by_row caps lay 0xac dst src 0 0 rest s h
  reg_row Bits32 Arsh dst src rest s h = by_row caps lay 0xcc dst src 0 0 rest s h
  reg_row Bits64 Add dst src rest s h = by_row caps lay 0x0f dst src 0 0 rest s h
  reg_row Bits64 Sub dst src rest s h = by_row caps lay 0x1f dst src 0 0 rest s h
  reg_row Bits64 Mul dst src rest s h = by_row caps lay 0x2f dst src 0 0 rest s h
  reg_row Bits64 Div dst src rest s h = by_row caps lay 0x3f dst src 0 0 rest s h
  reg_row Bits64 SignedDiv dst src rest s h = by_row caps lay 0x3f dst src 1 0 rest s h
  reg_row Bits64 Or dst src rest s h = by_row caps lay 0x4f dst src 0 0 rest s h
  reg_row Bits64 And dst src rest s h = by_row caps lay 0x5f dst src 0 0 rest s h
  reg_row Bits64 Lsh dst src rest s h = by_row caps lay 0x6f dst src 0 0 rest s h
  reg_row Bits64 Rsh dst src rest s h = by_row caps lay 0x7f dst src 0 0 rest s h
  reg_row Bits64 Mod dst src rest s h = by_row caps lay 0x9f dst src 0 0 rest s h
  reg_row Bits64 SignedMod dst src rest s h = by_row caps lay 0x9f dst src 1 0 rest s h
  reg_row Bits64 Xor dst src rest s h = by_row caps lay 0xaf dst src 0 0 rest s h
  reg_row Bits64 Arsh dst src rest s h = by_row caps lay 0xcf dst src 0 0 rest s h

  pub alu_acts : (bits : OpWidth) (operation : Arithmetic) (dst : ℕ) (source : Operand) (rest : List ℕ) (s : State ℕ) → dst ≤ 10 → OperandFits source → act_on caps lay (bytes_of (Alu bits operation dst source) ++ rest) s ≡ insn_act caps lay (Alu bits operation dst source) s
  alu_acts bits operation dst (Immediate imm) rest s d f =
      imm_row bits operation dst (imm_field imm) rest s d
      ∙ ap (λ y. reg s dst >>= λ x. flat_after caps lay s (set_reg s dst (alu_value bits operation x y))) (imm_extended imm f)
  alu_acts bits operation dst (Register src) rest s d f = reg_row bits operation dst src rest s d

  pub neg_acts : (bits : OpWidth) (dst : ℕ) (rest : List ℕ) (s : State ℕ) → dst ≤ 10 → act_on caps lay (bytes_of (Neg bits dst) ++ rest) s ≡ insn_act caps lay (Neg bits dst) s
  neg_acts Bits32 dst rest s d = by_row caps lay 0x84 dst 0 0 0 rest s d
  neg_acts Bits64 dst rest s d = by_row caps lay 0x87 dst 0 0 0 rest s d

  pub mov_acts : (bits : OpWidth) (dst : ℕ) (source : Operand) (rest : List ℕ) (s : State ℕ) → dst ≤ 10 → OperandFits source → act_on caps lay (bytes_of (Mov bits dst source) ++ rest) s ≡ insn_act caps lay (Mov bits dst source) s
  mov_acts Bits32 dst (Immediate imm) rest s d f =
      by_row caps lay 0xb4 dst 0 0 (imm_field imm) rest s d ∙ ap (λ y. flat_after caps lay s (set_reg s dst (mov_value Bits32 y))) (imm_extended imm f)
  mov_acts Bits64 dst (Immediate imm) rest s d f =
      by_row caps lay 0xb7 dst 0 0 (imm_field imm) rest s d ∙ ap (λ y. flat_after caps lay s (set_reg s dst (mov_value Bits64 y))) (imm_extended imm f)
  mov_acts Bits32 dst (Register src) rest s d f = by_row caps lay 0xbc dst src 0 0 rest s d
  mov_acts Bits64 dst (Register src) rest s d f = by_row caps lay 0xbf dst src 0 0 rest s d

  pub signed_move_acts : (extension : SignedMove) (dst src : ℕ) (rest : List ℕ) (s : State ℕ) → dst ≤ 10 → act_on caps lay (bytes_of (MovSigned extension dst src) ++ rest) s ≡ insn_act caps lay (MovSigned extension dst src) s
  signed_move_acts Byte64 dst src rest s d = by_row caps lay 0xbf dst src 8 0 rest s d
  signed_move_acts Half64 dst src rest s d = by_row caps lay 0xbf dst src 16 0 rest s d
  signed_move_acts Word64 dst src rest s d = by_row caps lay 0xbf dst src 32 0 rest s d
  signed_move_acts Byte32 dst src rest s d = by_row caps lay 0xbc dst src 8 0 rest s d
  signed_move_acts Half32 dst src rest s d = by_row caps lay 0xbc dst src 16 0 rest s d

  pub end_acts : (order : ByteOrder) (width : EndWidth) (dst : ℕ) (rest : List ℕ) (s : State ℕ) → dst ≤ 10 → act_on caps lay (bytes_of (End order width dst) ++ rest) s ≡ insn_act caps lay (End order width dst) s
  end_acts ToLittle End16 dst rest s d = by_row caps lay 0xd4 dst 0 0 16 rest s d
  end_acts ToLittle End32 dst rest s d = by_row caps lay 0xd4 dst 0 0 32 rest s d
  end_acts ToLittle End64 dst rest s d = by_row caps lay 0xd4 dst 0 0 64 rest s d
  end_acts ToBig End16 dst rest s d = by_row caps lay 0xdc dst 0 0 16 rest s d
  end_acts ToBig End32 dst rest s d = by_row caps lay 0xdc dst 0 0 32 rest s d
  end_acts ToBig End64 dst rest s d = by_row caps lay 0xdc dst 0 0 64 rest s d
  end_acts Swap End16 dst rest s d = by_row caps lay 0xd7 dst 0 0 16 rest s d
  end_acts Swap End32 dst rest s d = by_row caps lay 0xd7 dst 0 0 32 rest s d
  end_acts Swap End64 dst rest s d = by_row caps lay 0xd7 dst 0 0 64 rest s d

  pub wide_acts : (dst value : ℕ) (rest : List ℕ) (s : State ℕ) → dst ≤ 10 → act_on caps lay (bytes_of (LoadWide dst value) ++ rest) s ≡ insn_act caps lay (LoadWide dst value) s
  wide_acts dst value rest s d =
      by_row caps lay 0x18 dst 0 0 (value % 2 ^ 32) (slot 0 0 0 0 (value / 2 ^ 32) ++ rest) s d
      ∙ ap (λ next. act caps lay (row 0x18 dst 0 0 (value % 2 ^ 32)) next s) (slot_fields 0 0 0 0 (value / 2 ^ 32) rest (omega arith))
      ∙ ap (λ v. set_reg s dst v >>= λ t. Some (go (s.slot + 2) t)) (wide_halves value)

  pub alu_sim : (bits : OpWidth) (operation : Arithmetic) (dst : ℕ) (source : Operand) (s : Typed) → Sim Any (image lay) (typed_act caps (Alu bits operation dst source) s) (insn_act caps lay (Alu bits operation dst source) (image lay s))
  alu_sim bits operation dst source s =
      sim_bind Any (address lay) Any (image lay) _ _ _ _ (operand caps lay s source) (λ y _ _.
      sim_bind Any (address lay) Any (image lay) _ _ _ _ (register caps lay s dst) (λ x _ _.
      after_sim caps lay s _ _
      (sim_bind Any (address lay) Any (image lay) (alu_values bits operation x y) (Some (alu_value bits operation (address lay x) (address lay y))) _ (λ n. set_reg (image lay s) dst n) (alus caps lay bits operation x y) (λ v _ _. sets caps lay s dst v))))

  pub neg_sim : (bits : OpWidth) (dst : ℕ) (s : Typed) → Sim Any (image lay) (typed_act caps (Neg bits dst) s) (insn_act caps lay (Neg bits dst) (image lay s))
  neg_sim bits dst s =
      number_in caps lay (image lay) s dst _ (λ n. flat_after caps lay (image lay s) (set_reg (image lay s) dst (neg_value bits n))) (λ n. after_sim caps lay s _ _ (sets caps lay s dst (Num (neg_value bits n))))

  pub mov_sim : (bits : OpWidth) (dst : ℕ) (source : Operand) (s : Typed) → Sim Any (image lay) (typed_act caps (Mov bits dst source) s) (insn_act caps lay (Mov bits dst source) (image lay s))
  mov_sim bits dst source s =
      sim_bind Any (address lay) Any (image lay) _ _ _ _ (operand caps lay s source) (λ y _ _.
      after_sim caps lay s _ _
      (sim_bind Any (address lay) Any (image lay) (mov_values bits y) (Some (mov_value bits (address lay y))) _ (λ n. set_reg (image lay s) dst n) (movs caps lay bits y) (λ v _ _. sets caps lay s dst v)))

  pub signed_move_sim : (extension : SignedMove) (dst src : ℕ) (s : Typed) → Sim Any (image lay) (typed_act caps (MovSigned extension dst src) s) (insn_act caps lay (MovSigned extension dst src) (image lay s))
  signed_move_sim extension dst src s =
      number_in caps lay (image lay) s src _ (λ n. flat_after caps lay (image lay s) (set_reg (image lay s) dst (signed_move_value extension n))) (λ n. after_sim caps lay s _ _ (sets caps lay s dst (Num (signed_move_value extension n))))

  pub end_sim : (order : ByteOrder) (width : EndWidth) (dst : ℕ) (s : Typed) → Sim Any (image lay) (typed_act caps (End order width dst) s) (insn_act caps lay (End order width dst) (image lay s))
  end_sim order width dst s =
      number_in caps lay (image lay) s dst _ (λ n. flat_after caps lay (image lay s) (set_reg (image lay s) dst (end_value order width n))) (λ n. after_sim caps lay s _ _ (sets caps lay s dst (Num (end_value order width n))))

  pub wide_sim : (dst value : ℕ) (s : Typed) → Sim Any (image lay) (typed_act caps (LoadWide dst value) s) (insn_act caps lay (LoadWide dst value) (image lay s))
  wide_sim dst value s = sim_bind Any (image lay) Any (image lay) _ _ _ _ (sets caps lay s dst (Num value)) (λ t _ h. sim_some _ _ _ _ h refl)
