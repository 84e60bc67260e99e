-- The table, row by row: an instruction's bytes do what the instruction does, and that is the image
-- of the typed step.
use Rattle.std.proofs.Common.{◌≡◌, ℕ, List, ◌++◌, Option, Some, None, refl, arith}
use Rattle.bpf_decode.specs.declared.access.Width.TheVariants.{Byte, Half, Word, Double}
use Rattle.bpf_decode.specs.declared.access.SignedWidth.TheVariants as signed
use Rattle.bpf_decode.specs.declared.operation.OpWidth.TheVariants.{Bits32, Bits64}
use Rattle.bpf_decode.specs.declared.operation.Arithmetic.TheVariants.{Add, Sub, Mul, Div, SignedDiv, Or, And, Lsh, Rsh, Mod, SignedMod, Xor, Arsh}
use Rattle.bpf_decode.specs.declared.operation.SignedMove.TheVariants.{Byte64, Half64, Word64, Byte32, Half32}
use Rattle.bpf_decode.specs.declared.operation.ByteOrder.TheVariants.{ToLittle, ToBig, Swap}
use Rattle.bpf_decode.specs.declared.operation.Comparison.TheVariants.{Equal, Greater, GreaterEqual, SharesBits, NotEqual, SignedGreater, SignedGreaterEqual, Less, LessEqual, SignedLess, SignedLessEqual}
use Rattle.bpf_decode.specs.declared.insn.Operand.TheVariants.{Immediate, Register}
use Rattle.bpf_decode.specs.declared.insn.Insn.{Insn}
use Rattle.bpf_decode.specs.declared.insn.Insn.TheVariants.{Alu, Neg, Mov, MovSigned, End, LoadWide, Load, LoadSigned, Store, Jump, JumpLong, Branch, Call, CallLocal, Exit}
use Rattle.bpf_decode.specs.Instruction.{bytes_of, imm_field, Fits}
use Rattle.bpf_machine.specs.declared.caps.Caps.{Caps}
use Rattle.bpf_machine.specs.State.{◌>>=◌, State, reg}
use Rattle.bpf_machine.specs.Flat.{Layout, IsLayout, act_on, exit_on}
use Rattle.bpf_machine.specs.Typed.{Typed, number, typed_act, typed_exit_of, address, image}
use Rattle.bpf_machine.specs.Decoded.{insn_act, insn_exit_of}
use Rattle.bpf_machine.proofs.Sim.{Sim, Any, same, sim_none, sim_some, sim_eq, sim_bind}
use Rattle.bpf_machine.proofs.Slot.{by_row}
use Rattle.bpf_machine.proofs.Registers.{register, numbers, after_sim}
use Rattle.bpf_machine.proofs.Alu.{alu_acts, neg_acts, mov_acts, signed_move_acts, end_acts, wide_acts, alu_sim, neg_sim, mov_sim, signed_move_sim, end_sim, wide_sim}
use Rattle.bpf_machine.proofs.Access.{load_acts, signed_load_acts, store_acts, load_sim, signed_load_sim, store_sim}
use Rattle.bpf_machine.proofs.Jumps.{jump_acts, long_jump_acts, branch_acts, branch_sim}
use Rattle.bpf_machine.proofs.Helpers.{help_sim}

bind_Some : {A : Type 0} (o : Option A) → o ≡ (o >>= λ x. Some x)
bind_Some None = refl
bind_Some (Some x) = refl

module _ (caps : Caps) (lay : Layout) where
  pub act_spelled : (i : Insn) (rest : List ℕ) (s : State ℕ) → Fits i → act_on caps lay (bytes_of i ++ rest) s ≡ insn_act caps lay i s
  act_spelled (Alu bits operation dst source) rest s h = alu_acts caps lay bits operation dst source rest s h.0 h.1
  act_spelled (Neg bits dst) rest s h = neg_acts caps lay bits dst rest s h
  act_spelled (Mov bits dst source) rest s h = mov_acts caps lay bits dst source rest s h.0 h.1
  act_spelled (MovSigned extension dst src) rest s h = signed_move_acts caps lay extension dst src rest s h.0
  act_spelled (End order width dst) rest s h = end_acts caps lay order width dst rest s h
  act_spelled (LoadWide dst value) rest s h = wide_acts caps lay dst value rest s h.0
  act_spelled (Load width dst base offset) rest s h = load_acts caps lay width dst base offset rest s h.0 h.2
  act_spelled (LoadSigned width dst base offset) rest s h = signed_load_acts caps lay width dst base offset rest s h.0 h.2
  act_spelled (Store width base offset source) rest s h = store_acts caps lay width base offset source rest s h.0 h.1 h.2
  act_spelled (Jump offset) rest s h = jump_acts caps lay offset rest s h
  act_spelled (JumpLong distance) rest s h = long_jump_acts caps lay distance rest s h
  act_spelled (Branch bits comparison dst source offset) rest s h = branch_acts caps lay bits comparison dst source offset rest s h.0 h.1 h.2
  act_spelled (Call helper) rest s h = by_row caps lay 0x85 0 0 0 helper rest s (omega arith)
  act_spelled (CallLocal distance) rest s h = by_row caps lay 0x85 0 1 0 (imm_field distance) rest s (omega arith)
  act_spelled Exit rest s h = by_row caps lay 0x95 0 0 0 0 rest s (omega arith)

  pub exit_spelled : (i : Insn) (rest : List ℕ) (s : State ℕ) → exit_on (bytes_of i ++ rest) s ≡ insn_exit_of caps lay i s
  exit_spelled (Alu Bits32 Add dst (Immediate imm)) rest s = refl
  exit_spelled (Alu Bits32 Add dst (Register src)) rest s = refl
  exit_spelled (Alu Bits32 Sub dst (Immediate imm)) rest s = refl
  exit_spelled (Alu Bits32 Sub dst (Register src)) rest s = refl
  exit_spelled (Alu Bits32 Mul dst (Immediate imm)) rest s = refl
  exit_spelled (Alu Bits32 Mul dst (Register src)) rest s = refl
  exit_spelled (Alu Bits32 Div dst (Immediate imm)) rest s = refl
  exit_spelled (Alu Bits32 Div dst (Register src)) rest s = refl
  exit_spelled (Alu Bits32 SignedDiv dst (Immediate imm)) rest s = refl
  exit_spelled (Alu Bits32 SignedDiv dst (Register src)) rest s = refl
  exit_spelled (Alu Bits32 Or dst (Immediate imm)) rest s = refl
  exit_spelled (Alu Bits32 Or dst (Register src)) rest s = refl
  exit_spelled (Alu Bits32 And dst (Immediate imm)) rest s = refl
  exit_spelled (Alu Bits32 And dst (Register src)) rest s = refl
  exit_spelled (Alu Bits32 Lsh dst (Immediate imm)) rest s = refl
  exit_spelled (Alu Bits32 Lsh dst (Register src)) rest s = refl
  exit_spelled (Alu Bits32 Rsh dst (Immediate imm)) rest s = refl
  exit_spelled (Alu Bits32 Rsh dst (Register src)) rest s = refl
  exit_spelled (Alu Bits32 Mod dst (Immediate imm)) rest s = refl
  exit_spelled (Alu Bits32 Mod dst (Register src)) rest s = refl
  exit_spelled (Alu Bits32 SignedMod dst (Immediate imm)) rest s = refl
  exit_spelled (Alu Bits32 SignedMod dst (Register src)) rest s = refl
  exit_spelled (Alu Bits32 Xor dst (Immediate imm)) rest s = refl
  exit_spelled (Alu Bits32 Xor dst (Register src)) rest s = refl
  exit_spelled (Alu Bits32 Arsh dst (Immediate imm)) rest s = refl
  exit_spelled (Alu Bits32 Arsh dst (Register src)) rest s = refl
  exit_spelled (Alu Bits64 Add dst (Immediate imm)) rest s = refl
  exit_spelled (Alu Bits64 Add dst (Register src)) rest s = refl
  exit_spelled (Alu Bits64 Sub dst (Immediate imm)) rest s = refl
  exit_spelled (Alu Bits64 Sub dst (Register src)) rest s = refl
  exit_spelled (Alu Bits64 Mul dst (Immediate imm)) rest s = refl
  exit_spelled (Alu Bits64 Mul dst (Register src)) rest s = refl
  exit_spelled (Alu Bits64 Div dst (Immediate imm)) rest s = refl
  exit_spelled (Alu Bits64 Div dst (Register src)) rest s = refl
  exit_spelled (Alu Bits64 SignedDiv dst (Immediate imm)) rest s = refl
  exit_spelled (Alu Bits64 SignedDiv dst (Register src)) rest s = refl
  exit_spelled (Alu Bits64 Or dst (Immediate imm)) rest s = refl
  exit_spelled (Alu Bits64 Or dst (Register src)) rest s = refl
  exit_spelled (Alu Bits64 And dst (Immediate imm)) rest s = refl
  exit_spelled (Alu Bits64 And dst (Register src)) rest s = refl
  exit_spelled (Alu Bits64 Lsh dst (Immediate imm)) rest s = refl
  exit_spelled (Alu Bits64 Lsh dst (Register src)) rest s = refl
  exit_spelled (Alu Bits64 Rsh dst (Immediate imm)) rest s = refl
  exit_spelled (Alu Bits64 Rsh dst (Register src)) rest s = refl
  exit_spelled (Alu Bits64 Mod dst (Immediate imm)) rest s = refl
  exit_spelled (Alu Bits64 Mod dst (Register src)) rest s = refl
  exit_spelled (Alu Bits64 SignedMod dst (Immediate imm)) rest s = refl
  exit_spelled (Alu Bits64 SignedMod dst (Register src)) rest s = refl
  exit_spelled (Alu Bits64 Xor dst (Immediate imm)) rest s = refl
  exit_spelled (Alu Bits64 Xor dst (Register src)) rest s = refl
  exit_spelled (Alu Bits64 Arsh dst (Immediate imm)) rest s = refl
  exit_spelled (Alu Bits64 Arsh dst (Register src)) rest s = refl
  exit_spelled (Neg Bits32 dst) rest s = refl
  exit_spelled (Mov Bits32 dst (Immediate imm)) rest s = refl
  exit_spelled (Mov Bits32 dst (Register src)) rest s = refl
  exit_spelled (Neg Bits64 dst) rest s = refl
  exit_spelled (Mov Bits64 dst (Immediate imm)) rest s = refl
  exit_spelled (Mov Bits64 dst (Register src)) rest s = refl
  exit_spelled (MovSigned Byte64 dst src) rest s = refl
  exit_spelled (MovSigned Half64 dst src) rest s = refl
  exit_spelled (MovSigned Word64 dst src) rest s = refl
  exit_spelled (MovSigned Byte32 dst src) rest s = refl
  exit_spelled (MovSigned Half32 dst src) rest s = refl
  exit_spelled (End ToLittle width dst) rest s = refl
  exit_spelled (End ToBig width dst) rest s = refl
  exit_spelled (End Swap width dst) rest s = refl
  exit_spelled (LoadWide dst value) rest s = refl
  exit_spelled (Load Byte dst base offset) rest s = refl
  exit_spelled (Load Half dst base offset) rest s = refl
  exit_spelled (Load Word dst base offset) rest s = refl
  exit_spelled (Load Double dst base offset) rest s = refl
  exit_spelled (LoadSigned signed.Byte dst base offset) rest s = refl
  exit_spelled (LoadSigned signed.Half dst base offset) rest s = refl
  exit_spelled (LoadSigned signed.Word dst base offset) rest s = refl
  exit_spelled (Store Byte base offset (Immediate imm)) rest s = refl
  exit_spelled (Store Byte base offset (Register src)) rest s = refl
  exit_spelled (Store Half base offset (Immediate imm)) rest s = refl
  exit_spelled (Store Half base offset (Register src)) rest s = refl
  exit_spelled (Store Word base offset (Immediate imm)) rest s = refl
  exit_spelled (Store Word base offset (Register src)) rest s = refl
  exit_spelled (Store Double base offset (Immediate imm)) rest s = refl
  exit_spelled (Store Double base offset (Register src)) rest s = refl
  exit_spelled (Jump offset) rest s = refl
  exit_spelled (JumpLong distance) rest s = refl
  exit_spelled (Branch Bits32 Equal dst (Immediate imm) offset) rest s = refl
  exit_spelled (Branch Bits32 Equal dst (Register src) offset) rest s = refl
  exit_spelled (Branch Bits32 Greater dst (Immediate imm) offset) rest s = refl
  exit_spelled (Branch Bits32 Greater dst (Register src) offset) rest s = refl
  exit_spelled (Branch Bits32 GreaterEqual dst (Immediate imm) offset) rest s = refl
  exit_spelled (Branch Bits32 GreaterEqual dst (Register src) offset) rest s = refl
  exit_spelled (Branch Bits32 SharesBits dst (Immediate imm) offset) rest s = refl
  exit_spelled (Branch Bits32 SharesBits dst (Register src) offset) rest s = refl
  exit_spelled (Branch Bits32 NotEqual dst (Immediate imm) offset) rest s = refl
  exit_spelled (Branch Bits32 NotEqual dst (Register src) offset) rest s = refl
  exit_spelled (Branch Bits32 SignedGreater dst (Immediate imm) offset) rest s = refl
  exit_spelled (Branch Bits32 SignedGreater dst (Register src) offset) rest s = refl
  exit_spelled (Branch Bits32 SignedGreaterEqual dst (Immediate imm) offset) rest s = refl
  exit_spelled (Branch Bits32 SignedGreaterEqual dst (Register src) offset) rest s = refl
  exit_spelled (Branch Bits32 Less dst (Immediate imm) offset) rest s = refl
  exit_spelled (Branch Bits32 Less dst (Register src) offset) rest s = refl
  exit_spelled (Branch Bits32 LessEqual dst (Immediate imm) offset) rest s = refl
  exit_spelled (Branch Bits32 LessEqual dst (Register src) offset) rest s = refl
  exit_spelled (Branch Bits32 SignedLess dst (Immediate imm) offset) rest s = refl
  exit_spelled (Branch Bits32 SignedLess dst (Register src) offset) rest s = refl
  exit_spelled (Branch Bits32 SignedLessEqual dst (Immediate imm) offset) rest s = refl
  exit_spelled (Branch Bits32 SignedLessEqual dst (Register src) offset) rest s = refl
  exit_spelled (Branch Bits64 Equal dst (Immediate imm) offset) rest s = refl
  exit_spelled (Branch Bits64 Equal dst (Register src) offset) rest s = refl
  exit_spelled (Branch Bits64 Greater dst (Immediate imm) offset) rest s = refl
  exit_spelled (Branch Bits64 Greater dst (Register src) offset) rest s = refl
  exit_spelled (Branch Bits64 GreaterEqual dst (Immediate imm) offset) rest s = refl
  exit_spelled (Branch Bits64 GreaterEqual dst (Register src) offset) rest s = refl
  exit_spelled (Branch Bits64 SharesBits dst (Immediate imm) offset) rest s = refl
  exit_spelled (Branch Bits64 SharesBits dst (Register src) offset) rest s = refl
  exit_spelled (Branch Bits64 NotEqual dst (Immediate imm) offset) rest s = refl
  exit_spelled (Branch Bits64 NotEqual dst (Register src) offset) rest s = refl
  exit_spelled (Branch Bits64 SignedGreater dst (Immediate imm) offset) rest s = refl
  exit_spelled (Branch Bits64 SignedGreater dst (Register src) offset) rest s = refl
  exit_spelled (Branch Bits64 SignedGreaterEqual dst (Immediate imm) offset) rest s = refl
  exit_spelled (Branch Bits64 SignedGreaterEqual dst (Register src) offset) rest s = refl
  exit_spelled (Branch Bits64 Less dst (Immediate imm) offset) rest s = refl
  exit_spelled (Branch Bits64 Less dst (Register src) offset) rest s = refl
  exit_spelled (Branch Bits64 LessEqual dst (Immediate imm) offset) rest s = refl
  exit_spelled (Branch Bits64 LessEqual dst (Register src) offset) rest s = refl
  exit_spelled (Branch Bits64 SignedLess dst (Immediate imm) offset) rest s = refl
  exit_spelled (Branch Bits64 SignedLess dst (Register src) offset) rest s = refl
  exit_spelled (Branch Bits64 SignedLessEqual dst (Immediate imm) offset) rest s = refl
  exit_spelled (Branch Bits64 SignedLessEqual dst (Register src) offset) rest s = refl
  exit_spelled (Call helper) rest s = refl
  exit_spelled (CallLocal distance) rest s = refl
  exit_spelled Exit rest s = refl

  pub exit_sim : (i : Insn) (s : Typed) → Sim Any same (typed_exit_of i s) (insn_exit_of caps lay i (image lay s))
  exit_sim Exit s =
      sim_eq Any same (reg s 0 >>= number) (reg (image lay s) 0) (reg (image lay s) 0 >>= λ n. Some n) (bind_Some (reg (image lay s) 0))
      (sim_bind Any (address lay) Any same (reg s 0) (reg (image lay s) 0) number (λ n. Some n) (register caps lay s 0) (λ v _ _. numbers caps lay v))
  exit_sim i s = sim_none _ _ _

module _ (caps : Caps) (lay : Layout) (ok : IsLayout caps lay) where
  pub act_sim : (i : Insn) (s : Typed) → Sim Any (image lay) (typed_act caps i s) (insn_act caps lay i (image lay s))
  act_sim (Alu bits operation dst source) s = alu_sim caps lay bits operation dst source s
  act_sim (Neg bits dst) s = neg_sim caps lay bits dst s
  act_sim (Mov bits dst source) s = mov_sim caps lay bits dst source s
  act_sim (MovSigned extension dst src) s = signed_move_sim caps lay extension dst src s
  act_sim (End order width dst) s = end_sim caps lay order width dst s
  act_sim (LoadWide dst value) s = wide_sim caps lay dst value s
  act_sim (Load width dst base offset) s = load_sim caps lay ok width dst base offset s
  act_sim (LoadSigned width dst base offset) s = signed_load_sim caps lay ok width dst base offset s
  act_sim (Store width base offset source) s = store_sim caps lay ok width base offset source s
  act_sim (Jump offset) s = sim_some _ _ _ _ tt refl
  act_sim (JumpLong distance) s = sim_some _ _ _ _ tt refl
  act_sim (Branch bits comparison dst source offset) s = branch_sim caps lay bits comparison dst source offset s
  act_sim (Call helper) s = after_sim caps lay s _ _ (help_sim caps lay ok helper s)
  act_sim (CallLocal distance) s = sim_none _ _ _
  act_sim Exit s = sim_none _ _ _
