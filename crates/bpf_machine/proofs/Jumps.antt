-- Jumps: each instruction's bytes, and its image.
use Rattle.std.proofs.Common.{◌≡◌, ℕ, ◌+◌, ◌*◌, ◌%◌, ◌^◌, ◌≤◌, List, ◌++◌, Some, refl, ap, ◌∙◌, arith}
use Rattle.std.specs.Prelude.{ℤ, FitsSigned}
use Rattle.std.specs.Int.{w16, w32}
use Rattle.bpf_decode.specs.declared.operation.OpWidth.{OpWidth}
use Rattle.bpf_decode.specs.declared.operation.OpWidth.TheVariants.{Bits32, Bits64}
use Rattle.bpf_decode.specs.declared.operation.Comparison.{Comparison}
use Rattle.bpf_decode.specs.declared.operation.Comparison.TheVariants.{Equal, Greater, GreaterEqual, SharesBits, NotEqual, SignedGreater, SignedGreaterEqual, Less, LessEqual, SignedLess, SignedLessEqual}
use Rattle.bpf_decode.specs.declared.insn.Operand.{Operand}
use Rattle.bpf_decode.specs.declared.insn.Operand.TheVariants.{Immediate, Register}
use Rattle.bpf_decode.specs.declared.insn.Insn.TheVariants.{Jump, JumpLong, Branch}
use Rattle.bpf_decode.specs.Instruction.{bytes_of, slot, imm_field, offset_field, OperandFits, jump_class, comparison_code}
use Rattle.bpf_machine.specs.declared.caps.Caps.{Caps}
use Rattle.bpf_decode.specs.Arithmetic.{is_taken}
use Rattle.bpf_decode.specs.Jump.{branch_to}
use Rattle.bpf_machine.specs.State.{◌>>=◌, State, reg, go}
use Rattle.bpf_machine.specs.Flat.{Layout, signed16, signed32, act_on}
use Rattle.bpf_machine.specs.Typed.{Typed, extended, number, typed_act, address, image}
use Rattle.bpf_machine.specs.Decoded.{insn_act, operand_in}
use Rattle.bpf_machine.proofs.Sim.{Sim, Any, same, sim_some, sim_bind}
use Rattle.bpf_machine.proofs.Slot.{by_row, imm_extended, offset_extended}
use Rattle.bpf_machine.proofs.Registers.{operand, numbers, number_in}

module _ (caps : Caps) (lay : Layout) where
  pub jump_acts : (offset : ℤ) (rest : List ℕ) (s : State ℕ) → FitsSigned w16 offset → act_on caps lay (bytes_of (Jump offset) ++ rest) s ≡ insn_act caps lay (Jump offset) s
  jump_acts offset rest s f =
      by_row caps lay 0x05 0 0 (offset_field offset) 0 rest s (omega arith) ∙ ap (λ z. Some (go ((s.slot + 1 + z) % 2 ^ 64) s)) (offset_extended offset f)

  pub long_jump_acts : (distance : ℤ) (rest : List ℕ) (s : State ℕ) → FitsSigned w32 distance → act_on caps lay (bytes_of (JumpLong distance) ++ rest) s ≡ insn_act caps lay (JumpLong distance) s
  long_jump_acts distance rest s f =
      by_row caps lay 0x06 0 0 0 (imm_field distance) rest s (omega arith) ∙ ap (λ z. Some (go ((s.slot + 1 + z) % 2 ^ 64) s)) (imm_extended distance f)

  -- the rows of a comparison with an immediate
  imm_row : (bits : OpWidth) (comparison : Comparison) (dst offset imm : ℕ) (rest : List ℕ) (s : State ℕ) → dst ≤ 10 → act_on caps lay (slot (jump_class bits + 16 * comparison_code comparison) dst 0 offset imm ++ rest) s ≡ (reg s dst >>= λ x. Some (go (branch_to (is_taken bits comparison x (signed32 imm)) s.slot (signed16 offset)) s))
  imm_row Bits32 Equal dst offset imm rest s h = by_row caps lay 0x16 dst 0 offset imm rest s h
  imm_row Bits32 Greater dst offset imm rest s h = by_row caps lay 0x26 dst 0 offset imm rest s h
  imm_row Bits32 GreaterEqual dst offset imm rest s h = by_row caps lay 0x36 dst 0 offset imm rest s h
  imm_row Bits32 SharesBits dst offset imm rest s h = by_row caps lay 0x46 dst 0 offset imm rest s h
  imm_row Bits32 NotEqual dst offset imm rest s h = by_row caps lay 0x56 dst 0 offset imm rest s h
  imm_row Bits32 SignedGreater dst offset imm rest s h = by_row caps lay 0x66 dst 0 offset imm rest s h
  imm_row Bits32 SignedGreaterEqual dst offset imm rest s h = by_row caps lay 0x76 dst 0 offset imm rest s h
  imm_row Bits32 Less dst offset imm rest s h = by_row caps lay 0xa6 dst 0 offset imm rest s h
  imm_row Bits32 LessEqual dst offset imm rest s h = by_row caps lay 0xb6 dst 0 offset imm rest s h
  imm_row Bits32 SignedLess dst offset imm rest s h = by_row caps lay 0xc6 dst 0 offset imm rest s h
  imm_row Bits32 SignedLessEqual dst offset imm rest s h = by_row caps lay 0xd6 dst 0 offset imm rest s h
  imm_row Bits64 Equal dst offset imm rest s h = by_row caps lay 0x15 dst 0 offset imm rest s h
  imm_row Bits64 Greater dst offset imm rest s h = by_row caps lay 0x25 dst 0 offset imm rest s h
  imm_row Bits64 GreaterEqual dst offset imm rest s h = by_row caps lay 0x35 dst 0 offset imm rest s h
  imm_row Bits64 SharesBits dst offset imm rest s h = by_row caps lay 0x45 dst 0 offset imm rest s h
  imm_row Bits64 NotEqual dst offset imm rest s h = by_row caps lay 0x55 dst 0 offset imm rest s h
  imm_row Bits64 SignedGreater dst offset imm rest s h = by_row caps lay 0x65 dst 0 offset imm rest s h
  imm_row Bits64 SignedGreaterEqual dst offset imm rest s h = by_row caps lay 0x75 dst 0 offset imm rest s h
  imm_row Bits64 Less dst offset imm rest s h = by_row caps lay 0xa5 dst 0 offset imm rest s h
  imm_row Bits64 LessEqual dst offset imm rest s h = by_row caps lay 0xb5 dst 0 offset imm rest s h
  imm_row Bits64 SignedLess dst offset imm rest s h = by_row caps lay 0xc5 dst 0 offset imm rest s h
  imm_row Bits64 SignedLessEqual dst offset imm rest s h = by_row caps lay 0xd5 dst 0 offset imm rest s h

  -- and with a register
  reg_row : (bits : OpWidth) (comparison : Comparison) (dst src offset : ℕ) (rest : List ℕ) (s : State ℕ) → dst ≤ 10 → act_on caps lay (slot (jump_class bits + 8 + 16 * comparison_code comparison) dst src offset 0 ++ rest) s ≡ (reg s dst >>= λ x. reg s src >>= λ y. Some (go (branch_to (is_taken bits comparison x y) s.slot (signed16 offset)) s))
  reg_row Bits32 Equal dst src offset rest s h = by_row caps lay 0x1e dst src offset 0 rest s h
  reg_row Bits32 Greater dst src offset rest s h = by_row caps lay 0x2e dst src offset 0 rest s h
  reg_row Bits32 GreaterEqual dst src offset rest s h = by_row caps lay 0x3e dst src offset 0 rest s h
  reg_row Bits32 SharesBits dst src offset rest s h = by_row caps lay 0x4e dst src offset 0 rest s h
  reg_row Bits32 NotEqual dst src offset rest s h = by_row caps lay 0x5e dst src offset 0 rest s h
  reg_row Bits32 SignedGreater dst src offset rest s h = by_row caps lay 0x6e dst src offset 0 rest s h
  reg_row Bits32 SignedGreaterEqual dst src offset rest s h = by_row caps lay 0x7e dst src offset 0 rest s h
  reg_row Bits32 Less dst src offset rest s h = by_row caps lay 0xae dst src offset 0 rest s h
  reg_row Bits32 LessEqual dst src offset rest s h = by_row caps lay 0xbe dst src offset 0 rest s h
  reg_row Bits32 SignedLess dst src offset rest s h = by_row caps lay 0xce dst src offset 0 rest s h
  reg_row Bits32 SignedLessEqual dst src offset rest s h = by_row caps lay 0xde dst src offset 0 rest s h
  reg_row Bits64 Equal dst src offset rest s h = by_row caps lay 0x1d dst src offset 0 rest s h
  reg_row Bits64 Greater dst src offset rest s h = by_row caps lay 0x2d dst src offset 0 rest s h
  reg_row Bits64 GreaterEqual dst src offset rest s h = by_row caps lay 0x3d dst src offset 0 rest s h
  reg_row Bits64 SharesBits dst src offset rest s h = by_row caps lay 0x4d dst src offset 0 rest s h
  reg_row Bits64 NotEqual dst src offset rest s h = by_row caps lay 0x5d dst src offset 0 rest s h
  reg_row Bits64 SignedGreater dst src offset rest s h = by_row caps lay 0x6d dst src offset 0 rest s h
  reg_row Bits64 SignedGreaterEqual dst src offset rest s h = by_row caps lay 0x7d dst src offset 0 rest s h
  reg_row Bits64 Less dst src offset rest s h = by_row caps lay 0xad dst src offset 0 rest s h
  reg_row Bits64 LessEqual dst src offset rest s h = by_row caps lay 0xbd dst src offset 0 rest s h
  reg_row Bits64 SignedLess dst src offset rest s h = by_row caps lay 0xcd dst src offset 0 rest s h
  reg_row Bits64 SignedLessEqual dst src offset rest s h = by_row caps lay 0xdd dst src offset 0 rest s h

  pub branch_acts : (bits : OpWidth) (comparison : Comparison) (dst : ℕ) (source : Operand) (offset : ℤ) (rest : List ℕ) (s : State ℕ) → dst ≤ 10 → FitsSigned w16 offset → OperandFits source → act_on caps lay (bytes_of (Branch bits comparison dst source offset) ++ rest) s ≡ insn_act caps lay (Branch bits comparison dst source offset) s
  branch_acts bits comparison dst (Immediate imm) offset rest s d f g =
      imm_row bits comparison dst (offset_field offset) (imm_field imm) rest s d
      ∙ ap (λ z. reg s dst >>= λ x. Some (go (branch_to (is_taken bits comparison x (signed32 (imm_field imm))) s.slot z) s)) (offset_extended offset f)
      ∙ ap (λ y. reg s dst >>= λ x. Some (go (branch_to (is_taken bits comparison x y) s.slot (extended offset)) s)) (imm_extended imm g)
  branch_acts bits comparison dst (Register src) offset rest s d f g =
      reg_row bits comparison dst src (offset_field offset) rest s d
      ∙ ap (λ z. reg s dst >>= λ x. reg s src >>= λ y. Some (go (branch_to (is_taken bits comparison x y) s.slot z) s)) (offset_extended offset f)

  pub branch_sim : (bits : OpWidth) (comparison : Comparison) (dst : ℕ) (source : Operand) (offset : ℤ) (s : Typed) → Sim Any (image lay) (typed_act caps (Branch bits comparison dst source offset) s) (insn_act caps lay (Branch bits comparison dst source offset) (image lay s))
  branch_sim bits comparison dst source offset s =
      number_in caps lay (image lay) s dst _ (λ m. operand_in caps lay (image lay s) source >>= λ n. Some (go (branch_to (is_taken bits comparison m n) s.slot (extended offset)) (image lay s))) (λ m.
      sim_bind Any (address lay) Any (image lay) _ _ _ _ (operand caps lay s source) (λ y _ _.
      sim_bind Any same Any (image lay) (number y) (Some (address lay y)) _ (λ n. Some (go (branch_to (is_taken bits comparison m n) s.slot (extended offset)) (image lay s))) (numbers caps lay y) (λ n _ _. sim_some _ _ _ _ tt refl)))
