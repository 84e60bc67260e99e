-- Loads and stores: each instruction's bytes, and its image.
use Rattle.std.proofs.Common.{◌≡◌, ℕ, ◌+◌, ◌*◌, ◌%◌, ◌^◌, ◌<◌, ◌≤◌, List, ◌++◌, Some, refl, ap, ◌∙◌, arith}
use Rattle.std.specs.Prelude.{ℤ, FitsSigned}
use Rattle.std.specs.Int.{w16}
use Rattle.bpf_decode.specs.declared.access.Width.{Width}
use Rattle.bpf_decode.specs.declared.access.Width.TheVariants.{Byte, Half, Word, Double}
use Rattle.bpf_decode.specs.declared.insn.Operand.{Operand}
use Rattle.bpf_decode.specs.declared.insn.Operand.TheVariants.{Immediate, Register}
use Rattle.bpf_decode.specs.declared.insn.Insn.TheVariants.{Load, LoadSigned, Store}
use Rattle.bpf_decode.specs.declared.access.SignedWidth.{SignedWidth}
use Rattle.bpf_decode.specs.declared.access.SignedWidth.TheVariants as signed
use Rattle.bpf_decode.specs.Instruction.{byte_count, signed_byte_count, size_code, signed_size_code, bytes_of, slot, imm_field, offset_field, OperandFits}
use Rattle.bpf_decode.specs.declared.value.Value.{Value}
use Rattle.bpf_decode.specs.declared.value.Value.TheVariants.{Num}
use Rattle.bpf_machine.specs.declared.caps.Caps.{Caps}
use Rattle.object_store.specs.Object.{part}
use Rattle.bpf_machine.specs.State.{◌>>=◌, le_value, le_bytes, Memory, cells, put, may_store, State, reg, set_reg}
use Rattle.bpf_machine.specs.Flat.{Layout, IsLayout, load, load_signed, store, signed16, signed32, act_on, flat_after}
use Rattle.bpf_machine.specs.Typed.{Typed, extended, plain_bytes, value_of, cells_at, stored, typed_load, typed_load_signed, typed_store, typed_act, address, image_memory, image}
use Rattle.bpf_machine.specs.Decoded.{insn_act}
use Rattle.bpf_machine.proofs.Sim.{Sim, Any, same, sim_some, sim_if, sim_bind}
use Rattle.bpf_machine.proofs.Place.{find_sim}
use Rattle.bpf_machine.proofs.Slot.{by_row, offset_extended, imm_extended}
use Rattle.bpf_machine.proofs.Parts.{value_sim, bytes_sim, stored_sim}
use Rattle.bpf_machine.proofs.Registers.{register, operand, sets, after_sim}
use Rattle.bpf_decode.specs.Arithmetic.{signed_load_value}

module _ (caps : Caps) (lay : Layout) where
  -- the row of a load, by its width
  load_row : (width : Width) (dst base offset : ℕ) (rest : List ℕ) (s : State ℕ) → dst ≤ 10 → act_on caps lay (slot (0x61 + 8 * size_code width) dst base offset 0 ++ rest) s ≡ (reg s base >>= λ n. flat_after caps lay s (load caps lay (byte_count width) dst ((n + signed16 offset) % 2 ^ 64) s))
  load_row Byte dst base offset rest s h = by_row caps lay 0x71 dst base offset 0 rest s h
  load_row Half dst base offset rest s h = by_row caps lay 0x69 dst base offset 0 rest s h
  load_row Word dst base offset rest s h = by_row caps lay 0x61 dst base offset 0 rest s h
  load_row Double dst base offset rest s h = by_row caps lay 0x79 dst base offset 0 rest s h

  -- of a load with sign extension
  signed_load_row : (width : SignedWidth) (dst base offset : ℕ) (rest : List ℕ) (s : State ℕ) → dst ≤ 10 → act_on caps lay (slot (0x81 + 8 * signed_size_code width) dst base offset 0 ++ rest) s ≡ (reg s base >>= λ n. flat_after caps lay s (load_signed caps lay width dst ((n + signed16 offset) % 2 ^ 64) s))
  signed_load_row signed.Byte dst base offset rest s h = by_row caps lay 0x91 dst base offset 0 rest s h
  signed_load_row signed.Half dst base offset rest s h = by_row caps lay 0x89 dst base offset 0 rest s h
  signed_load_row signed.Word dst base offset rest s h = by_row caps lay 0x81 dst base offset 0 rest s h

  -- of a store of an immediate
  store_imm_row : (width : Width) (base offset imm : ℕ) (rest : List ℕ) (s : State ℕ) → base ≤ 10 → act_on caps lay (slot (0x62 + 8 * size_code width) base 0 offset imm ++ rest) s ≡ (reg s base >>= λ n. flat_after caps lay s (store caps lay (byte_count width) ((n + signed16 offset) % 2 ^ 64) (signed32 imm) s))
  store_imm_row Byte base offset imm rest s h = by_row caps lay 0x72 base 0 offset imm rest s h
  store_imm_row Half base offset imm rest s h = by_row caps lay 0x6a base 0 offset imm rest s h
  store_imm_row Word base offset imm rest s h = by_row caps lay 0x62 base 0 offset imm rest s h
  store_imm_row Double base offset imm rest s h = by_row caps lay 0x7a base 0 offset imm rest s h

  -- and of a store of a register
  store_row : (width : Width) (base src offset : ℕ) (rest : List ℕ) (s : State ℕ) → base ≤ 10 → act_on caps lay (slot (0x63 + 8 * size_code width) base src offset 0 ++ rest) s ≡ (reg s base >>= λ n. reg s src >>= λ y. flat_after caps lay s (store caps lay (byte_count width) ((n + signed16 offset) % 2 ^ 64) y s))
  store_row Byte base src offset rest s h = by_row caps lay 0x73 base src offset 0 rest s h
  store_row Half base src offset rest s h = by_row caps lay 0x6b base src offset 0 rest s h
  store_row Word base src offset rest s h = by_row caps lay 0x63 base src offset 0 rest s h
  store_row Double base src offset rest s h = by_row caps lay 0x7b base src offset 0 rest s h

  pub load_acts : (width : Width) (dst base : ℕ) (offset : ℤ) (rest : List ℕ) (s : State ℕ) → dst ≤ 10 → FitsSigned w16 offset → act_on caps lay (bytes_of (Load width dst base offset) ++ rest) s ≡ insn_act caps lay (Load width dst base offset) s
  load_acts width dst base offset rest s d f =
      load_row width dst base (offset_field offset) rest s d
      ∙ ap (λ z. reg s base >>= λ n. flat_after caps lay s (load caps lay (byte_count width) dst ((n + z) % 2 ^ 64) s)) (offset_extended offset f)

  pub signed_load_acts : (width : SignedWidth) (dst base : ℕ) (offset : ℤ) (rest : List ℕ) (s : State ℕ) → dst ≤ 10 → FitsSigned w16 offset → act_on caps lay (bytes_of (LoadSigned width dst base offset) ++ rest) s ≡ insn_act caps lay (LoadSigned width dst base offset) s
  signed_load_acts width dst base offset rest s d f =
      signed_load_row width dst base (offset_field offset) rest s d
      ∙ ap (λ z. reg s base >>= λ n. flat_after caps lay s (load_signed caps lay width dst ((n + z) % 2 ^ 64) s)) (offset_extended offset f)

  pub store_acts : (width : Width) (base : ℕ) (offset : ℤ) (source : Operand) (rest : List ℕ) (s : State ℕ) → base ≤ 10 → FitsSigned w16 offset → OperandFits source → act_on caps lay (bytes_of (Store width base offset source) ++ rest) s ≡ insn_act caps lay (Store width base offset source) s
  store_acts width base offset (Immediate imm) rest s b f g =
      store_imm_row width base (offset_field offset) (imm_field imm) rest s b
      ∙ ap (λ z. reg s base >>= λ n. flat_after caps lay s (store caps lay (byte_count width) ((n + z) % 2 ^ 64) (signed32 (imm_field imm)) s)) (offset_extended offset f)
      ∙ ap (λ y. reg s base >>= λ n. flat_after caps lay s (store caps lay (byte_count width) ((n + extended offset) % 2 ^ 64) y s)) (imm_extended imm g)
  store_acts width base offset (Register src) rest s b f g =
      store_row width base src (offset_field offset) rest s b
      ∙ ap (λ z. reg s base >>= λ n. reg s src >>= λ y. flat_after caps lay s (store caps lay (byte_count width) ((n + z) % 2 ^ 64) y s)) (offset_extended offset f)

positive : (width : Width) → 0 < byte_count width
positive Byte = omega arith
positive Half = omega arith
positive Word = omega arith
positive Double = omega arith

positive_signed : (width : SignedWidth) → 0 < signed_byte_count width
positive_signed signed.Byte = omega arith
positive_signed signed.Half = omega arith
positive_signed signed.Word = omega arith

module _ (caps : Caps) (lay : Layout) (ok : IsLayout caps lay) where
  loads : (w d : ℕ) (v : Value) (o : ℕ) (s : Typed) → 0 < w → Sim Any (image lay) (typed_load caps w d v o s) (load caps lay w d ((address lay v + o) % 2 ^ 64) (image lay s))
  loads w d v o s pos =
      sim_bind _ _ Any (image lay) _ _ _ _ (find_sim caps lay ok v o w pos) (λ p _ _.
      sim_bind Any (address lay) Any (image lay) (value_of p w (cells_at s.memory p.0 p.1 w)) (Some (le_value (part (cells (image_memory lay s.memory) p.0) p.1 w))) (λ x. set_reg s d x) (λ n. set_reg (image lay s) d n) (value_sim lay s.memory p w) (λ x _ _. sets caps lay s d x))

  signed_loads : (width : SignedWidth) (d : ℕ) (v : Value) (o : ℕ) (s : Typed) → Sim Any (image lay) (typed_load_signed caps width d v o s) (load_signed caps lay width d ((address lay v + o) % 2 ^ 64) (image lay s))
  signed_loads width d v o s =
      sim_bind _ _ Any (image lay) _ _ _ _ (find_sim caps lay ok v o (signed_byte_count width) (positive_signed width)) (λ p _ _.
      sim_bind Any same Any (image lay) (plain_bytes (cells_at s.memory p.0 p.1 (signed_byte_count width))) (Some (part (cells (image_memory lay s.memory) p.0) p.1 (signed_byte_count width))) (λ bytes. set_reg s d (Num (signed_load_value width (le_value bytes)))) (λ bytes. set_reg (image lay s) d (signed_load_value width (le_value bytes))) (bytes_sim lay s.memory p (signed_byte_count width)) (λ bytes _ _.
      sets caps lay s d (Num (signed_load_value width (le_value bytes)))))

  abbrev with_memory : State ℕ → Memory → State ℕ
  with_memory s m = record s { memory = m }

  stores : (w : ℕ) (v : Value) (o : ℕ) (x : Value) (s : Typed) → 0 < w → Sim Any (image lay) (typed_store caps w v o x s) (store caps lay w ((address lay v + o) % 2 ^ 64) (address lay x) (image lay s))
  stores w v o x s pos =
      sim_bind _ _ Any (image lay) _ _ _ _ (find_sim caps lay ok v o w pos) (λ p _ h.
      sim_if Any (image lay) (may_store p.0) _ _ (λ _.
      sim_bind Any (image_memory lay) Any (image lay) (stored s.memory p w x) (Some (put (image_memory lay s.memory) p.0 p.1 (le_bytes w (address lay x)))) (λ m. Some (record s { memory = m })) (λ m. Some (with_memory (image lay s) m)) (stored_sim lay s.memory p w x) (λ m _ _. sim_some _ _ _ _ tt refl)))

  pub load_sim : (width : Width) (dst base : ℕ) (offset : ℤ) (s : Typed) → Sim Any (image lay) (typed_act caps (Load width dst base offset) s) (insn_act caps lay (Load width dst base offset) (image lay s))
  load_sim width dst base offset s =
      sim_bind Any (address lay) Any (image lay) _ _ _ _ (register caps lay s base) (λ v _ _.
      after_sim caps lay s _ _ (loads (byte_count width) dst v (extended offset) s (positive width)))

  pub signed_load_sim : (width : SignedWidth) (dst base : ℕ) (offset : ℤ) (s : Typed) → Sim Any (image lay) (typed_act caps (LoadSigned width dst base offset) s) (insn_act caps lay (LoadSigned width dst base offset) (image lay s))
  signed_load_sim width dst base offset s =
      sim_bind Any (address lay) Any (image lay) _ _ _ _ (register caps lay s base) (λ v _ _.
      after_sim caps lay s _ _ (signed_loads width dst v (extended offset) s))

  pub store_sim : (width : Width) (base : ℕ) (offset : ℤ) (source : Operand) (s : Typed) → Sim Any (image lay) (typed_act caps (Store width base offset source) s) (insn_act caps lay (Store width base offset source) (image lay s))
  store_sim width base offset source s =
      sim_bind Any (address lay) Any (image lay) _ _ _ _ (register caps lay s base) (λ v _ _.
      sim_bind Any (address lay) Any (image lay) _ _ _ _ (operand caps lay s source) (λ y _ _.
      after_sim caps lay s _ _ (stores (byte_count width) v (extended offset) y s (positive width))))
