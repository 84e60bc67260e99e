-- What is read is spelled: what an instruction takes from the bytes, and how many slots.
use Rattle.std.proofs.Common.{◌≡◌, ℕ, zero, suc, ◌+◌, ◌*◌, ◌/◌, ◌%◌, ◌^◌, ◌<◌, ◌≤◌, Bool, true, false, cond, List, ◌++◌, length, drop, Option, Some, None, Result, Ok, refl, sym, ap, subst, ◌∙◌, append_assoc, arith, length-append, inl, inr, eq-eqb}
use Rattle.std.specs.Prelude.{◌&&◌, ◌||◌, ◌==◌, option_and_then}
use Rattle.std.specs.Option.{ok_or}
use Rattle.std.specs.Int.{w16, w32, cast_signed}
use Rattle.std.specs.Int.RustNames.{FitsSigned}
use Rattle.std.proofs.lemmas.Int.{of_z-to_z}
use Rattle.std.proofs.Math.Facts.{sfits_to_z}
use Rattle.std.proofs.lemmas.List.{drop-drop}
use Rattle.std.proofs.lemmas.Bool.{eqb-true, leb-true, ne_eqb, cases_eq}
use Rattle.bpf_decode.specs.declared.decode_error.DecodeError.{DecodeError}
use Rattle.bpf_decode.specs.declared.decode_error.DecodeError.TheVariants as errors
use Rattle.bpf_decode.specs.declared.insn.Operand.TheVariants.{Immediate, Register}
use Rattle.bpf_decode.specs.declared.insn.Insn.{Insn}
use Rattle.bpf_decode.specs.declared.insn.Insn.TheVariants as insns
use Rattle.bpf_decode.specs.declared.row.OpcodeRow.{OpcodeRow}
use Rattle.bpf_decode.specs.declared.row.OpcodeRow.TheVariants.{AluImmediate, AluRegister, Neg, MovImmediate, MovRegister, End, Wide, Load, LoadSigned, StoreImmediate, StoreRegister, Jump, JumpLong, BranchImmediate, BranchRegister, Call, Exit}
use Rattle.bpf_decode.specs.declared.operation.OpWidth.{OpWidth}
use Rattle.bpf_decode.specs.declared.operation.OpWidth.TheVariants.{Bits32, Bits64}
use Rattle.bpf_decode.specs.declared.operation.Arithmetic.{Arithmetic}
use Rattle.bpf_decode.specs.declared.operation.Arithmetic.TheVariants.{Add, Sub, Mul, Div, SignedDiv, Or, And, Lsh, Rsh, Mod, SignedMod, Xor, Arsh}
use Rattle.bpf_decode.specs.Opcodes.{offset_selects, selected, imm_selects, end_width_of, move_selects, signed_move_of}
use Rattle.std.proofs.lemmas.Bool.{cases_Bool}
use Rattle.bpf_decode.specs.Fields.{Fields, fields_of}
use Rattle.bpf_decode.specs.Instruction.{Fits, slot, bytes_of, slot_count, imm_field, offset_field, size_code, signed_size_code, alu_class, jump_class, operation_code, operation_offset, signed_move_bits, signed_move_offset, order_opcode, end_bits, comparison_code}
use Rattle.bpf_decode.specs.Table.{opcode, row_of, fields_allowed, second_half, high_half, instruction}
use Rattle.bpf_decode.specs.Reading.{checked, are_registers, insn_at}
use Rattle.bpf_decode.proofs.Bytes.{IsBytes, IsBytes-drop, bind_ok, checked_ok, ok_or_ok, both_true, same_slot, TakesSlot, fields_take}
use Rattle.bpf_decode.proofs.Spelled.{by_half, by_allowed, by_registers, by_row}
use Rattle.bpf_decode.proofs.Rows.{opcode_of}

unsigned16 : (n : ℕ) → n < 2 ^ 16 → offset_field (cast_signed w16 n) ≡ n
unsigned16 n h = of_z-to_z w16 n h

unsigned32 : (n : ℕ) → n < 2 ^ 32 → imm_field (cast_signed w32 n) ≡ n
unsigned32 n h = of_z-to_z w32 n h

fits16 : (n : ℕ) → n < 2 ^ 16 → FitsSigned w16 (cast_signed w16 n)
fits16 n h = sfits_to_z (record { fits = h })

fits32 : (n : ℕ) → n < 2 ^ 32 → FitsSigned w32 (cast_signed w32 n)
fits32 n h = sfits_to_z (record { fits = h })

zero_from : (n : ℕ) → (n == 0) ≡ true → n ≡ 0
zero_from n e = eqb-true n 0 e

-- ---- lengths

pub some_slot : (i : Insn) → 1 ≤ slot_count i
some_slot (insns.Alu bits operation dst source) = omega arith
some_slot (insns.Neg bits dst) = omega arith
some_slot (insns.Mov bits dst source) = omega arith
some_slot (insns.MovSigned extension dst src) = omega arith
some_slot (insns.End order width dst) = omega arith
some_slot (insns.LoadWide dst value) = omega arith
some_slot (insns.Load width dst from offset) = omega arith
some_slot (insns.LoadSigned width dst from offset) = omega arith
some_slot (insns.Store width to offset source) = omega arith
some_slot (insns.Jump offset) = omega arith
some_slot (insns.JumpLong distance) = omega arith
some_slot (insns.Branch bits comparison dst source offset) = omega arith
some_slot (insns.Call helper) = omega arith
some_slot (insns.CallLocal distance) = omega arith
some_slot insns.Exit = omega arith

pub length-bytes_of : (i : Insn) → length (bytes_of i) ≡ 8 * slot_count i
length-bytes_of (insns.Alu bits operation dst (Immediate imm)) = refl
length-bytes_of (insns.Alu bits operation dst (Register src)) = refl
length-bytes_of (insns.Neg bits dst) = refl
length-bytes_of (insns.Mov bits dst (Immediate imm)) = refl
length-bytes_of (insns.Mov bits dst (Register src)) = refl
length-bytes_of (insns.MovSigned extension dst src) = refl
length-bytes_of (insns.End order width dst) = refl
length-bytes_of (insns.LoadWide dst value) = refl
length-bytes_of (insns.Load width dst from offset) = refl
length-bytes_of (insns.LoadSigned width dst from offset) = refl
length-bytes_of (insns.Store width to offset (Immediate imm)) = refl
length-bytes_of (insns.Store width to offset (Register src)) = refl
length-bytes_of (insns.Jump offset) = refl
length-bytes_of (insns.JumpLong distance) = refl
length-bytes_of (insns.Branch bits comparison dst (Immediate imm) offset) = refl
length-bytes_of (insns.Branch bits comparison dst (Register src) offset) = refl
length-bytes_of (insns.Call helper) = refl
length-bytes_of (insns.CallLocal distance) = refl
length-bytes_of insns.Exit = refl

-- ---- what an instruction takes from the bytes

abbrev read_insn : Insn → Result Insn DecodeError
read_insn i = Ok i

ok_insn : (i j : Insn) → read_insn i ≡ read_insn j → i ≡ j
ok_insn i j e = cc

pub record TakesInsn (bytes : List ℕ) (i : Insn) : Type 0 where
  pub fit : Fits i
  pub parts : bytes ≡ bytes_of i ++ drop (8 * slot_count i) bytes

-- the first slot's fields are those of the instruction, which takes one slot
one_slot : (bytes : List ℕ) (f : Fields) (i : Insn) (op d s o k : ℕ) → TakesSlot bytes f → slot_count i ≡ 1 → Fits i → bytes_of i ≡ slot op d s o k
    → f.opcode ≡ op → f.dst ≡ d → f.src ≡ s → f.offset ≡ o → f.imm ≡ k → TakesInsn bytes i
one_slot bytes f i op d s o k t one fit spelled e1 e2 e3 e4 e5 =
    let same = same_slot f.opcode op f.dst d f.src s f.offset o f.imm k e1 e2 e3 e4 e5 in
    let parts : bytes ≡ bytes_of i ++ drop 8 bytes = t.parts ∙ ap (λ (x : List ℕ). x ++ drop 8 bytes) (same ∙ sym spelled) in
    let eight : 8 ≡ 8 * slot_count i = omega arith in
    record { fit = fit; parts = parts ∙ ap (λ (n : ℕ). bytes_of i ++ drop n bytes) eight }

abbrev number : ℕ → Option ℕ
number n = Some n

some_number : (m n : ℕ) → number m ≡ number n → m ≡ n
some_number m n e = cc

second_is : (b : Bool) (n high : ℕ) → cond b (number n) None ≡ Some high → (b ≡ true) × (n ≡ high)
second_is true n high e = (refl, some_number n high e)
second_is false n high e = absurd cc

-- what a second half takes from the bytes
second_takes : (bytes : List ℕ) (high : ℕ) → IsBytes bytes → high_half Wide bytes ≡ Some high → (high < 2 ^ 32) × (bytes ≡ slot 0 0 0 0 high ++ drop 8 bytes)
second_takes bytes high fits half = by (fields_of bytes) refl half
  where
    by : (o : Option Fields) → fields_of bytes ≡ o → option_and_then second_half o ≡ Some high → (high < 2 ^ 32) × (bytes ≡ slot 0 0 0 0 high ++ drop 8 bytes)
    by None e h = absurd cc
    by (Some g) e h =
        let t = fields_take bytes g fits e in
        let s = second_is ((g.opcode == 0) && (g.dst == 0) && (g.src == 0) && (g.offset == 0)) g.imm high h in
        let a = both_true _ _ s.0 in
        let b = both_true _ _ a.0 in
        let c = both_true _ _ b.0 in
        let same = same_slot g.opcode 0 g.dst 0 g.src 0 g.offset 0 g.imm high (zero_from g.opcode c.0) (zero_from g.dst c.1) (zero_from g.src b.1) (zero_from g.offset a.1) s.1 in
        (omega (arith, t.imm, s.1), t.parts ∙ ap (λ (x : List ℕ). x ++ drop 8 bytes) same)

-- what a selecting field selects has that field
selects : (operation : Arithmetic) (offset : ℕ) → offset_selects operation offset ≡ true → (operation_code (selected operation offset) ≡ operation_code operation) × (operation_offset (selected operation offset) ≡ offset)
selects Div offset h = two offset (leb-true offset 1 h)
  where
    two : (offset : ℕ) → offset ≤ 1 → (operation_code (selected Div offset) ≡ 0x3) × (operation_offset (selected Div offset) ≡ offset)
    two zero h = (refl, refl)
    two (suc zero) h = (refl, refl)
    two (suc (suc n)) h = absurd (omega arith)
selects Mod offset h = two offset (leb-true offset 1 h)
  where
    two : (offset : ℕ) → offset ≤ 1 → (operation_code (selected Mod offset) ≡ 0x9) × (operation_offset (selected Mod offset) ≡ offset)
    two zero h = (refl, refl)
    two (suc zero) h = (refl, refl)
    two (suc (suc n)) h = absurd (omega arith)
selects SignedDiv offset h = (refl, sym (eqb-true offset 1 h))
selects SignedMod offset h = (refl, sym (eqb-true offset 1 h))
selects Add offset h = (refl, sym (zero_from offset h))
selects Sub offset h = (refl, sym (zero_from offset h))
selects Mul offset h = (refl, sym (zero_from offset h))
selects Or offset h = (refl, sym (zero_from offset h))
selects And offset h = (refl, sym (zero_from offset h))
selects Lsh offset h = (refl, sym (zero_from offset h))
selects Rsh offset h = (refl, sym (zero_from offset h))
selects Xor offset h = (refl, sym (zero_from offset h))
selects Arsh offset h = (refl, sym (zero_from offset h))

or_right : (a b : Bool) → (a || b) ≡ true → a ≡ false → b ≡ true
or_right true b e f = absurd cc
or_right false b e f = e

or_third : (a b c : Bool) → (a || b || c) ≡ true → a ≡ false → b ≡ false → c ≡ true
or_third true b c e f g = absurd cc
or_third false true c e f g = absurd cc
or_third false false c e f g = e

imm_kept : (imm : ℕ) → imm_selects imm ≡ true → end_bits (end_width_of imm) ≡ imm
imm_kept imm h =
    elim (cases_Bool (imm == 16)) as (λ _. end_bits (end_width_of imm) ≡ imm) [
      | inl b ↦ let e = eqb-true imm 16 b in subst (λ k. end_bits (end_width_of k) ≡ k) (sym e) refl
      | inr b ↦ elim (cases_Bool (imm == 32)) as (λ _. end_bits (end_width_of imm) ≡ imm) [
        | inl c ↦ let e = eqb-true imm 32 c in subst (λ k. end_bits (end_width_of k) ≡ k) (sym e) refl
        | inr c ↦ let e = eqb-true imm 64 (or_third _ _ _ h b c) in subst (λ k. end_bits (end_width_of k) ≡ k) (sym e) refl
      ]
    ]

move_kept : (bits : OpWidth) (offset : ℕ) → move_selects bits offset ≡ true → (signed_move_bits (signed_move_of bits offset) ≡ bits) × (signed_move_offset (signed_move_of bits offset) ≡ offset)
move_kept Bits64 offset h =
    elim (cases_Bool (offset == 8)) as (λ _. (signed_move_bits (signed_move_of Bits64 offset) ≡ Bits64) × (signed_move_offset (signed_move_of Bits64 offset) ≡ offset)) [
      | inl b ↦ subst (λ k. (signed_move_bits (signed_move_of Bits64 k) ≡ Bits64) × (signed_move_offset (signed_move_of Bits64 k) ≡ k)) (sym (eqb-true offset 8 b)) (refl, refl)
      | inr b ↦ elim (cases_Bool (offset == 16)) as (λ _. (signed_move_bits (signed_move_of Bits64 offset) ≡ Bits64) × (signed_move_offset (signed_move_of Bits64 offset) ≡ offset)) [
        | inl c ↦ subst (λ k. (signed_move_bits (signed_move_of Bits64 k) ≡ Bits64) × (signed_move_offset (signed_move_of Bits64 k) ≡ k)) (sym (eqb-true offset 16 c)) (refl, refl)
        | inr c ↦ subst (λ k. (signed_move_bits (signed_move_of Bits64 k) ≡ Bits64) × (signed_move_offset (signed_move_of Bits64 k) ≡ k)) (sym (eqb-true offset 32 (or_third _ _ _ h b c))) (refl, refl)
      ]
    ]
move_kept Bits32 offset h =
    elim (cases_Bool (offset == 8)) as (λ _. (signed_move_bits (signed_move_of Bits32 offset) ≡ Bits32) × (signed_move_offset (signed_move_of Bits32 offset) ≡ offset)) [
      | inl b ↦ subst (λ k. (signed_move_bits (signed_move_of Bits32 k) ≡ Bits32) × (signed_move_offset (signed_move_of Bits32 k) ≡ k)) (sym (eqb-true offset 8 b)) (refl, refl)
      | inr b ↦ subst (λ k. (signed_move_bits (signed_move_of Bits32 k) ≡ Bits32) × (signed_move_offset (signed_move_of Bits32 k) ≡ k)) (sym (eqb-true offset 16 (or_right _ _ h b))) (refl, refl)
    ]

module _ (bytes : List ℕ) (f : Fields) (t : TakesSlot bytes f) (dst : f.dst ≤ 10) (src : f.src ≤ 10) (fits : IsBytes bytes) where
  wide_takes : (high : ℕ) → f.opcode ≡ 0x18 → fields_allowed Wide f ≡ true → high_half Wide (drop 8 bytes) ≡ Some high → TakesInsn bytes (insns.LoadWide f.dst (f.imm + high * 2 ^ 32))
  wide_takes high op allowed half =
      let a = both_true _ _ allowed in
      let s = second_takes (drop 8 bytes) high (IsBytes-drop 8 bytes fits) half in
      let low : (f.imm + high * 2 ^ 32) % 2 ^ 32 ≡ f.imm = omega (arith, t.imm) in
      let up : (f.imm + high * 2 ^ 32) / 2 ^ 32 ≡ high = omega (arith, t.imm) in
      let first = same_slot f.opcode 0x18 f.dst f.dst f.src 0 f.offset 0 f.imm ((f.imm + high * 2 ^ 32) % 2 ^ 32) op refl (zero_from f.src a.0) (zero_from f.offset a.1) (sym low) in
      let second = same_slot 0 0 0 0 0 0 0 0 high ((f.imm + high * 2 ^ 32) / 2 ^ 32) refl refl refl refl (sym up) in
      let first_slot = slot 0x18 f.dst 0 0 ((f.imm + high * 2 ^ 32) % 2 ^ 32) in
      let second_slot = slot 0 0 0 0 ((f.imm + high * 2 ^ 32) / 2 ^ 32) in
      let behind : drop 8 bytes ≡ second_slot ++ drop 16 bytes = s.1 ∙ ap (λ (x : List ℕ). x ++ drop 8 (drop 8 bytes)) second ∙ ap (λ (x : List ℕ). second_slot ++ x) (drop-drop 8 8 bytes) in
      record {
        fit = (dst, omega (arith, t.imm, s.0));
        parts = t.parts ∙ ap (λ (x : List ℕ). x ++ drop 8 bytes) first ∙ ap (λ (x : List ℕ). first_slot ++ x) behind ∙ sym (append_assoc first_slot second_slot (drop 16 bytes));
      }

  row_takes : (row : OpcodeRow) (high : ℕ) → f.opcode ≡ opcode row → fields_allowed row f ≡ true → high_half row (drop 8 bytes) ≡ Some high → TakesInsn bytes (instruction row f high)
  row_takes Jump high op allowed half =
      let a = both_true _ _ allowed in
      let b = both_true _ _ a.0 in
      one_slot bytes f (insns.Jump (cast_signed w16 f.offset)) 0x05 0 0 (offset_field (cast_signed w16 f.offset)) 0 t refl (fits16 f.offset t.offset) refl op (zero_from f.dst b.0) (zero_from f.src b.1) (sym (unsigned16 f.offset t.offset)) (zero_from f.imm a.1)
  row_takes JumpLong high op allowed half =
      let a = both_true _ _ allowed in
      let b = both_true _ _ a.0 in
      one_slot bytes f (insns.JumpLong (cast_signed w32 f.imm)) 0x06 0 0 0 (imm_field (cast_signed w32 f.imm)) t refl (fits32 f.imm t.imm) refl op (zero_from f.dst b.0) (zero_from f.src b.1) (zero_from f.offset a.1) (sym (unsigned32 f.imm t.imm))
  row_takes (AluImmediate bits operation) high op allowed half =
      let a = both_true _ _ allowed in
      let s = selects operation f.offset a.1 in
      one_slot bytes f (insns.Alu bits (selected operation f.offset) f.dst (Immediate (cast_signed w32 f.imm))) (alu_class bits + 16 * operation_code (selected operation f.offset)) f.dst 0 (operation_offset (selected operation f.offset)) (imm_field (cast_signed w32 f.imm)) t refl (dst, fits32 f.imm t.imm) refl
      (op ∙ ap (λ k. alu_class bits + 16 * k) (sym s.0)) refl (zero_from f.src a.0) (sym s.1) (sym (unsigned32 f.imm t.imm))
  row_takes (AluRegister bits operation) high op allowed half =
      let a = both_true _ _ allowed in
      let s = selects operation f.offset a.1 in
      one_slot bytes f (insns.Alu bits (selected operation f.offset) f.dst (Register f.src)) (alu_class bits + 8 + 16 * operation_code (selected operation f.offset)) f.dst f.src (operation_offset (selected operation f.offset)) 0 t refl (dst, src) refl
      (op ∙ ap (λ k. alu_class bits + 8 + 16 * k) (sym s.0)) refl refl (sym s.1) (zero_from f.imm a.0)
  row_takes (Neg bits) high op allowed half =
      let a = both_true _ _ allowed in
      let b = both_true _ _ a.0 in
      one_slot bytes f (insns.Neg bits f.dst) (alu_class bits + 0x80) f.dst 0 0 0 t refl dst refl op refl (zero_from f.src b.0) (zero_from f.offset b.1) (zero_from f.imm a.1)
  row_takes (End order) high op allowed half =
      let a = both_true _ _ allowed in
      let b = both_true _ _ a.0 in
      one_slot bytes f (insns.End order (end_width_of f.imm) f.dst) (order_opcode order) f.dst 0 0 (end_bits (end_width_of f.imm)) t refl dst refl op refl (zero_from f.src b.0) (zero_from f.offset b.1) (sym (imm_kept f.imm a.1))
  row_takes (BranchImmediate bits comparison) high op allowed half =
      one_slot bytes f (insns.Branch bits comparison f.dst (Immediate (cast_signed w32 f.imm)) (cast_signed w16 f.offset)) (jump_class bits + 16 * comparison_code comparison) f.dst 0 (offset_field (cast_signed w16 f.offset)) (imm_field (cast_signed w32 f.imm)) t refl (dst, fits16 f.offset t.offset, fits32 f.imm t.imm) refl op refl (zero_from f.src allowed) (sym (unsigned16 f.offset t.offset)) (sym (unsigned32 f.imm t.imm))
  row_takes (BranchRegister bits comparison) high op allowed half =
      one_slot bytes f (insns.Branch bits comparison f.dst (Register f.src) (cast_signed w16 f.offset)) (jump_class bits + 8 + 16 * comparison_code comparison) f.dst f.src (offset_field (cast_signed w16 f.offset)) 0 t refl (dst, fits16 f.offset t.offset, src) refl op refl refl (sym (unsigned16 f.offset t.offset)) (zero_from f.imm allowed)
  row_takes (LoadSigned width) high op allowed half =
      one_slot bytes f (insns.LoadSigned width f.dst f.src (cast_signed w16 f.offset)) (0x81 + 8 * signed_size_code width) f.dst f.src (offset_field (cast_signed w16 f.offset)) 0 t refl (dst, src, fits16 f.offset t.offset) refl op refl refl (sym (unsigned16 f.offset t.offset)) (zero_from f.imm allowed)
  row_takes (Load width) high op allowed half =
      one_slot bytes f (insns.Load width f.dst f.src (cast_signed w16 f.offset)) (0x61 + 8 * size_code width) f.dst f.src (offset_field (cast_signed w16 f.offset)) 0 t refl (dst, src, fits16 f.offset t.offset) refl op refl refl (sym (unsigned16 f.offset t.offset)) (zero_from f.imm allowed)
  row_takes (StoreImmediate width) high op allowed half =
      one_slot bytes f (insns.Store width f.dst (cast_signed w16 f.offset) (Immediate (cast_signed w32 f.imm))) (0x62 + 8 * size_code width) f.dst 0 (offset_field (cast_signed w16 f.offset)) (imm_field (cast_signed w32 f.imm)) t refl (dst, fits16 f.offset t.offset, fits32 f.imm t.imm) refl op refl (zero_from f.src allowed) (sym (unsigned16 f.offset t.offset)) (sym (unsigned32 f.imm t.imm))
  row_takes (StoreRegister width) high op allowed half =
      one_slot bytes f (insns.Store width f.dst (cast_signed w16 f.offset) (Register f.src)) (0x63 + 8 * size_code width) f.dst f.src (offset_field (cast_signed w16 f.offset)) 0 t refl (dst, fits16 f.offset t.offset, src) refl op refl refl (sym (unsigned16 f.offset t.offset)) (zero_from f.imm allowed)
  row_takes Exit high op allowed half =
      let a = both_true _ _ allowed in
      let b = both_true _ _ a.0 in
      let c = both_true _ _ b.0 in
      one_slot bytes f insns.Exit 0x95 0 0 0 0 t refl tt refl op (zero_from f.dst c.0) (zero_from f.src c.1) (zero_from f.offset b.1) (zero_from f.imm a.1)
  row_takes (MovImmediate bits) high op allowed half =
      let a = both_true _ _ allowed in
      one_slot bytes f (insns.Mov bits f.dst (Immediate (cast_signed w32 f.imm))) (alu_class bits + 0xb0) f.dst 0 0 (imm_field (cast_signed w32 f.imm)) t refl (dst, fits32 f.imm t.imm) refl op refl (zero_from f.src a.0) (zero_from f.offset a.1) (sym (unsigned32 f.imm t.imm))
  row_takes (MovRegister bits) high op allowed half =
      let a = both_true _ _ allowed in
      elim (cases_Bool (f.offset == 0)) as (λ _. TakesInsn bytes (instruction (MovRegister bits) f high)) [
        | inl b ↦ subst (λ (i : Insn). TakesInsn bytes i) (sym (moved true b)) (one_slot bytes f (insns.Mov bits f.dst (Register f.src)) (alu_class bits + 0xb8) f.dst f.src 0 0 t refl (dst, src) refl op refl refl (zero_from f.offset b) (zero_from f.imm a.0))
        | inr b ↦ let m = move_kept bits f.offset (or_right _ _ a.1 b) in
            subst (λ (i : Insn). TakesInsn bytes i) (sym (moved false b)) (one_slot bytes f (insns.MovSigned (signed_move_of bits f.offset) f.dst f.src) (alu_class (signed_move_bits (signed_move_of bits f.offset)) + 0xb8) f.dst f.src (signed_move_offset (signed_move_of bits f.offset)) 0 t refl (dst, src) refl
            (op ∙ ap (λ k. alu_class k + 0xb8) (sym m.0)) refl refl (sym m.1) (zero_from f.imm a.0))
      ]
    where
      moved : (b : Bool) → (f.offset == 0) ≡ b → instruction (MovRegister bits) f high ≡ cond b (insns.Mov bits f.dst (Register f.src)) (insns.MovSigned (signed_move_of bits f.offset) f.dst f.src)
      moved b e = ap (λ (x : Bool). cond x (insns.Mov bits f.dst (Register f.src)) (insns.MovSigned (signed_move_of bits f.offset) f.dst f.src)) e
  row_takes Call high op allowed half =
      let a = both_true _ _ allowed in
      let b = both_true _ _ a.0 in
      let no_dst = zero_from f.dst b.0 in
      let no_offset = zero_from f.offset a.1 in
      let small : f.src ≤ 1 = leb-true f.src 1 b.1 in
      elim (cases_eq f.src 0) as (λ _. TakesInsn bytes (instruction Call f high)) [
        | inl e ↦ subst (λ (i : Insn). TakesInsn bytes i) (sym (chosen true (eq-eqb f.src 0 e))) (one_slot bytes f (insns.Call f.imm) 0x85 0 0 0 f.imm t refl t.imm refl op no_dst e no_offset refl)
        | inr n ↦ subst (λ (i : Insn). TakesInsn bytes i) (sym (chosen false (ne_eqb f.src 0 n))) (one_slot bytes f (insns.CallLocal (cast_signed w32 f.imm)) 0x85 0 1 0 (imm_field (cast_signed w32 f.imm)) t refl (fits32 f.imm t.imm) refl op no_dst (omega arith) no_offset (sym (unsigned32 f.imm t.imm)))
      ]
    where
      chosen : (b : Bool) → (f.src == 0) ≡ b → instruction Call f high ≡ cond b (insns.Call f.imm) (insns.CallLocal (cast_signed w32 f.imm))
      chosen b e = ap (λ (x : Bool). cond x (insns.Call f.imm) (insns.CallLocal (cast_signed w32 f.imm))) e
  row_takes Wide high op allowed half = wide_takes high op allowed half

pub insn_takes : (n : ℕ) (bytes : List ℕ) (i : Insn) → IsBytes bytes → insn_at n bytes ≡ Ok i → TakesInsn bytes i
unfolding insn_at
insn_takes n bytes i fits e =
    let a = bind_ok (ok_or (fields_of bytes) errors.Truncated) (λ f. by_row n f (drop 8 bytes) (row_of f.opcode)) i e in
    let f = a.0 in
    let t = fields_take bytes f fits (ok_or_ok (fields_of bytes) errors.Truncated f a.1) in
    let b = bind_ok (ok_or (row_of f.opcode) (errors.Opcode n)) (λ row. by_registers n f row (drop 8 bytes) (are_registers f)) i a.2 in
    let row = b.0 in
    let op = opcode_of f.opcode row (ok_or_ok (row_of f.opcode) (errors.Opcode n) row b.1) in
    let c = bind_ok (checked (are_registers f) (errors.Register n) f) (λ g. by_allowed n f row (drop 8 bytes) (fields_allowed row f)) i b.2 in
    let registers = both_true _ _ (checked_ok (are_registers f) (errors.Register n) f c.0 c.1).0 in
    let d = bind_ok (checked (fields_allowed row f) (errors.NonzeroField n) f) (λ h. by_half n f row (high_half row (drop 8 bytes))) i c.2 in
    let allowed = (checked_ok (fields_allowed row f) (errors.NonzeroField n) f d.0 d.1).0 in
    let h = bind_ok (ok_or (high_half row (drop 8 bytes)) (errors.WideHalf n)) (λ high. Ok (instruction row f high)) i d.2 in
    let half = ok_or_ok (high_half row (drop 8 bytes)) (errors.WideHalf n) h.0 h.1 in
    subst (λ (j : Insn). TakesInsn bytes j) (ok_insn (instruction row f h.0) i h.2) (row_takes bytes f t (leb-true f.dst 10 registers.0) (leb-true f.src 10 registers.1) fits row h.0 op allowed half)

pub fits_in : (n : ℕ) (bytes : List ℕ) (i : Insn) → IsBytes bytes → insn_at n bytes ≡ Ok i → 8 * slot_count i ≤ length bytes
fits_in n bytes i fits e =
    let t = insn_takes n bytes i fits e in
    omega (arith, ap length t.parts, length-append (bytes_of i) (drop (8 * slot_count i) bytes), length-bytes_of i)
