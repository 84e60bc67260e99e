-- A line that is none of its form is refused by the fault that the relations have it.
use Rattle.std.proofs.Common.{◌≡◌, inl, inr, ℕ, ◌==◌, Bool, true, false, cond, List, [], ◌∷◌, length, Option, Some, None, Result, Ok, Err, refl, sym, ap, ◌∙◌, subst, arith}
use Rattle.std.proofs.lemmas.Option.{none-some}
use Rattle.std.proofs.lemmas.Bool.Decides.{nat_tests}
use Rattle.bpf_decode.specs.declared.insn.Insn.TheVariants as insns
use Rattle.asm_lines.specs.declared.fault.AsmFault.{AsmFault}
use Rattle.asm_lines.specs.declared.fault.AsmFault.TheVariants as faults
use Rattle.asm_lines.specs.declared.draft.Draft.{Draft}
use Rattle.asm_lines.specs.declared.draft.Draft.TheVariants as drafts
use Rattle.asm_lines.specs.declared.form.Form.{Form}
use Rattle.asm_lines.specs.declared.form.Form.TheVariants.{Alu, Neg, Mov, MovSigned, End, LoadWide, Load, LoadSigned, StoreNumber, StoreRegister, Jump, JumpLong, Branch, Call, Exit}
use Rattle.asm_lines.specs.Texts.{lone, pair, triple}
use Rattle.asm_lines.specs.Words.{word_of, form_of}
use Rattle.asm_lines.specs.Operands.{both, of_one, of_two, of_three, register_of, immediate_of, unsigned_of, source_of, memory_of, near_target_of, far_target_of}
use Rattle.asm_lines.specs.Drafts.{call_of, draft, draft_of}
use Rattle.bpf_asm.specs.Syntax.{IsDraftText}
use Rattle.bpf_asm.specs.Shapes.{AnyRegister, AnyNumber, AnySource, AnyPlace, AnyTarget, AnyCall, OfOne, OfTwo, OfThree, AnyOperands, InstructionFault}
use Rattle.bpf_asm.proofs.OperandCuts.{one_is, is_one, two_is, is_two, three_is, is_three}
use Rattle.bpf_asm.proofs.LineRelations.{form_found, known_word, draft_is, is_draft}
use Rattle.bpf_asm.proofs.ShapeLemmas.{Judged, judged_filled, judged_by, judged_both, judged_immediate, judged_unsigned, judged_register, judged_source, judged_memory, judged_near, judged_far, judged_call}

-- ---- operands between commas

-- a reading without its numbers' ranges
abbrev loose : {A : Type 0} → Result A AsmFault → Result (Unit {0}) AsmFault
loose (Ok a) = Ok tt
loose (Err faults.Range) = Ok tt
loose (Err faults.Word) = Err faults.Word
loose (Err faults.Operand) = Err faults.Operand
loose (Err faults.Label) = Err faults.Label
loose (Err faults.NoMemory) = Err faults.NoMemory

range_loose : (A : Type 0) (f : AsmFault) → f ≡ faults.Range → loose {A = A} (Err f) ≡ Ok tt
range_loose A f h = rw h refl

operand_loose : (A : Type 0) (f : AsmFault) → f ≡ faults.Operand → loose {A = A} (Err f) ≡ Ok tt → ⊥
operand_loose A faults.Operand h k = absurd cc
operand_loose A faults.Word h k = absurd cc
operand_loose A faults.Range h k = absurd cc
operand_loose A faults.Label h k = absurd cc
operand_loose A faults.NoMemory h k = absurd cc

loose_is : {A : Type 0} (S : Type 0) (r : Result A AsmFault) → Judged S r → loose r ≡ Ok tt → S
loose_is S (Ok a) h k = h
loose_is {A = A} S (Err f) (inl h) k = absurd (operand_loose A f h.0 k)
loose_is S (Err f) (inr h) k = h.1

is_loose : {A : Type 0} (S : Type 0) (r : Result A AsmFault) → Judged S r → S → loose r ≡ Ok tt
is_loose S (Ok a) h s = refl
is_loose S (Err f) (inl h) s = absurd (h.1 s)
is_loose {A = A} S (Err f) (inr h) s = range_loose A f h.0

both_loose : (r s : Result (Unit {0}) AsmFault) → both r s ≡ Ok (tt, tt) → (r ≡ Ok tt) × (s ≡ Ok tt)
both_loose (Ok a) (Ok b) h = (refl, refl)
both_loose (Ok a) (Err g) h = absurd cc
both_loose (Err f) (Ok b) h = absurd cc
both_loose (Err f) (Err g) h = absurd cc

three_loose : (r s t : Result (Unit {0}) AsmFault) → both r (both s t) ≡ Ok (tt, (tt, tt)) → (r ≡ Ok tt) × (s ≡ Ok tt) × (t ≡ Ok tt)
three_loose (Ok a) (Ok b) (Ok c) h = (refl, refl, refl)
three_loose (Ok a) (Ok b) (Err f) h = absurd cc
three_loose (Ok a) (Err g) (Ok c) h = absurd cc
three_loose (Ok a) (Err g) (Err f) h = absurd cc
three_loose (Err f) (Ok b) (Ok c) h = absurd cc
three_loose (Err f) (Ok b) (Err g) h = absurd cc
three_loose (Err f) (Err g) (Ok c) h = absurd cc
three_loose (Err f) (Err g) (Err e) h = absurd cc

module _ {A : Type 0} (read : List ℕ → Result A AsmFault) (Any : List ℕ → Type 0) (judged : (t : List ℕ) → Judged (Any t) (read t)) where
  one_at : (rest : List ℕ) (o : Option (List ℕ)) → o ≡ lone rest → Judged (OfOne Any rest) (of_one read o)
  one_at rest None e = inl (refl, λ h. none_loose (sym (ap (of_one (λ t. loose (read t))) (sym e)) ∙ is_one (λ t. loose (read t)) (λ t _. Any t) (λ t _ k. is_loose (Any t) (read t) (judged t) k) rest tt h))
    where
      none_loose : of_one (λ t. loose (read t)) None ≡ Ok tt → ⊥
      none_loose k = absurd cc
  one_at rest (Some a) e =
      judged_by (read a) to from (judged a)
    where
      to : Any a → OfOne Any rest
      to s = one_is (λ t. loose (read t)) (λ t _. Any t) (λ t _ k. loose_is (Any t) (read t) (judged t) k) rest tt (ap (of_one (λ t. loose (read t))) (sym e) ∙ is_loose (Any a) (read a) (judged a) s)

      from : OfOne Any rest → Any a
      from h = loose_is (Any a) (read a) (judged a) (ap (of_one (λ t. loose (read t))) e ∙ is_one (λ t. loose (read t)) (λ t _. Any t) (λ t _ k. is_loose (Any t) (read t) (judged t) k) rest tt h)

  judged_one : (rest : List ℕ) → Judged (OfOne Any rest) (of_one read (lone rest))
  judged_one rest = one_at rest (lone rest) refl

module _ {A B : Type 0} (left : List ℕ → Result A AsmFault) (right : List ℕ → Result B AsmFault) (Left Right : List ℕ → Type 0) (judged_left : (t : List ℕ) → Judged (Left t) (left t)) (judged_right : (t : List ℕ) → Judged (Right t) (right t)) where
  two_read : (rest : List ℕ) → OfTwo Left Right rest → of_two (λ t. loose (left t)) (λ t. loose (right t)) (pair rest) ≡ Ok (tt, tt)
  two_read rest h = is_two (λ t. loose (left t)) (λ t. loose (right t)) (λ t _. Left t) (λ t _. Right t) (λ t _ k. is_loose (Left t) (left t) (judged_left t) k) (λ t _ k. is_loose (Right t) (right t) (judged_right t) k) rest tt tt h

  read_two : (rest : List ℕ) → of_two (λ t. loose (left t)) (λ t. loose (right t)) (pair rest) ≡ Ok (tt, tt) → OfTwo Left Right rest
  read_two rest h = two_is (λ t. loose (left t)) (λ t. loose (right t)) (λ t _. Left t) (λ t _. Right t) (λ t _ k. loose_is (Left t) (left t) (judged_left t) k) (λ t _ k. loose_is (Right t) (right t) (judged_right t) k) rest (tt, tt) h

  two_at : (rest : List ℕ) (o : Option (List ℕ × List ℕ)) → o ≡ pair rest → Judged (OfTwo Left Right rest) (of_two left right o)
  two_at rest None e = inl (refl, λ h. none_loose (ap (of_two (λ t. loose (left t)) (λ t. loose (right t))) e ∙ two_read rest h))
    where
      none_loose : of_two (λ t. loose (left t)) (λ t. loose (right t)) None ≡ Ok (tt, tt) → ⊥
      none_loose k = absurd cc
  two_at rest (Some p) e =
      judged_by (both (left p.0) (right p.1)) to from (judged_both _ _ (left p.0) (right p.1) (judged_left p.0) (judged_right p.1))
    where
      to : Left p.0 × Right p.1 → OfTwo Left Right rest
      to s = read_two rest (ap (of_two (λ t. loose (left t)) (λ t. loose (right t))) (sym e) ∙ rw (is_loose (Left p.0) (left p.0) (judged_left p.0) s.0, is_loose (Right p.1) (right p.1) (judged_right p.1) s.1) refl)

      from : OfTwo Left Right rest → Left p.0 × Right p.1
      from h =
          let b = both_loose (loose (left p.0)) (loose (right p.1)) (ap (of_two (λ t. loose (left t)) (λ t. loose (right t))) e ∙ two_read rest h) in
          (loose_is (Left p.0) (left p.0) (judged_left p.0) b.0, loose_is (Right p.1) (right p.1) (judged_right p.1) b.1)

  judged_two : (rest : List ℕ) → Judged (OfTwo Left Right rest) (of_two left right (pair rest))
  judged_two rest = two_at rest (pair rest) refl

module _ {A B C : Type 0} (left : List ℕ → Result A AsmFault) (middle : List ℕ → Result B AsmFault) (right : List ℕ → Result C AsmFault) (Left Middle Right : List ℕ → Type 0) (judged_left : (t : List ℕ) → Judged (Left t) (left t)) (judged_middle : (t : List ℕ) → Judged (Middle t) (middle t)) (judged_right : (t : List ℕ) → Judged (Right t) (right t)) where
  three_read : (rest : List ℕ) → OfThree Left Middle Right rest → of_three (λ t. loose (left t)) (λ t. loose (middle t)) (λ t. loose (right t)) (triple rest) ≡ Ok (tt, (tt, tt))
  three_read rest h = is_three (λ t. loose (left t)) (λ t. loose (middle t)) (λ t. loose (right t)) (λ t _. Left t) (λ t _. Middle t) (λ t _. Right t) (λ t _ k. is_loose (Left t) (left t) (judged_left t) k) (λ t _ k. is_loose (Middle t) (middle t) (judged_middle t) k) (λ t _ k. is_loose (Right t) (right t) (judged_right t) k) rest tt tt tt h

  read_three : (rest : List ℕ) → of_three (λ t. loose (left t)) (λ t. loose (middle t)) (λ t. loose (right t)) (triple rest) ≡ Ok (tt, (tt, tt)) → OfThree Left Middle Right rest
  read_three rest h = three_is (λ t. loose (left t)) (λ t. loose (middle t)) (λ t. loose (right t)) (λ t _. Left t) (λ t _. Middle t) (λ t _. Right t) (λ t _ k. loose_is (Left t) (left t) (judged_left t) k) (λ t _ k. loose_is (Middle t) (middle t) (judged_middle t) k) (λ t _ k. loose_is (Right t) (right t) (judged_right t) k) rest (tt, (tt, tt)) h

  three_at : (rest : List ℕ) (o : Option (List ℕ × List ℕ × List ℕ)) → o ≡ triple rest → Judged (OfThree Left Middle Right rest) (of_three left middle right o)
  three_at rest None e = inl (refl, λ h. none_loose (ap (of_three (λ t. loose (left t)) (λ t. loose (middle t)) (λ t. loose (right t))) e ∙ three_read rest h))
    where
      none_loose : of_three (λ t. loose (left t)) (λ t. loose (middle t)) (λ t. loose (right t)) None ≡ Ok (tt, (tt, tt)) → ⊥
      none_loose k = absurd cc
  three_at rest (Some p) e =
      judged_by (both (left p.0) (both (middle p.1) (right p.2))) to from (judged_both _ _ (left p.0) (both (middle p.1) (right p.2)) (judged_left p.0) (judged_both _ _ (middle p.1) (right p.2) (judged_middle p.1) (judged_right p.2)))
    where
      to : Left p.0 × (Middle p.1 × Right p.2) → OfThree Left Middle Right rest
      to s = read_three rest (ap (of_three (λ t. loose (left t)) (λ t. loose (middle t)) (λ t. loose (right t))) (sym e) ∙ rw (is_loose (Left p.0) (left p.0) (judged_left p.0) s.0, is_loose (Middle p.1) (middle p.1) (judged_middle p.1) s.1.0, is_loose (Right p.2) (right p.2) (judged_right p.2) s.1.1) refl)

      from : OfThree Left Middle Right rest → Left p.0 × (Middle p.1 × Right p.2)
      from h =
          let b = three_loose (loose (left p.0)) (loose (middle p.1)) (loose (right p.2)) (ap (of_three (λ t. loose (left t)) (λ t. loose (middle t)) (λ t. loose (right t))) e ∙ three_read rest h) in
          (loose_is (Left p.0) (left p.0) (judged_left p.0) b.0, (loose_is (Middle p.1) (middle p.1) (judged_middle p.1) b.1, loose_is (Right p.2) (right p.2) (judged_right p.2) b.2))

  judged_three : (rest : List ℕ) → Judged (OfThree Left Middle Right rest) (of_three left middle right (triple rest))
  judged_three rest = three_at rest (triple rest) refl

-- ---- forms

one_register : (rest : List ℕ) → Judged (OfOne AnyRegister rest) (of_one register_of (lone rest))
one_register rest = judged_one register_of AnyRegister judged_register rest

register_and_source : (rest : List ℕ) → Judged (OfTwo AnyRegister AnySource rest) (of_two register_of source_of (pair rest))
register_and_source rest = judged_two register_of source_of AnyRegister AnySource judged_register judged_source rest

register_and_place : (rest : List ℕ) → Judged (OfTwo AnyRegister AnyPlace rest) (of_two register_of memory_of (pair rest))
register_and_place rest = judged_two register_of memory_of AnyRegister AnyPlace judged_register judged_memory rest

none_at : (rest : List ℕ) (d : Draft) (b : Bool) → b ≡ (length rest == 0) → Judged (rest ≡ []) (cond b (Ok d) (Err faults.Operand))
none_at [] d true e = refl
none_at (x ∷ xs) d true e = absurd (grind (arith, nat_tests))
none_at rest d false e = inl (refl, λ h. some rest h e)
  where
    some : (t : List ℕ) → t ≡ [] → false ≡ (length t == 0) → ⊥
    some [] h k = absurd cc
    some (x ∷ xs) h k = absurd cc

judged_draft : (f : Form) (rest : List ℕ) → Judged (AnyOperands f rest) (draft f rest)
judged_draft (Alu bits operation) rest = judged_filled _ _ (of_two register_of source_of (pair rest)) (register_and_source rest)
judged_draft (Neg bits) rest = judged_filled _ _ (of_one register_of (lone rest)) (one_register rest)
judged_draft (Mov bits) rest = judged_filled _ _ (of_two register_of source_of (pair rest)) (register_and_source rest)
judged_draft (MovSigned extension) rest =
    judged_filled _ _ (of_two register_of register_of (pair rest)) (judged_two register_of register_of AnyRegister AnyRegister judged_register judged_register rest)
judged_draft (End order width) rest = judged_filled _ _ (of_one register_of (lone rest)) (one_register rest)
judged_draft LoadWide rest =
    judged_filled _ _ (of_two register_of (unsigned_of 18446744073709551615) (pair rest)) (judged_two register_of (unsigned_of 18446744073709551615) AnyRegister AnyNumber judged_register (judged_unsigned 18446744073709551615) rest)
judged_draft (Load width) rest = judged_filled _ _ (of_two register_of memory_of (pair rest)) (register_and_place rest)
judged_draft (LoadSigned width) rest = judged_filled _ _ (of_two register_of memory_of (pair rest)) (register_and_place rest)
judged_draft (StoreNumber width) rest =
    judged_filled _ _ (of_two memory_of immediate_of (pair rest)) (judged_two memory_of immediate_of AnyPlace AnyNumber judged_memory judged_immediate rest)
judged_draft (StoreRegister width) rest =
    judged_filled _ _ (of_two memory_of register_of (pair rest)) (judged_two memory_of register_of AnyPlace AnyRegister judged_memory judged_register rest)
judged_draft Jump rest = judged_filled _ drafts.Jump (of_one near_target_of (lone rest)) (judged_one near_target_of AnyTarget judged_near rest)
judged_draft JumpLong rest = judged_filled _ drafts.JumpLong (of_one far_target_of (lone rest)) (judged_one far_target_of AnyTarget judged_far rest)
judged_draft (Branch bits comparison) rest =
    judged_filled _ _ (of_three register_of source_of near_target_of (triple rest)) (judged_three register_of source_of near_target_of AnyRegister AnySource AnyTarget judged_register judged_source judged_near rest)
judged_draft Call rest = judged_one call_of AnyCall judged_call rest
judged_draft Exit rest = none_at rest (drafts.Plain insns.Exit) (length rest == 0) refl

-- ---- the fault of a word with its operands

no_draft : (w rest : List ℕ) (f : AsmFault) → draft_of (form_of w) rest ≡ Err f → (d : Draft) → ¬ IsDraftText d w rest
no_draft w rest f h d t = let read = is_draft d w rest t in absurd cc

refused_by : (w rest : List ℕ) (g : Form) (r : Result Draft AsmFault) → w ≡ word_of g → r ≡ draft_of (form_of w) rest → Judged (AnyOperands g rest) r → (f : AsmFault) → r ≡ Err f → InstructionFault w rest f
refused_by w rest g (Ok d) is e j f h = absurd cc
refused_by w rest g (Err k) is e (inl j) f h =
    let same : k ≡ f = cc in
    subst (λ (v : AsmFault). InstructionFault w rest v) (sym j.0 ∙ same) (record { form = g; is_word = is; other = j.1 })
refused_by w rest g (Err k) is e (inr j) f h =
    let same : k ≡ f = cc in
    subst (λ (v : AsmFault). InstructionFault w rest v) (sym j.0 ∙ same) (record { form = g; is_word = is; shaped = j.1; none = no_draft w rest k (sym e) })

unknown : (w : List ℕ) → None ≡ form_of w → (g : Form) → ¬ (w ≡ word_of g)
unknown w e g h = none-some g (e ∙ known_word g w h)

refused_at : (w rest : List ℕ) (o : Option Form) → o ≡ form_of w → (f : AsmFault) → draft_of o rest ≡ Err f → InstructionFault w rest f
refused_at w rest None e f h =
    let same : faults.Word ≡ f = cc in
    subst (λ (v : AsmFault). InstructionFault w rest v) same (unknown w e)
refused_at w rest (Some g) e f h =
    refused_by w rest g (draft g rest) (form_found w g (sym e)) (ap (λ o. draft_of o rest) e) (judged_draft g rest) f h

-- what the reader refuses has that fault
pub fault_is : (w rest : List ℕ) (f : AsmFault) → draft_of (form_of w) rest ≡ Err f → InstructionFault w rest f
fault_is w rest f h = refused_at w rest (form_of w) refl f h

-- ---- and back

word_fault : (w rest : List ℕ) (o : Option Form) → o ≡ form_of w → ((g : Form) → ¬ (w ≡ word_of g)) → draft_of o rest ≡ Err faults.Word
word_fault w rest None e h = refl
word_fault w rest (Some g) e h = absurd (h g (form_found w g (sym e)))

pub other_shape : {A : Type 0} (S : Type 0) (r : Result A AsmFault) → Judged S r → ¬ S → r ≡ Err faults.Operand
other_shape S (Ok d) j n = absurd (n j)
other_shape S (Err f) (inl j) n = ap (λ v. Err v) j.0
other_shape S (Err f) (inr j) n = absurd (n j.1)

pub no_such : {A : Type 0} (S : Type 0) (r : Result A AsmFault) → Judged S r → S → ((a : A) → ¬ (r ≡ Ok a)) → r ≡ Err faults.Range
no_such S (Ok d) j s n = absurd (n d refl)
no_such S (Err f) (inl j) s n = absurd (j.1 s)
no_such S (Err f) (inr j) s n = ap (λ v. Err v) j.0

known_draft : (w rest : List ℕ) (g : Form) → w ≡ word_of g → draft_of (form_of w) rest ≡ draft g rest
known_draft w rest g h = ap (λ o. draft_of o rest) (known_word g w h)

-- what has a fault is refused by it
pub is_fault : (w rest : List ℕ) (f : AsmFault) → InstructionFault w rest f → draft_of (form_of w) rest ≡ Err f
is_fault w rest faults.Word h = word_fault w rest (form_of w) refl h
is_fault w rest faults.Operand h =
    known_draft w rest h.form h.is_word ∙ other_shape (AnyOperands h.form rest) (draft h.form rest) (judged_draft h.form rest) h.other
is_fault w rest faults.Range h =
    known_draft w rest h.form h.is_word ∙ no_such (AnyOperands h.form rest) (draft h.form rest) (judged_draft h.form rest) h.shaped none
  where
    none : (d : Draft) → ¬ (draft h.form rest ≡ Ok d)
    none d e = h.none d (subst (λ (v : List ℕ). IsDraftText d v rest) (sym h.is_word) (draft_is h.form rest d e))
is_fault w rest faults.Label h = absurd h
is_fault w rest faults.NoMemory h = absurd h
