-- A line is read exactly where the relations hold.
use Rattle.std.proofs.Common.{◌≡◌, ℕ, ℤ, ◌==◌, Bool, true, false, List, [], ◌∷◌, ◌++◌, length, cond, Option, Some, None, Ok, Err, refl, sym, ap, subst, inl, inr, ◌∙◌, arith, codes, slice_index}
use Rattle.std.specs.List.{find}
use Rattle.std.specs.Str.{bytes_eq}
use Rattle.std.proofs.lemmas.Slice.Eq.{bytes_eq-Decides}
use Rattle.bpf_decode.specs.declared.insn.Operand.TheVariants.{Immediate, Register}
use Rattle.bpf_decode.specs.declared.insn.Insn.{Insn}
use Rattle.bpf_decode.specs.declared.insn.Insn.TheVariants as insns
use Rattle.asm_lines.specs.declared.fault.AsmFault.TheVariants as faults
use Rattle.asm_lines.specs.declared.form.Form.{Form}
use Rattle.asm_lines.specs.declared.form.Form.TheVariants.{Alu, Neg, Mov, MovSigned, End, LoadWide, Load, LoadSigned, StoreNumber, StoreRegister, Jump, JumpLong, Branch, Call, Exit}
use Rattle.asm_lines.specs.declared.target.Target.{Target}
use Rattle.asm_lines.specs.declared.draft.Draft.{Draft}
use Rattle.asm_lines.specs.declared.draft.Draft.TheVariants as drafts
use Rattle.asm_lines.specs.Words.{word_of, forms, form_of}
use Rattle.asm_lines.specs.Texts.{first_word, after_word, lone, pair, triple}
use Rattle.asm_lines.specs.Operands.{filled, of_one, of_two, of_three, register_of, immediate_of, unsigned_of, source_of, memory_of, near_target_of, far_target_of}
use Rattle.asm_lines.specs.Drafts.{call_of, draft, draft_of, instruction_of}
use Rattle.bpf_asm.specs.Syntax.{IsNatural, IsImmediate, IsUnsigned, IsRegister, IsSource, IsPlace, IsNearTarget, IsFarTarget, IsLocal, HasWord, One, Two, IsPlainText, IsDraftText, IsInstructionText}
use Rattle.bpf_asm.proofs.NumberRelations.{filled_is, immediate_is, is_immediate, unsigned_is, is_unsigned}
use Rattle.bpf_asm.proofs.OperandRelations.{register_is, is_register, source_is, is_source, memory_is, is_memory, near_is, is_near, far_is, is_far}
use Rattle.bpf_asm.proofs.CutRelations.{has_word, is_first, is_rest}
use Rattle.bpf_asm.proofs.OperandCuts.{one_is, is_one, two_is, is_two, three_is, is_three}
use Rattle.bpf_asm.proofs.OperandTexts.{length_some}
use Rattle.bpf_asm.proofs.WordLemmas.{form_known}

-- ---- operands of an instruction

one_register_is : (rest : List ℕ) (n : ℕ) → of_one register_of (lone rest) ≡ Ok n → One IsRegister rest n
one_register_is rest n h = one_is register_of IsRegister register_is rest n h

register_and_source_is : (rest : List ℕ) (p : _) → of_two register_of source_of (pair rest) ≡ Ok p → Two IsRegister IsSource rest p.0 p.1
register_and_source_is rest p h = two_is register_of source_of IsRegister IsSource register_is source_is rest p h

two_registers_is : (rest : List ℕ) (p : ℕ × ℕ) → of_two register_of register_of (pair rest) ≡ Ok p → Two IsRegister IsRegister rest p.0 p.1
two_registers_is rest p h = two_is register_of register_of IsRegister IsRegister register_is register_is rest p h

register_and_place_is : (rest : List ℕ) (p : ℕ × (ℕ × ℤ)) → of_two register_of memory_of (pair rest) ≡ Ok p → Two IsRegister IsPlace rest p.0 p.1
register_and_place_is rest p h = two_is register_of memory_of IsRegister IsPlace register_is memory_is rest p h

-- what a call's operand says
abbrev IsCallText : List ℕ → Draft → Type 0
IsCallText text (drafts.Plain (insns.Call helper)) = IsUnsigned 4294967295 text helper
IsCallText text (drafts.Plain _) = ⊥
IsCallText text (drafts.Jump target) = ⊥
IsCallText text (drafts.JumpLong target) = ⊥
IsCallText text (drafts.Branch bits comparison dst source target) = ⊥
IsCallText text (drafts.CallLocal target) = IsLocal text target

call_at : (text : List ℕ) (d : Draft) (b : Bool) → b ≡ bytes_eq (first_word text) (codes "local") → cond b (filled drafts.CallLocal (far_target_of (after_word text))) (filled (λ helper. drafts.Plain (insns.Call helper)) (unsigned_of 4294967295 text)) ≡ Ok d → IsCallText text d
call_at text d true e h =
    let word : first_word text ≡ codes "local" = (bytes_eq-Decides (first_word text) (codes "local")).0 (sym e) in
    let p = filled_is drafts.CallLocal (far_target_of (after_word text)) d h in
    let has : HasWord text (codes "local") (after_word text) = subst (λ (w : List ℕ). HasWord text w (after_word text)) word (has_word text) in
    subst (λ (v : Draft). IsCallText text v) p.is (record { rest = after_word text; word = has; is_target = far_is (after_word text) p.from p.read })
call_at text d false e h =
    let p = filled_is (λ helper. drafts.Plain (insns.Call helper)) (unsigned_of 4294967295 text) d h in
    subst (λ (v : Draft). IsCallText text v) p.is (unsigned_is 4294967295 text p.from p.read)

call_is : (text : List ℕ) (d : Draft) → call_of text ≡ Ok d → IsCallText text d
unfolding call_of
call_is text d h = call_at text d (bytes_eq (first_word text) (codes "local")) refl h

one_call : (rest : List ℕ) (d : Draft) → One IsCallText rest d → IsDraftText d (word_of Call) rest
one_call rest (drafts.Plain (insns.Call helper)) o = (refl, record { inner = o.inner; without = o.without; padded = o.padded; is = o.is })
one_call rest (drafts.Plain _) o = absurd o.is
one_call rest (drafts.Jump target) o = absurd o.is
one_call rest (drafts.JumpLong target) o = absurd o.is
one_call rest (drafts.Branch bits comparison dst source target) o = absurd o.is
one_call rest (drafts.CallLocal target) o = (refl, record { inner = o.inner; without = o.without; padded = o.padded; is = o.is })

pub true_false : true ≡ false → ⊥
true_false h = absurd cc

none_at : (rest : List ℕ) (d e : Draft) (b : Bool) → b ≡ (length rest == 0) → cond b (Ok e) (Err faults.Operand) ≡ Ok d → (rest ≡ []) × (e ≡ d)
none_at [] d e true t h = (refl, cc)
none_at (x ∷ xs) d e true t h = absurd (true_false (t ∙ length_some x xs))
none_at rest d e false t h = absurd cc

-- an instruction's operands are read where they are its
pub draft_is : (f : Form) (rest : List ℕ) (d : Draft) → draft f rest ≡ Ok d → IsDraftText d (word_of f) rest
draft_is (Alu bits operation) rest d h =
    let p = filled_is (λ p. drafts.Plain (insns.Alu bits operation p.0 p.1)) (of_two register_of source_of (pair rest)) d h in
    subst (λ (v : Draft). IsDraftText v (word_of (Alu bits operation)) rest) p.is (refl, register_and_source_is rest p.from p.read)
draft_is (Neg bits) rest d h =
    let p = filled_is (λ dst. drafts.Plain (insns.Neg bits dst)) (of_one register_of (lone rest)) d h in
    subst (λ (v : Draft). IsDraftText v (word_of (Neg bits)) rest) p.is (refl, one_register_is rest p.from p.read)
draft_is (Mov bits) rest d h =
    let p = filled_is (λ p. drafts.Plain (insns.Mov bits p.0 p.1)) (of_two register_of source_of (pair rest)) d h in
    subst (λ (v : Draft). IsDraftText v (word_of (Mov bits)) rest) p.is (refl, register_and_source_is rest p.from p.read)
draft_is (MovSigned extension) rest d h =
    let p = filled_is (λ p. drafts.Plain (insns.MovSigned extension p.0 p.1)) (of_two register_of register_of (pair rest)) d h in
    subst (λ (v : Draft). IsDraftText v (word_of (MovSigned extension)) rest) p.is (refl, two_registers_is rest p.from p.read)
draft_is (End order width) rest d h =
    let p = filled_is (λ dst. drafts.Plain (insns.End order width dst)) (of_one register_of (lone rest)) d h in
    subst (λ (v : Draft). IsDraftText v (word_of (End order width)) rest) p.is (refl, one_register_is rest p.from p.read)
draft_is LoadWide rest d h =
    let p = filled_is (λ p. drafts.Plain (insns.LoadWide p.0 p.1)) (of_two register_of (unsigned_of 18446744073709551615) (pair rest)) d h in
    let both = two_is register_of (unsigned_of 18446744073709551615) IsRegister (IsUnsigned 18446744073709551615) register_is (unsigned_is 18446744073709551615) rest p.from p.read in
    subst (λ (v : Draft). IsDraftText v (word_of LoadWide) rest) p.is (refl, both)
draft_is (Load width) rest d h =
    let p = filled_is (λ p. drafts.Plain (insns.Load width p.0 p.1.0 p.1.1)) (of_two register_of memory_of (pair rest)) d h in
    subst (λ (v : Draft). IsDraftText v (word_of (Load width)) rest) p.is (refl, register_and_place_is rest p.from p.read)
draft_is (LoadSigned width) rest d h =
    let p = filled_is (λ p. drafts.Plain (insns.LoadSigned width p.0 p.1.0 p.1.1)) (of_two register_of memory_of (pair rest)) d h in
    subst (λ (v : Draft). IsDraftText v (word_of (LoadSigned width)) rest) p.is (refl, register_and_place_is rest p.from p.read)
draft_is (StoreNumber width) rest d h =
    let p = filled_is (λ p. drafts.Plain (insns.Store width p.0.0 p.0.1 (Immediate p.1))) (of_two memory_of immediate_of (pair rest)) d h in
    subst (λ (v : Draft). IsDraftText v (word_of (StoreNumber width)) rest) p.is (refl, two_is memory_of immediate_of IsPlace IsImmediate memory_is immediate_is rest p.from p.read)
draft_is (StoreRegister width) rest d h =
    let p = filled_is (λ p. drafts.Plain (insns.Store width p.0.0 p.0.1 (Register p.1))) (of_two memory_of register_of (pair rest)) d h in
    subst (λ (v : Draft). IsDraftText v (word_of (StoreRegister width)) rest) p.is (refl, two_is memory_of register_of IsPlace IsRegister memory_is register_is rest p.from p.read)
draft_is Jump rest d h =
    let p = filled_is drafts.Jump (of_one near_target_of (lone rest)) d h in
    subst (λ (v : Draft). IsDraftText v (word_of Jump) rest) p.is (refl, one_is near_target_of IsNearTarget near_is rest p.from p.read)
draft_is JumpLong rest d h =
    let p = filled_is drafts.JumpLong (of_one far_target_of (lone rest)) d h in
    subst (λ (v : Draft). IsDraftText v (word_of JumpLong) rest) p.is (refl, one_is far_target_of IsFarTarget far_is rest p.from p.read)
draft_is (Branch bits comparison) rest d h =
    let p = filled_is (λ p. drafts.Branch bits comparison p.0 p.1.0 p.1.1) (of_three register_of source_of near_target_of (triple rest)) d h in
    let all = three_is register_of source_of near_target_of IsRegister IsSource IsNearTarget register_is source_is near_is rest p.from p.read in
    subst (λ (v : Draft). IsDraftText v (word_of (Branch bits comparison)) rest) p.is (refl, all)
draft_is Call rest d h = one_call rest d (one_is call_of IsCallText call_is rest d h)
draft_is Exit rest d h =
    let p = none_at rest d (drafts.Plain insns.Exit) (length rest == 0) refl h in
    subst (λ (v : Draft). IsDraftText v (word_of Exit) rest) p.1 (refl, p.0)

-- a word that was found is that form's
word_found_at : (g : Form) (w : List ℕ) (f : Form) (o : Option Form) → (o ≡ Some f → w ≡ word_of f) → (b : Bool) → b ≡ bytes_eq (word_of g) w → cond b (Some g) o ≡ Some f → w ≡ word_of f
word_found_at g w f o k true e h =
    let same : g ≡ f = cc in
    sym ((bytes_eq-Decides (word_of g) w).0 (sym e)) ∙ ap word_of same
word_found_at g w f o k false e h = k h

word_found : (fs : List Form) (w : List ℕ) (f : Form) → find (λ g. bytes_eq (word_of g) w) fs ≡ Some f → w ≡ word_of f
word_found [] w f h = absurd cc
word_found (g ∷ fs) w f h = word_found_at g w f (find (λ g. bytes_eq (word_of g) w) fs) (word_found fs w f) (bytes_eq (word_of g) w) refl h

pub form_found : (w : List ℕ) (f : Form) → form_of w ≡ Some f → w ≡ word_of f
unfolding form_of
form_found w f h = word_found forms w f h

drafted : (o : Option Form) (w rest : List ℕ) (d : Draft) → o ≡ form_of w → draft_of o rest ≡ Ok d → IsDraftText d w rest
drafted None w rest d e h = absurd cc
drafted (Some f) w rest d e h = subst (λ (v : List ℕ). IsDraftText d v rest) (sym (form_found w f (sym e))) (draft_is f rest d h)

pub instruction_is : (text : List ℕ) (d : Draft) → instruction_of text ≡ Ok d → IsInstructionText text d
unfolding instruction_of
instruction_is text d h = record { word = first_word text; rest = after_word text; parts = has_word text; says = drafted (form_of (first_word text)) (first_word text) (after_word text) d refl h }

-- ---- and back

is_call : (text : List ℕ) (target : Target) → IsLocal text target → call_of text ≡ Ok (drafts.CallLocal target)
unfolding call_of
is_call text target h = rw (is_first text (codes "local") h.rest h.word, is_rest text (codes "local") h.rest h.word, is_far h.rest target h.is_target) refl

other_byte : (a b : ℕ) → a ≡ b → a ≡ 108 → b ≡ 48 → ⊥
other_byte a b h k l = omega arith

-- no number begins with `l`
no_number : (xs : List ℕ) (n : ℕ) → IsNatural (108 ∷ xs) n → ⊥
no_number xs n (inl d) = absurd (true_false (sym (rw (length_some 108 xs) at d.digits)))
no_number xs n (inr h) = other_byte 108 48 (ap (λ (t : List ℕ). slice_index t 0) h.whole) refl refl

pub not_local_at : (text rest : List ℕ) (n : ℕ) → IsNatural text n → HasWord text (codes "local") rest → ⊥
not_local_at text rest n i h = no_number (codes "ocal" ++ (h.gap ++ rest)) n (subst (λ (t : List ℕ). IsNatural t n) h.whole i)

not_local_by : (text : List ℕ) (n : ℕ) → IsNatural text n → (b : Bool) → b ≡ bytes_eq (first_word text) (codes "local") → b ≡ false
not_local_by text n i false e = refl
not_local_by text n i true e =
    let word : first_word text ≡ codes "local" = (bytes_eq-Decides (first_word text) (codes "local")).0 (sym e) in
    absurd (not_local_at text (after_word text) n i (subst (λ (w : List ℕ). HasWord text w (after_word text)) word (has_word text)))

not_local : (text : List ℕ) (n : ℕ) → IsUnsigned 4294967295 text n → bytes_eq (first_word text) (codes "local") ≡ false
not_local text n h = not_local_by text n h.0 (bytes_eq (first_word text) (codes "local")) refl

is_helper : (text : List ℕ) (n : ℕ) → IsUnsigned 4294967295 text n → call_of text ≡ Ok (drafts.Plain (insns.Call n))
unfolding call_of
is_helper text n h = rw (not_local text n h, is_unsigned 4294967295 text n h) refl

pub known_word : (f : Form) (w : List ℕ) → w ≡ word_of f → form_of w ≡ Some f
known_word f w e = ap form_of e ∙ form_known f

is_called : (text : List ℕ) (d : Draft) → IsCallText text d → call_of text ≡ Ok d
is_called text (drafts.Plain (insns.Call helper)) h = is_helper text helper h
is_called text (drafts.Plain _) h = absurd h
is_called text (drafts.Jump target) h = absurd h
is_called text (drafts.JumpLong target) h = absurd h
is_called text (drafts.Branch bits comparison dst source target) h = absurd h
is_called text (drafts.CallLocal target) h = is_call text target h

is_plain_draft : (i : Insn) (w rest : List ℕ) → IsPlainText i w rest → draft_of (form_of w) rest ≡ Ok (drafts.Plain i)
is_plain_draft (insns.Alu bits operation dst source) w rest h =
    rw (known_word (Alu bits operation) w h.0, is_two register_of source_of IsRegister IsSource is_register is_source rest dst source h.1) refl
is_plain_draft (insns.Neg bits dst) w rest h = rw (known_word (Neg bits) w h.0, is_one register_of IsRegister is_register rest dst h.1) refl
is_plain_draft (insns.Mov bits dst source) w rest h =
    rw (known_word (Mov bits) w h.0, is_two register_of source_of IsRegister IsSource is_register is_source rest dst source h.1) refl
is_plain_draft (insns.MovSigned extension dst src) w rest h =
    rw (known_word (MovSigned extension) w h.0, is_two register_of register_of IsRegister IsRegister is_register is_register rest dst src h.1) refl
is_plain_draft (insns.End order width dst) w rest h = rw (known_word (End order width) w h.0, is_one register_of IsRegister is_register rest dst h.1) refl
is_plain_draft (insns.LoadWide dst value) w rest h =
    rw (known_word LoadWide w h.0, is_two register_of (unsigned_of 18446744073709551615) IsRegister (IsUnsigned 18446744073709551615) is_register (is_unsigned 18446744073709551615) rest dst value h.1) refl
is_plain_draft (insns.Load width dst base offset) w rest h =
    rw (known_word (Load width) w h.0, is_two register_of memory_of IsRegister IsPlace is_register is_memory rest dst (base, offset) h.1) refl
is_plain_draft (insns.LoadSigned width dst base offset) w rest h =
    rw (known_word (LoadSigned width) w h.0, is_two register_of memory_of IsRegister IsPlace is_register is_memory rest dst (base, offset) h.1) refl
is_plain_draft (insns.Store width base offset (Immediate imm)) w rest h =
    rw (known_word (StoreNumber width) w h.0, is_two memory_of immediate_of IsPlace IsImmediate is_memory is_immediate rest (base, offset) imm h.1) refl
is_plain_draft (insns.Store width base offset (Register src)) w rest h =
    rw (known_word (StoreRegister width) w h.0, is_two memory_of register_of IsPlace IsRegister is_memory is_register rest (base, offset) src h.1) refl
is_plain_draft (insns.Call helper) w rest h = rw (known_word Call w h.0) (is_one call_of IsCallText is_called rest (drafts.Plain (insns.Call helper)) (record { inner = h.1.inner; without = h.1.without; padded = h.1.padded; is = h.1.is }))
is_plain_draft insns.Exit w rest h = rw (known_word Exit w h.0, h.1) refl
is_plain_draft (insns.Jump offset) w rest h = absurd h
is_plain_draft (insns.JumpLong distance) w rest h = absurd h
is_plain_draft (insns.Branch bits comparison dst source offset) w rest h = absurd h
is_plain_draft (insns.CallLocal distance) w rest h = absurd h

pub is_draft : (d : Draft) (w rest : List ℕ) → IsDraftText d w rest → draft_of (form_of w) rest ≡ Ok d
is_draft (drafts.Plain i) w rest h = is_plain_draft i w rest h
is_draft (drafts.Jump target) w rest h = rw (known_word Jump w h.0, is_one near_target_of IsNearTarget is_near rest target h.1) refl
is_draft (drafts.JumpLong target) w rest h = rw (known_word JumpLong w h.0, is_one far_target_of IsFarTarget is_far rest target h.1) refl
is_draft (drafts.Branch bits comparison dst source target) w rest h =
    rw (known_word (Branch bits comparison) w h.0, is_three register_of source_of near_target_of IsRegister IsSource IsNearTarget is_register is_source is_near rest dst source target h.1) refl
is_draft (drafts.CallLocal target) w rest h =
    rw (known_word Call w h.0) (is_one call_of IsCallText is_called rest (drafts.CallLocal target) (record { inner = h.1.inner; without = h.1.without; padded = h.1.padded; is = h.1.is }))

pub is_instruction : (text : List ℕ) (d : Draft) → IsInstructionText text d → instruction_of text ≡ Ok d
unfolding instruction_of
is_instruction text d h = rw (is_first text h.word h.rest h.parts, is_rest text h.word h.rest h.parts) (is_draft d h.word h.rest h.says)
