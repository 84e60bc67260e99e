-- Operands are read exactly where the relations hold.
use Rattle.std.proofs.Common.{◌≡◌, inl, inr, ℕ, ℤ, pos, negsuc, ◌==◌, ◌&&◌, ◌-◌, ◌≤◌, zero, suc, Bool, true, false, cond, List, [], ◌∷◌, ◌++◌, length, take, drop, get_or, slice_index, Result, Ok, Err, refl, sym, ap, ◌∙◌, subst, arith, lit<, append_assoc, append-nil, codes}
use Rattle.std.specs.List.{position_or_len, before_first}
use Rattle.std.proofs.lemmas.Bool.Decides.{nat_tests}
use Rattle.bpf_decode.specs.declared.insn.Operand.{Operand}
use Rattle.bpf_decode.specs.declared.insn.Operand.TheVariants.{Immediate, Register}
use Rattle.asm_lines.specs.declared.fault.AsmFault.{AsmFault}
use Rattle.asm_lines.specs.declared.fault.AsmFault.TheVariants as faults
use Rattle.asm_lines.specs.declared.target.Target.{Target}
use Rattle.asm_lines.specs.declared.target.Target.TheVariants.{Slots, Label}
use Rattle.asm_lines.specs.Numbers.{decimal_number, natural_within}
use Rattle.asm_lines.specs.Texts.{is_label_name}
use Rattle.asm_lines.specs.Operands.{filled, both, register_of, immediate_of, offset_of, distance_of, source_of, is_sign, offset_or_zero, place_within, memory_of, near_target_of, far_target_of}
use Rattle.bpf_asm.specs.Syntax.{IsSigned, IsImmediate, IsOffset, IsRegister, IsSource, IsOffsetOrNone, IsPlace, IsNearTarget, IsFarTarget}
use Rattle.bpf_asm.proofs.PlainBytes.{Free, before_at, before_none, drop_seam, and_left, and_right}
use Rattle.bpf_asm.proofs.TextLemmas.{front}
use Rattle.bpf_asm.proofs.OperandTexts.{signs_free, if_some, if_same, in_brackets}
use Rattle.bpf_asm.proofs.NumberRelations.{decimal_digits, decimal_is, is_decimal, natural_first, within_is, is_within_most, behind, filled_is, immediate_is, is_immediate, offset_is, is_offset, distance_is, is_distance}

-- ---- registers and sources

register_by : (text : List ℕ) (n : ℕ) (b : Bool) → (slice_index text 0 == 114) ≡ b → cond b (natural_within 10 (decimal_number (drop 1 text))) (Err faults.Operand) ≡ Ok n → IsRegister text n
register_by text n false e h = absurd cc
register_by text n true e h =
    let p = within_is 10 (decimal_number (drop 1 text)) n h in
    record { number = drop 1 text; whole = behind 114 text (lit< tt) e; decimal = decimal_is (drop 1 text) n p.0; most = p.1 }

pub register_is : (text : List ℕ) (n : ℕ) → register_of text ≡ Ok n → IsRegister text n
unfolding register_of
register_is text n h = register_by text n (slice_index text 0 == 114) refl h

pub is_register : (text : List ℕ) (n : ℕ) → IsRegister text n → register_of text ≡ Ok n
unfolding register_of
is_register text n h = rw h.whole (is_within_most 10 (decimal_number h.number) n (is_decimal h.number n h.decimal) h.most)

source_by : (text : List ℕ) (s : Operand) (b : Bool) → cond b (filled Register (register_of text)) (filled Immediate (immediate_of text)) ≡ Ok s → IsSource text s
source_by text s true h =
    let f = filled_is Register (register_of text) s h in
    subst (λ (v : Operand). IsSource text v) f.is (register_is text f.from f.read)
source_by text s false h =
    let f = filled_is Immediate (immediate_of text) s h in
    subst (λ (v : Operand). IsSource text v) f.is (immediate_is text f.from f.read)

pub source_is : (text : List ℕ) (s : Operand) → source_of text ≡ Ok s → IsSource text s
unfolding source_of
source_is text s h = source_by text s (slice_index text 0 == 114) h

immediate_first : (text : List ℕ) (z : ℤ) → IsImmediate text z → (slice_index text 0 == 114) ≡ false
immediate_first text (pos n) h = natural_first text n h.0 114 (lit< tt) (inr (lit< tt))
immediate_first text (negsuc k) h = rw h.0.whole refl

register_first : (text : List ℕ) (n : ℕ) → IsRegister text n → (slice_index text 0 == 114) ≡ true
register_first text n h = rw h.whole refl

pub is_source : (text : List ℕ) (s : Operand) → IsSource text s → source_of text ≡ Ok s
unfolding source_of
is_source text (Immediate z) h = rw (immediate_first text z h, is_immediate text z h) refl
is_source text (Register n) h = rw (register_first text n h, is_register text n h) refl

-- ---- places in memory

both_is : (r : Result ℕ AsmFault) (s : Result ℤ AsmFault) (p : ℕ × ℤ) → both r s ≡ Ok p → (r ≡ Ok p.0) × (s ≡ Ok p.1)
both_is (Ok a) (Ok b) p h =
    let same : (a, b) ≡ p = cc in
    (ap (λ (q : ℕ × ℤ). Ok q.0) same, ap (λ (q : ℕ × ℤ). Ok q.1) same)
both_is (Ok a) (Err g) p h = absurd cc
both_is (Err f) (Ok b) p h = absurd cc
both_is (Err f) (Err g) p h = absurd cc

offset_or_none_is : (text : List ℕ) (z : ℤ) → offset_or_zero text ≡ Ok z → IsOffsetOrNone text z
unfolding offset_or_zero
offset_or_none_is [] z h = let same : pos 0 ≡ z = cc in inr (refl, sym same)
offset_or_none_is (c ∷ cs) z h = inl (offset_is (c ∷ cs) z (sym (if_some c cs (Ok (pos 0)) (offset_of (c ∷ cs))) ∙ h))

-- a text is a front of it and the rest
pub cut_after : (k : ℕ) (xs : List ℕ) → xs ≡ take k xs ++ drop (length (take k xs)) xs
cut_after zero [] = refl
cut_after zero (x ∷ xs) = refl
cut_after (suc k) [] = refl
cut_after (suc k) (x ∷ xs) = ap (λ (v : List ℕ). x ∷ v) (cut_after k xs)

bracketed_more : (c : ℕ) (cs : List ℕ) → 1 ≤ length cs → (c == 91) ≡ true → (slice_index (c ∷ cs) (length (c ∷ cs) - 1) == 93) ≡ true → c ∷ cs ≡ 91 ∷ (take (length (c ∷ cs) - 2) cs ++ (93 ∷ []))
bracketed_more c cs some h k =
    let last : length (c ∷ cs) - 1 ≡ suc (length cs - 1) = omega arith in
    let inside : length (c ∷ cs) - 2 ≡ length cs - 1 = omega arith in
    let at_end : slice_index (c ∷ cs) (length (c ∷ cs) - 1) ≡ get_or cs (length cs - 1) 0 = rw last refl in
    let first : c ≡ 91 = grind (arith, nat_tests) in
    let close : get_or cs (length cs - 1) 0 ≡ 93 = grind (arith, nat_tests) in
    rw (first, inside) (ap (λ (v : List ℕ). 91 ∷ v) (front cs some ∙ ap (λ (d : ℕ). take (length cs - 1) cs ++ (d ∷ [])) close))

lone_bracket : (c : ℕ) → (c == 91) ≡ true → (c == 93) ≡ false
lone_bracket c h = grind (arith, nat_tests)

pub bracketed : (text : List ℕ) → (slice_index text 0 == 91) ≡ true → (slice_index text (length text - 1) == 93) ≡ true → text ≡ 91 ∷ (take (length text - 2) (drop 1 text) ++ (93 ∷ []))
bracketed [] h k = absurd cc
bracketed (c ∷ []) h k = let other = lone_bracket c h in absurd cc
bracketed (c ∷ d ∷ ds) h k = bracketed_more c (d ∷ ds) (omega arith) h k

place_is : (text inner : List ℕ) (p : ℕ × ℤ) → text ≡ 91 ∷ (inner ++ (93 ∷ [])) → place_within inner ≡ Ok p → IsPlace text p
unfolding place_within
place_is text inner p whole h =
    let base = before_first is_sign inner in
    let offset = drop (length base) inner in
    let parts : inner ≡ base ++ offset = cut_after (position_or_len is_sign inner) inner in
    let b = both_is (register_of base) (offset_or_zero offset) p h in
    let all : text ≡ codes "[" ++ (base ++ (offset ++ codes "]")) =
    whole ∙ ap (λ (v : List ℕ). 91 ∷ (v ++ (93 ∷ []))) parts ∙ ap (λ (v : List ℕ). 91 ∷ v) (append_assoc base offset (93 ∷ []))
    in
    record { base = base; offset = offset; whole = all; is_base = register_is base p.0 b.0; is_offset = offset_or_none_is offset p.1 b.1 }

memory_by : (text : List ℕ) (p : ℕ × ℤ) (b : Bool) → (slice_index text 0 == 91 && slice_index text (length text - 1) == 93) ≡ b → cond b (place_within (take (length text - 2) (drop 1 text))) (Err faults.Operand) ≡ Ok p → IsPlace text p
memory_by text p false e h = absurd cc
memory_by text p true e h =
    let whole = bracketed text (and_left (slice_index text 0 == 91) (slice_index text (length text - 1) == 93) e) (and_right (slice_index text 0 == 91) (slice_index text (length text - 1) == 93) e) in
    place_is text (take (length text - 2) (drop 1 text)) p whole h

pub memory_is : (text : List ℕ) (p : ℕ × ℤ) → memory_of text ≡ Ok p → IsPlace text p
unfolding memory_of
memory_is text p h = memory_by text p (slice_index text 0 == 91 && slice_index text (length text - 1) == 93) refl h

-- a register's text has no sign
register_unsigned : (text : List ℕ) (n : ℕ) → IsRegister text n → Free is_sign text
register_unsigned text n h =
    let free : Free is_sign (114 ∷ h.number) = (refl, signs_free h.number (decimal_digits h.number n h.decimal)) in
    subst (λ (v : List ℕ). Free is_sign v) (sym h.whole) free

place_of : (base offset : List ℕ) (p : ℕ × ℤ) → before_first is_sign (base ++ offset) ≡ base → register_of base ≡ Ok p.0 → offset_or_zero offset ≡ Ok p.1 → place_within (base ++ offset) ≡ Ok p
unfolding place_within
place_of base offset p cut r o = rw (cut, drop_seam base offset, r, o) refl

pub before_signed : (base offset : List ℕ) (z : ℤ) → Free is_sign base → IsSigned offset z → before_first is_sign (base ++ offset) ≡ base
before_signed base offset (pos n) free h = rw h.whole (before_at is_sign base 43 h.number free refl)
before_signed base offset (negsuc k) free h = rw h.whole (before_at is_sign base 45 h.number free refl)

signed_some : (text : List ℕ) (z : ℤ) → IsSigned text z → (length text == 0) ≡ false
signed_some text (pos n) h = rw h.whole (grind (arith, nat_tests))
signed_some text (negsuc k) h = rw h.whole (grind (arith, nat_tests))

is_offset_or_zero : (text : List ℕ) (z : ℤ) → IsOffset text z → offset_or_zero text ≡ Ok z
unfolding offset_or_zero
is_offset_or_zero text z h = rw (signed_some text z h.0) (is_offset text z h)

none_is_zero : offset_or_zero [] ≡ Ok (pos 0)
unfolding offset_or_zero
none_is_zero = refl

is_place : (base offset : List ℕ) (p : ℕ × ℤ) → IsRegister base p.0 → IsOffsetOrNone offset p.1 → place_within (base ++ offset) ≡ Ok p
is_place base offset p r (inl o) =
    place_of base offset p (before_signed base offset p.1 (register_unsigned base p.0 r) o.0) (is_register base p.0 r) (is_offset_or_zero offset p.1 o)
is_place base offset p r (inr o) =
    let cut : before_first is_sign (base ++ offset) ≡ base = rw (o.0, append-nil) (before_none is_sign base (register_unsigned base p.0 r)) in
    place_of base offset p cut (is_register base p.0 r) (ap offset_or_zero o.0 ∙ none_is_zero ∙ ap (λ (z : ℤ). Ok z) (sym o.1))

pub is_memory : (text : List ℕ) (p : ℕ × ℤ) → IsPlace text p → memory_of text ≡ Ok p
is_memory text p h =
    let whole : text ≡ 91 ∷ ((h.base ++ h.offset) ++ (93 ∷ [])) = h.whole ∙ ap (λ (v : List ℕ). 91 ∷ v) (sym (append_assoc h.base h.offset (93 ∷ []))) in
    ap memory_of whole ∙ in_brackets (h.base ++ h.offset) ∙ is_place h.base h.offset p h.is_base h.is_offset

-- ---- targets of jumps

near_by : (text : List ℕ) (t : Target) (b : Bool) → is_label_name text ≡ b → cond b (Ok (Label text)) (filled Slots (offset_of text)) ≡ Ok t → IsNearTarget text t
near_by text t true e h =
    let same : Label text ≡ t = cc in
    subst (λ (v : Target). IsNearTarget text v) same (refl, e)
near_by text t false e h =
    let f = filled_is Slots (offset_of text) t h in
    subst (λ (v : Target). IsNearTarget text v) f.is (offset_is text f.from f.read)

pub near_is : (text : List ℕ) (t : Target) → near_target_of text ≡ Ok t → IsNearTarget text t
unfolding near_target_of
near_is text t h = near_by text t (is_label_name text) refl h

far_by : (text : List ℕ) (t : Target) (b : Bool) → is_label_name text ≡ b → cond b (Ok (Label text)) (filled Slots (distance_of text)) ≡ Ok t → IsFarTarget text t
far_by text t true e h =
    let same : Label text ≡ t = cc in
    subst (λ (v : Target). IsFarTarget text v) same (refl, e)
far_by text t false e h =
    let f = filled_is Slots (distance_of text) t h in
    subst (λ (v : Target). IsFarTarget text v) f.is (distance_is text f.from f.read)

pub far_is : (text : List ℕ) (t : Target) → far_target_of text ≡ Ok t → IsFarTarget text t
unfolding far_target_of
far_is text t h = far_by text t (is_label_name text) refl h

-- a number with its sign is no label's name
signed_no_label : (text : List ℕ) (z : ℤ) → IsSigned text z → is_label_name text ≡ false
unfolding is_label_name
signed_no_label text (pos n) h = rw h.whole (if_same (length (43 ∷ h.number) == 0))
signed_no_label text (negsuc k) h = rw h.whole (if_same (length (45 ∷ h.number) == 0))

pub is_near : (text : List ℕ) (t : Target) → IsNearTarget text t → near_target_of text ≡ Ok t
unfolding near_target_of
is_near text (Slots z) h = rw (signed_no_label text z h.0, is_offset text z h) refl
is_near text (Label name) h = rw (h.0, h.1) refl

pub is_far : (text : List ℕ) (t : Target) → IsFarTarget text t → far_target_of text ≡ Ok t
unfolding far_target_of
is_far text (Slots z) h = rw (signed_no_label text z h.0, is_distance text z h) refl
is_far text (Label name) h = rw (h.0, h.1) refl
