-- Where operands are refused, it is 2 Operand if they lack the shape, and 3 Range if they have it.
use Rattle.std.proofs.Common.{◌≡◌, ◌⊎◌, inl, inr, ℕ, ℤ, pos, negsuc, ◌==◌, ◌&&◌, ◌-◌, zero, suc, Bool, true, false, cond, List, [], ◌∷◌, ◌++◌, length, take, drop, slice_index, nat_le, Option, Some, None, Result, Ok, Err, refl, sym, ap, ◌∙◌, subst, arith, lit<, append_assoc, length-append, ◌+◌, codes}
use Rattle.std.specs.List.{before_first, position_or_len}
use Rattle.std.specs.Str.{bytes_eq}
use Rattle.std.proofs.lemmas.Option.{none-some}
use Rattle.std.proofs.lemmas.List.{append_cancel_right, append-nil}
use Rattle.std.proofs.lemmas.Bool.Decides.{nat_tests}
use Rattle.std.proofs.lemmas.Slice.Eq.{bytes_eq-Decides}
use Rattle.bpf_decode.specs.declared.insn.Operand.TheVariants.{Immediate, Register}
use Rattle.asm_lines.specs.declared.fault.AsmFault.{AsmFault}
use Rattle.asm_lines.specs.declared.fault.AsmFault.TheVariants as faults
use Rattle.asm_lines.specs.declared.target.Target.TheVariants.{Slots, Label}
use Rattle.asm_lines.specs.declared.number.Number.{Number}
use Rattle.asm_lines.specs.Numbers.{decimal_number, natural, natural_within, as_negative, as_nonnegative, minus_within, plus_within, plain_within, signed_within, value_of}
use Rattle.asm_lines.specs.Texts.{first_word, after_word, is_label_name}
use Rattle.asm_lines.specs.Operands.{filled, both, register_of, immediate_of, offset_of, distance_of, unsigned_of, source_of, is_sign, offset_or_zero, place_within, memory_of, near_target_of, far_target_of}
use Rattle.asm_lines.specs.Drafts.{call_of}
use Rattle.asm_lines.specs.declared.draft.Draft.TheVariants as drafts
use Rattle.bpf_decode.specs.declared.insn.Insn.TheVariants as insns
use Rattle.bpf_asm.specs.Syntax.{IsNatural, IsInteger, IsSigned, HasWord}
use Rattle.bpf_asm.specs.Shapes.{AnyRegister, AnyNumber, AnySigned, AnySource, AnyPlace, AnyTarget, AnyCall}
use Rattle.bpf_asm.proofs.PlainBytes.{Free, before_none, drop_seam, and_left, and_right}
use Rattle.bpf_asm.proofs.OperandTexts.{signs_free, if_some, last_byte}
use Rattle.bpf_asm.proofs.NumberRelations.{decimal_digits, decimal_is, is_decimal, natural_is, is_natural, natural_first, behind}
use Rattle.bpf_asm.proofs.OperandRelations.{bracketed, before_signed, cut_after}
use Rattle.bpf_asm.proofs.CutRelations.{has_word, is_first, is_rest}
use Rattle.bpf_asm.proofs.LineRelations.{true_false, not_local_at}

-- what is read has the shape; what is refused lacks it, or is out of range
abbrev pub Judged : {A : Type 0} → Type 0 → Result A AsmFault → Type 0
Judged S (Ok a) = S
Judged S (Err f) = ((f ≡ faults.Operand) × ¬ S) ⊎ ((f ≡ faults.Range) × S)

pub judged_filled : {A B : Type 0} (S : Type 0) (f : A → B) (r : Result A AsmFault) → Judged S r → Judged S (filled f r)
judged_filled S f (Ok a) h = h
judged_filled S f (Err g) h = h

pub judged_by : {A S T : Type 0} (r : Result A AsmFault) → (S → T) → (T → S) → Judged S r → Judged T r
judged_by (Ok a) to from h = to h
judged_by (Err g) to from (inl h) = inl (h.0, λ t. h.1 (from t))
judged_by (Err g) to from (inr h) = inr (h.0, to h.1)

pub judged_both : {A B : Type 0} (S T : Type 0) (r : Result A AsmFault) (s : Result B AsmFault) → Judged S r → Judged T s → Judged (S × T) (both r s)
judged_both S T (Ok a) (Ok b) h k = (h, k)
judged_both S T (Ok a) (Err g) h (inl k) = inl (k.0, λ p. k.1 p.1)
judged_both S T (Ok a) (Err g) h (inr k) = inr (k.0, (h, k.1))
judged_both S T (Err f) (Ok b) (inl h) k = inl (h.0, λ p. h.1 p.0)
judged_both S T (Err f) (Ok b) (inr h) k = inr (h.0, (h.1, k))
judged_both S T (Err f) (Err g) (inl h) (inl k) = inl (rw (h.0, k.0) refl, λ p. h.1 p.0)
judged_both S T (Err f) (Err g) (inl h) (inr k) = inl (rw (h.0, k.0) refl, λ p. h.1 p.0)
judged_both S T (Err f) (Err g) (inr h) (inl k) = inl (rw (h.0, k.0) refl, λ p. k.1 p.1)
judged_both S T (Err f) (Err g) (inr h) (inr k) = inr (rw (h.0, k.0) refl, (h.1, k.1))

-- ---- numbers

in_range : {S : Type 0} (s : S) (n : ℕ) (b : Bool) → Judged S (cond b (Ok n) (Err faults.Range))
in_range s n true = s
in_range s n false = inr (refl, s)

natural_at : (most : ℕ) (text : List ℕ) (o : Option ℕ) → o ≡ natural text → Judged ((n : ℕ) × IsNatural text n) (natural_within most o)
natural_at most text None e = inl (refl, λ p. none-some p.0 (e ∙ is_natural text p.0 p.1))
natural_at most text (Some n) e = in_range (n, natural_is text n (sym e)) n (nat_le n most)

nonnegative : (S : Type 0) (r : Result ℕ AsmFault) → Judged S r → Judged S (as_nonnegative r)
nonnegative S (Ok n) h = h
nonnegative S (Err f) h = h

plus : (above : ℕ) (text : List ℕ) → Judged ((n : ℕ) × IsNatural text n) (plus_within above text)
unfolding plus_within
plus above text = nonnegative _ (natural_within above (natural text)) (natural_at above text (natural text) refl)

-- a number above zero
abbrev Positive : List ℕ → Type 0
Positive text = (k : ℕ) × IsNatural text (suc k)

zero_low : (n : ℕ) → nat_le 0 n ≡ true
zero_low n = grind (arith, nat_tests)

above_zero : (k : ℕ) → (suc k == 0) ≡ false
above_zero k = grind (arith, nat_tests)

zero_suc : (k : ℕ) → Some 0 ≡ Some (suc k) → ⊥
zero_suc k h = absurd cc

negative_in : {S : Type 0} (s : S) (k : ℕ) (b : Bool) → Judged S (as_negative (cond b (Ok (suc k)) (Err faults.Range)))
negative_in s k true = rw (above_zero k) s
negative_in s k false = inr (refl, s)

minus_at : (below : ℕ) (text : List ℕ) (o : Option ℕ) → o ≡ natural text → Judged (Positive text) (as_negative (natural_within below o))
minus_at below text None e = inl (refl, λ p. none-some (suc p.0) (e ∙ is_natural text (suc p.0) p.1))
minus_at below text (Some zero) e = rw (zero_low below) (inl (refl, λ p. zero_suc p.0 (e ∙ is_natural text (suc p.0) p.1)))
minus_at below text (Some (suc k)) e = negative_in (k, natural_is text (suc k) (sym e)) k (nat_le (suc k) below)

minus : (below : ℕ) (text : List ℕ) → Judged (Positive text) (minus_within below text)
unfolding minus_within
minus below text = minus_at below text (natural text) refl

-- a number after one byte
numbers_behind : (text : List ℕ) (k : ℕ) → (slice_index text 0 == 45) ≡ true → IsNatural (drop 1 text) (suc k) → AnyNumber text
numbers_behind text k e n = (negsuc k, record { number = drop 1 text; whole = behind 45 text (lit< tt) e; natural = n })

behind_number : (text : List ℕ) (z : ℤ) → (slice_index text 0 == 45) ≡ true → IsInteger text z → Positive (drop 1 text)
behind_number text (pos n) e h = absurd (true_false (sym e ∙ natural_first text n h 45 (lit< tt) (inl (lit< tt))))
behind_number text (negsuc k) e h = (k, subst (λ (t : List ℕ). IsNatural t (suc k)) (sym (ap (drop 1) h.whole)) h.natural)

plain_number : (text : List ℕ) (z : ℤ) → (slice_index text 0 == 45) ≡ false → IsInteger text z → (n : ℕ) × IsNatural text n
plain_number text (pos n) e h = (n, h)
plain_number text (negsuc k) e h = absurd (true_false (sym (ap (λ (t : List ℕ). slice_index t 0 == 45) h.whole) ∙ e))

plain_at : (below above : ℕ) (text : List ℕ) (b : Bool) → (slice_index text 0 == 45) ≡ b → Judged (AnyNumber text) (cond b (minus_within below (drop 1 text)) (plus_within above text))
plain_at below above text true e =
    judged_by (minus_within below (drop 1 text)) (λ p. numbers_behind text p.0 e p.1) (λ p. behind_number text p.0 e p.1) (minus below (drop 1 text))
plain_at below above text false e =
    judged_by (plus_within above text) (λ p. (pos p.0, p.1)) (λ p. plain_number text p.0 e p.1) (plus above text)

plain : (below above : ℕ) (text : List ℕ) → Judged (AnyNumber text) (plain_within below above text)
unfolding plain_within
plain below above text = plain_at below above text (slice_index text 0 == 45) refl

pub judged_immediate : (text : List ℕ) → Judged (AnyNumber text) (immediate_of text)
unfolding immediate_of
judged_immediate text = judged_filled _ value_of (plain_within 2147483648 2147483647 text) (plain 2147483648 2147483647 text)

pub judged_unsigned : (most : ℕ) (text : List ℕ) → Judged (AnyNumber text) (unsigned_of most text)
unfolding unsigned_of
judged_unsigned most text = judged_filled _ (λ (n : Number). n.magnitude) (plain_within 0 most text) (plain 0 most text)

-- ---- numbers with their sign

signed_behind : (text : List ℕ) (k : ℕ) → (slice_index text 0 == 45) ≡ true → IsNatural (drop 1 text) (suc k) → AnySigned text
signed_behind text k e n = (negsuc k, record { number = drop 1 text; whole = behind 45 text (lit< tt) e; natural = n })

behind_minus : (text : List ℕ) (z : ℤ) → (slice_index text 0 == 45) ≡ true → IsSigned text z → Positive (drop 1 text)
behind_minus text (pos n) e h = absurd (true_false (sym e ∙ ap (λ (t : List ℕ). slice_index t 0 == 45) h.whole))
behind_minus text (negsuc k) e h = (k, subst (λ (t : List ℕ). IsNatural t (suc k)) (sym (ap (drop 1) h.whole)) h.natural)

plus_behind : (text : List ℕ) (n : ℕ) → (slice_index text 0 == 43) ≡ true → IsNatural (drop 1 text) n → AnySigned text
plus_behind text n e h = (pos n, record { number = drop 1 text; whole = behind 43 text (lit< tt) e; natural = h })

behind_plus : (text : List ℕ) (z : ℤ) → (slice_index text 0 == 43) ≡ true → IsSigned text z → (n : ℕ) × IsNatural (drop 1 text) n
behind_plus text (pos n) e h = (n, subst (λ (t : List ℕ). IsNatural t n) (sym (ap (drop 1) h.whole)) h.natural)
behind_plus text (negsuc k) e h = absurd (true_false (sym e ∙ ap (λ (t : List ℕ). slice_index t 0 == 43) h.whole))

no_sign : (text : List ℕ) (z : ℤ) → (slice_index text 0 == 45) ≡ false → (slice_index text 0 == 43) ≡ false → ¬ IsSigned text z
no_sign text (pos n) e f h = true_false (sym (ap (λ (t : List ℕ). slice_index t 0 == 43) h.whole) ∙ f)
no_sign text (negsuc k) e f h = true_false (sym (ap (λ (t : List ℕ). slice_index t 0 == 45) h.whole) ∙ e)

signed_at : (below above : ℕ) (text : List ℕ) (a b : Bool) → (slice_index text 0 == 45) ≡ a → (slice_index text 0 == 43) ≡ b → Judged (AnySigned text) (cond a (minus_within below (drop 1 text)) (cond b (plus_within above (drop 1 text)) (Err faults.Operand)))
signed_at below above text true b e f =
    judged_by (minus_within below (drop 1 text)) (λ p. signed_behind text p.0 e p.1) (λ p. behind_minus text p.0 e p.1) (minus below (drop 1 text))
signed_at below above text false true e f =
    judged_by (plus_within above (drop 1 text)) (λ p. plus_behind text p.0 f p.1) (λ p. behind_plus text p.0 f p.1) (plus above (drop 1 text))
signed_at below above text false false e f = inl (refl, λ p. no_sign text p.0 e f p.1)

signed : (below above : ℕ) (text : List ℕ) → Judged (AnySigned text) (signed_within below above text)
unfolding signed_within
signed below above text = signed_at below above text (slice_index text 0 == 45) (slice_index text 0 == 43) refl refl

judged_offset : (text : List ℕ) → Judged (AnySigned text) (offset_of text)
unfolding offset_of
judged_offset text = judged_filled _ value_of (signed_within 32768 32767 text) (signed 32768 32767 text)

judged_distance : (text : List ℕ) → Judged (AnySigned text) (distance_of text)
unfolding distance_of
judged_distance text = judged_filled _ value_of (signed_within 2147483648 2147483647 text) (signed 2147483648 2147483647 text)

-- ---- registers and sources

register_first : (text : List ℕ) → AnyRegister text → (slice_index text 0 == 114) ≡ true
register_first text r = rw r.whole refl

digits_at : (text : List ℕ) → text ≡ 114 ∷ drop 1 text → (o : Option ℕ) → o ≡ decimal_number (drop 1 text) → Judged (AnyRegister text) (natural_within 10 o)
digits_at text whole None e = inl (refl, λ r. none-some r.value (e ∙ ap (λ (t : List ℕ). decimal_number (drop 1 t)) r.whole ∙ is_decimal r.number r.value r.decimal))
digits_at text whole (Some n) e =
    let any : AnyRegister text = record { number = drop 1 text; value = n; whole = whole; decimal = decimal_is (drop 1 text) n (sym e) } in
    in_range any n (nat_le n 10)

register_at : (text : List ℕ) (b : Bool) → (slice_index text 0 == 114) ≡ b → Judged (AnyRegister text) (cond b (natural_within 10 (decimal_number (drop 1 text))) (Err faults.Operand))
register_at text true e = digits_at text (behind 114 text (lit< tt) e) (decimal_number (drop 1 text)) refl
register_at text false e = inl (refl, λ r. true_false (sym (register_first text r) ∙ e))

pub judged_register : (text : List ℕ) → Judged (AnyRegister text) (register_of text)
unfolding register_of
judged_register text = register_at text (slice_index text 0 == 114) refl

number_first : (text : List ℕ) (z : ℤ) → IsInteger text z → (slice_index text 0 == 114) ≡ false
number_first text (pos n) h = natural_first text n h 114 (lit< tt) (inr (lit< tt))
number_first text (negsuc k) h = rw h.whole refl

of_register : (text : List ℕ) → (slice_index text 0 == 114) ≡ true → AnySource text → AnyRegister text
of_register text e (inl r) = r
of_register text e (inr n) = absurd (true_false (sym e ∙ number_first text n.0 n.1))

of_number : (text : List ℕ) → (slice_index text 0 == 114) ≡ false → AnySource text → AnyNumber text
of_number text e (inl r) = absurd (true_false (sym (register_first text r) ∙ e))
of_number text e (inr n) = n

source_at : (text : List ℕ) (b : Bool) → (slice_index text 0 == 114) ≡ b → Judged (AnySource text) (cond b (filled Register (register_of text)) (filled Immediate (immediate_of text)))
source_at text true e =
    judged_by (filled Register (register_of text)) (λ r. inl r) (of_register text e) (judged_filled _ Register (register_of text) (judged_register text))
source_at text false e =
    judged_by (filled Immediate (immediate_of text)) (λ n. inr n) (of_number text e) (judged_filled _ Immediate (immediate_of text) (judged_immediate text))

pub judged_source : (text : List ℕ) → Judged (AnySource text) (source_of text)
unfolding source_of
judged_source text = source_at text (slice_index text 0 == 114) refl

-- ---- places in memory

abbrev AnyOffset : List ℕ → Type 0
AnyOffset text = AnySigned text ⊎ (text ≡ [])

some_offset : (c : ℕ) (cs : List ℕ) → AnyOffset (c ∷ cs) → AnySigned (c ∷ cs)
some_offset c cs (inl s) = s
some_offset c cs (inr e) = absurd cc

judged_or_zero : (text : List ℕ) → Judged (AnyOffset text) (offset_or_zero text)
unfolding offset_or_zero
judged_or_zero [] = inr refl
judged_or_zero (c ∷ cs) =
    subst (λ (r : Result ℤ AsmFault). Judged (AnyOffset (c ∷ cs)) r) (sym (if_some c cs (Ok (pos 0)) (offset_of (c ∷ cs))))
    (judged_by (offset_of (c ∷ cs)) (λ s. inl s) (some_offset c cs) (judged_offset (c ∷ cs)))

register_free : (text : List ℕ) → AnyRegister text → Free is_sign text
register_free text r =
    let free : Free is_sign (114 ∷ r.number) = (refl, signs_free r.number (decimal_digits r.number r.value r.decimal)) in
    subst (λ (v : List ℕ). Free is_sign v) (sym r.whole) free

base_of : (base offset : List ℕ) → AnyRegister base → AnyOffset offset → before_first is_sign (base ++ offset) ≡ base
base_of base offset r (inl s) = before_signed base offset s.0 (register_free base r) s.1
base_of base offset r (inr e) = rw (e, append-nil base) (before_none is_sign base (register_free base r))

abbrev AreParts : List ℕ → List ℕ → Type 0
AreParts inner base = AnyRegister base × AnyOffset (drop (length base) inner)

parts_at : (inner base offset : List ℕ) → inner ≡ base ++ offset → AnyRegister base → AnyOffset offset → AreParts inner (before_first is_sign inner)
parts_at inner base offset whole r o =
    let first : before_first is_sign inner ≡ base = ap (before_first is_sign) whole ∙ base_of base offset r o in
    let rest : drop (length base) inner ≡ offset = ap (drop (length base)) whole ∙ drop_seam base offset in
    subst (λ (b : List ℕ). AreParts inner b) (sym first) (r, subst (λ (t : List ℕ). AnyOffset t) (sym rest) o)

place_parts : (text inner : List ℕ) → text ≡ 91 ∷ (inner ++ (93 ∷ [])) → AnyPlace text → AreParts inner (before_first is_sign inner)
place_parts text inner whole p =
    let all : 91 ∷ (inner ++ (93 ∷ [])) ≡ 91 ∷ ((p.base ++ p.offset) ++ (93 ∷ [])) = sym whole ∙ p.whole ∙ ap (λ (v : List ℕ). 91 ∷ v) (sym (append_assoc p.base p.offset (93 ∷ []))) in
    parts_at inner p.base p.offset (append_cancel_right inner (p.base ++ p.offset) (93 ∷ []) (ap (drop 1) all)) p.is_base p.is_offset

parts_place : (text inner : List ℕ) → text ≡ 91 ∷ (inner ++ (93 ∷ [])) → AreParts inner (before_first is_sign inner) → AnyPlace text
parts_place text inner whole p =
    let base = before_first is_sign inner in
    let offset = drop (length base) inner in
    let parts : inner ≡ base ++ offset = cut_after (position_or_len is_sign inner) inner in
    let all : text ≡ codes "[" ++ (base ++ (offset ++ codes "]")) =
    whole ∙ ap (λ (v : List ℕ). 91 ∷ (v ++ (93 ∷ []))) parts ∙ ap (λ (v : List ℕ). 91 ∷ v) (append_assoc base offset (93 ∷ []))
    in
    record { base = base; offset = offset; whole = all; is_base = p.0; is_offset = p.1 }

judged_within : (inner : List ℕ) → Judged (AreParts inner (before_first is_sign inner)) (place_within inner)
unfolding place_within
judged_within inner =
    let base = before_first is_sign inner in
    judged_both _ _ (register_of base) (offset_or_zero (drop (length base) inner)) (judged_register base) (judged_or_zero (drop (length base) inner))

last_bracket : (inner : List ℕ) → (slice_index (91 ∷ (inner ++ (93 ∷ []))) 0 == 91 && slice_index (91 ∷ (inner ++ (93 ∷ []))) (length (91 ∷ (inner ++ (93 ∷ []))) - 1) == 93) ≡ true
last_bracket inner =
    let whole : length (91 ∷ (inner ++ (93 ∷ []))) ≡ length inner + 2 = omega (arith, length-append inner (93 ∷ [])) in
    let last : length inner + 2 - 1 ≡ suc (length inner) = omega arith in
    rw (whole, last, last_byte inner 93) refl

memory_at : (text : List ℕ) (b : Bool) → (slice_index text 0 == 91 && slice_index text (length text - 1) == 93) ≡ b → Judged (AnyPlace text) (cond b (place_within (take (length text - 2) (drop 1 text))) (Err faults.Operand))
memory_at text true e =
    let inner = take (length text - 2) (drop 1 text) in
    let whole = bracketed text (and_left (slice_index text 0 == 91) (slice_index text (length text - 1) == 93) e) (and_right (slice_index text 0 == 91) (slice_index text (length text - 1) == 93) e) in
    judged_by (place_within inner) (parts_place text inner whole) (place_parts text inner whole) (judged_within inner)
memory_at text false e = inl (refl, λ p. true_false (sym (closed p) ∙ e))
  where
    closed : AnyPlace text → (slice_index text 0 == 91 && slice_index text (length text - 1) == 93) ≡ true
    closed p =
        let whole : text ≡ 91 ∷ ((p.base ++ p.offset) ++ (93 ∷ [])) = p.whole ∙ ap (λ (v : List ℕ). 91 ∷ v) (sym (append_assoc p.base p.offset (93 ∷ []))) in
        ap (λ (t : List ℕ). slice_index t 0 == 91 && slice_index t (length t - 1) == 93) whole ∙ last_bracket (p.base ++ p.offset)

pub judged_memory : (text : List ℕ) → Judged (AnyPlace text) (memory_of text)
unfolding memory_of
judged_memory text = memory_at text (slice_index text 0 == 91 && slice_index text (length text - 1) == 93) refl

-- ---- targets and calls

no_name : (text : List ℕ) → is_label_name text ≡ false → AnyTarget text → AnySigned text
no_name text e (inl n) = absurd (true_false (sym n ∙ e))
no_name text e (inr s) = s

near_at : (text : List ℕ) (b : Bool) → is_label_name text ≡ b → Judged (AnyTarget text) (cond b (Ok (Label text)) (filled Slots (offset_of text)))
near_at text true e = inl e
near_at text false e = judged_by (filled Slots (offset_of text)) (λ s. inr s) (no_name text e) (judged_filled _ Slots (offset_of text) (judged_offset text))

pub judged_near : (text : List ℕ) → Judged (AnyTarget text) (near_target_of text)
unfolding near_target_of
judged_near text = near_at text (is_label_name text) refl

far_at : (text : List ℕ) (b : Bool) → is_label_name text ≡ b → Judged (AnyTarget text) (cond b (Ok (Label text)) (filled Slots (distance_of text)))
far_at text true e = inl e
far_at text false e = judged_by (filled Slots (distance_of text)) (λ s. inr s) (no_name text e) (judged_filled _ Slots (distance_of text) (judged_distance text))

pub judged_far : (text : List ℕ) → Judged (AnyTarget text) (far_target_of text)
unfolding far_target_of
judged_far text = far_at text (is_label_name text) refl

-- no number begins with `local`
no_local : (text rest : List ℕ) (z : ℤ) → IsInteger text z → ¬ HasWord text (codes "local") rest
no_local text rest (pos n) h w = not_local_at text rest n h w
no_local text rest (negsuc k) h w =
    true_false (sym (ap (λ (t : List ℕ). slice_index t 0 == 108) w.whole) ∙ ap (λ (t : List ℕ). slice_index t 0 == 108) h.whole)

call_at : (text : List ℕ) (b : Bool) → b ≡ bytes_eq (first_word text) (codes "local") → Judged (AnyCall text) (cond b (filled drafts.CallLocal (far_target_of (after_word text))) (filled (λ helper. drafts.Plain (insns.Call helper)) (unsigned_of 4294967295 text)))
call_at text true e =
    let word : first_word text ≡ codes "local" = (bytes_eq-Decides (first_word text) (codes "local")).0 (sym e) in
    let has : HasWord text (codes "local") (after_word text) = subst (λ (w : List ℕ). HasWord text w (after_word text)) word (has_word text) in
    judged_by (filled drafts.CallLocal (far_target_of (after_word text))) (λ t. inl (record { rest = after_word text; word = has; is_target = t })) (from has)
    (judged_filled _ drafts.CallLocal (far_target_of (after_word text)) (judged_far (after_word text)))
  where
    from : HasWord text (codes "local") (after_word text) → AnyCall text → AnyTarget (after_word text)
    from has (inl l) = subst (λ (t : List ℕ). AnyTarget t) (sym (is_rest text (codes "local") l.rest l.word)) l.is_target
    from has (inr n) = absurd (no_local text (after_word text) n.0 n.1 has)
call_at text false e =
    judged_by (filled (λ helper. drafts.Plain (insns.Call helper)) (unsigned_of 4294967295 text)) (λ n. inr n) from
    (judged_filled _ (λ helper. drafts.Plain (insns.Call helper)) (unsigned_of 4294967295 text) (judged_unsigned 4294967295 text))
  where
    from : AnyCall text → AnyNumber text
    from (inl l) = absurd (true_false (sym ((bytes_eq-Decides (first_word text) (codes "local")).1 (is_first text (codes "local") l.rest l.word)) ∙ sym e))
    from (inr n) = n

pub judged_call : (text : List ℕ) → Judged (AnyCall text) (call_of text)
unfolding call_of
judged_call text = call_at text (bytes_eq (first_word text) (codes "local")) refl
