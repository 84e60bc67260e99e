-- The texts of operands are read as those operands.
use Rattle.std.proofs.Common.{◌≡◌, ℕ, ℤ, pos, negsuc, ◌==◌, ◌+◌, ◌-◌, ◌≤◌, inr, suc, Bool, true, false, List, [], ◌∷◌, ◌++◌, length, cond, Ok, refl, ap, ◌∙◌, arith, get_or, lit<, FitsSigned, length-append}
use Rattle.std.specs.List.{list_all}
use Rattle.std.specs.Int.{w16, w32}
use Rattle.std.specs.Fmt.{decimal}
use Rattle.std.specs.Str.Parse.{AllDigits}
use Rattle.std.proofs.Math.Seq.{take-append_seam}
use Rattle.std.proofs.lemmas.Fmt.{decimal_is_IsNumeral}
use Rattle.std.proofs.lemmas.Bool.Decides.{nat_tests}
use Rattle.bpf_decode.specs.declared.insn.Operand.{Operand}
use Rattle.bpf_decode.specs.declared.insn.Operand.TheVariants.{Immediate, Register}
use Rattle.bpf_decode.specs.Instruction.{OperandFits}
use Rattle.asm_lines.specs.declared.target.Target.TheVariants.{Slots}
use Rattle.asm_lines.specs.Texts.{is_label_name}
use Rattle.asm_lines.specs.Canonical.{register_text, source_text, offset_text, memory_text}
use Rattle.asm_lines.specs.Operands.{filled, offset_of, source_of, is_sign, offset_or_zero, place_within, memory_of, near_target_of, far_target_of}
use Rattle.bpf_asm.proofs.PlainBytes.{is_plain, Free, before_at, drop_seam, all_append}
use Rattle.bpf_asm.proofs.NumberTexts.{digit_range, decimal_not, decimal_plain, immediate_reads, offset_reads, distance_reads, register_reads, register_plain, signed_plain}

pub source_reads : (s : Operand) → OperandFits s → source_of (source_text s) ≡ Ok s
unfolding source_of
source_reads (Register n) h = ap (filled Register) (register_reads n h)
source_reads (Immediate (pos n)) h =
    rw (decimal_not n (omega arith) 0 114 (lit< tt) (inr (lit< tt))) (ap (filled Immediate) (immediate_reads (pos n) h))
source_reads (Immediate (negsuc n)) h = ap (filled Immediate) (immediate_reads (negsuc n) h)

pub source_plain : (s : Operand) → OperandFits s → list_all is_plain (source_text s) ≡ true
source_plain (Register n) h = register_plain n h
source_plain (Immediate z) h = signed_plain z h

pub near_plain : (z : ℤ) → FitsSigned w16 z → list_all is_plain (offset_text z) ≡ true
near_plain (pos n) h = decimal_plain n (omega arith)
near_plain (negsuc n) h = decimal_plain (suc n) (omega arith)

pub signs_free : (ds : List ℕ) → AllDigits 10 ds → Free is_sign ds
signs_free [] a = tt
signs_free (c ∷ cs) a =
    let r = digit_range c a.0 in
    let other : is_sign c ≡ false = grind (arith, nat_tests) in
    (other, signs_free cs a.1)

register_free : (n : ℕ) → n ≤ 10 → Free is_sign (register_text n)
register_free n h = (refl, signs_free (decimal n) (decimal_is_IsNumeral n (omega arith)).0.1)

pub length_some : (x : ℕ) (xs : List ℕ) → (length (x ∷ xs) == 0) ≡ false
length_some x xs = grind (arith, nat_tests)

pub if_some : {A : Type 0} (x : ℕ) (xs : List ℕ) (a b : A) → cond (length (x ∷ xs) == 0) a b ≡ b
if_some x xs a b =
    let other : (length (x ∷ xs) == 0) ≡ false = grind (arith, nat_tests) in
    rw other refl

place_reads_at : (base sign : ℕ) (ds : List ℕ) (z : ℤ) → base ≤ 10 → is_sign sign ≡ true → offset_of (sign ∷ ds) ≡ Ok z → place_within (register_text base ++ (sign ∷ ds)) ≡ Ok (base, z)
unfolding place_within offset_or_zero
place_reads_at base sign ds z h s o =
    let front = before_at is_sign (register_text base) sign ds (register_free base h) s in
    rw (front, drop_seam (register_text base) (sign ∷ ds), register_reads base h, if_some sign ds (Ok (pos 0)) (offset_of (sign ∷ ds)), o) refl

place_reads : (base : ℕ) (z : ℤ) → base ≤ 10 → FitsSigned w16 z → place_within (register_text base ++ offset_text z) ≡ Ok (base, z)
place_reads base (pos n) h f = place_reads_at base 43 (decimal n) (pos n) h refl (offset_reads (pos n) f)
place_reads base (negsuc n) h f = place_reads_at base 45 (decimal (suc n)) (negsuc n) h refl (offset_reads (negsuc n) f)

pub last_byte : (xs : List ℕ) (c : ℕ) → get_or (xs ++ (c ∷ [])) (length xs) 0 ≡ c
last_byte [] c = refl
last_byte (x ∷ xs) c = last_byte xs c

pub in_brackets : (inner : List ℕ) → memory_of (91 ∷ (inner ++ (93 ∷ []))) ≡ place_within inner
unfolding memory_of
in_brackets inner =
    let whole : length (91 ∷ (inner ++ (93 ∷ []))) ≡ length inner + 2 = omega (arith, length-append inner (93 ∷ [])) in
    let last : length inner + 2 - 1 ≡ suc (length inner) = omega arith in
    let all : length inner + 2 - 2 ≡ length inner = omega arith in
    rw (whole, last, all, last_byte inner 93, take-append_seam inner (93 ∷ [])) refl

pub memory_reads : (base : ℕ) (z : ℤ) → base ≤ 10 → FitsSigned w16 z → memory_of (memory_text base z) ≡ Ok (base, z)
memory_reads base z h f = in_brackets (register_text base ++ offset_text z) ∙ place_reads base z h f

pub memory_plain : (base : ℕ) (z : ℤ) → base ≤ 10 → FitsSigned w16 z → list_all is_plain (memory_text base z) ≡ true
memory_plain base z h f =
    all_append is_plain (register_text base ++ offset_text z) (93 ∷ []) (all_append is_plain (register_text base) (offset_text z) (register_plain base h) (near_plain z f)) refl

-- a distance is no label's name
pub if_same : (b : Bool) → cond b false false ≡ false
if_same true = refl
if_same false = refl

no_label : (z : ℤ) → is_label_name (offset_text z) ≡ false
unfolding is_label_name
no_label (pos n) = if_same (length (offset_text (pos n)) == 0)
no_label (negsuc n) = if_same (length (offset_text (negsuc n)) == 0)

pub near_reads : (z : ℤ) → FitsSigned w16 z → near_target_of (offset_text z) ≡ Ok (Slots z)
unfolding near_target_of
near_reads z h = rw (no_label z, offset_reads z h) refl

pub far_reads : (z : ℤ) → FitsSigned w32 z → far_target_of (offset_text z) ≡ Ok (Slots z)
unfolding far_target_of
far_reads z h = rw (no_label z, distance_reads z h) refl
