-- Reading one instruction after the other, as a loop does.
use Rattle.std.proofs.Common.{◌≡◌, ℕ, zero, suc, ◌+◌, ◌-◌, ◌*◌, ◌/◌, ◌%◌, ◌<◌, ◌≤◌, Bool, cond, eqb, List, [], ◌∷◌, ◌++◌, length, drop, Result, Ok, Err, refl, sym, ap, subst, ◌∙◌, append_assoc, arith, length-drop}
use Rattle.std.proofs.lemmas.List.{append-nil, nil_from_length, drop-drop, length_push}
use Rattle.std.proofs.lemmas.Bool.{ne_eqb}
use Rattle.bpf_decode.specs.declared.decode_error.DecodeError.{DecodeError}
use Rattle.bpf_decode.specs.declared.decode_error.DecodeError.TheVariants as errors
use Rattle.bpf_decode.specs.declared.insn.Insn.{Insn}
use Rattle.bpf_decode.specs.Instruction.{slot_count}
use Rattle.bpf_decode.specs.Reading.{◌>>=◌, width_of, insn_at, insns_at, code_of, count_of}
use Rattle.bpf_decode.proofs.Bytes.{IsBytes, IsBytes-drop}
use Rattle.bpf_decode.proofs.Insns.{some_slot, fits_in}

-- what was read before, and what is still read
abbrev pub with_front : List Insn → Result (List Insn) DecodeError → Result (List Insn) DecodeError
with_front front read = read >>= λ is. Ok (front ++ is)

-- the instructions so far and the slot after them
pub record Progress (bytes : List ℕ) (front : List Insn) (slot : ℕ) : Type 0 where
  pub within : 8 * slot ≤ length bytes
  pub few : length front ≤ slot
  pub rest : with_front front (insns_at (length bytes / 8 - length front) slot (drop (8 * slot) bytes)) ≡ insns_at (length bytes / 8) 0 bytes

regroup : (front : List Insn) (i : Insn) (read : Result (List Insn) DecodeError) → with_front front (read >>= λ is. Ok (i ∷ is)) ≡ with_front (front ++ i ∷ []) read
regroup front i (Ok is) = ap (λ (xs : List Insn). Ok xs) (sym (append_assoc front (i ∷ []) is))
regroup front i (Err e) = refl

-- one more instruction from n
some_more : (n slot : ℕ) (bytes : List ℕ) → 0 < length bytes → insns_at (suc n) slot bytes ≡ (insn_at slot bytes >>= λ i. insns_at n (slot + slot_count i) (drop (8 * slot_count i) bytes) >>= λ is. Ok (i ∷ is))
unfolding insns_at
some_more n slot bytes long =
    ap (λ (b : Bool). cond b (Ok []) (insn_at slot bytes >>= λ i. insns_at n (slot + slot_count i) (drop (8 * slot_count i) bytes) >>= λ is. Ok (i ∷ is))) (ne_eqb (length bytes) 0 (λ e. omega arith))

left_over : (bytes : List ℕ) (slot : ℕ) → slot < length bytes / 8 → 0 < length (drop (8 * slot) bytes)
left_over bytes slot lt = omega (arith, length-drop (8 * slot) bytes)

pub goes_on : (bytes : List ℕ) (front : List Insn) (slot : ℕ) (i : Insn) → IsBytes bytes → slot < length bytes / 8 → insn_at slot (drop (8 * slot) bytes) ≡ Ok i → Progress bytes front slot → Progress bytes (front ++ i ∷ []) (slot + slot_count i)
goes_on bytes front slot i fits lt h p =
    let here = drop (8 * slot) bytes in
    let inside : 8 * slot_count i ≤ length here = fits_in slot here i (IsBytes-drop (8 * slot) bytes fits) h in
    let n = length bytes / 8 - length (front ++ i ∷ []) in
    let one = some_slot i in
    let more : length bytes / 8 - length front ≡ suc n = omega (arith, length_push front i, p.few) in
    let e1 : insns_at (suc n) slot here ≡ (insns_at n (slot + slot_count i) (drop (8 * slot_count i) here) >>= λ is. Ok (i ∷ is)) =
    some_more n slot here (left_over bytes slot lt) ∙ ap (λ (r : Result Insn DecodeError). r >>= λ j. insns_at n (slot + slot_count j) (drop (8 * slot_count j) here) >>= λ is. Ok (j ∷ is)) h in
    let place : drop (8 * slot_count i) here ≡ drop (8 * (slot + slot_count i)) bytes = drop-drop (8 * slot_count i) (8 * slot) bytes ∙ ap (λ (k : ℕ). drop k bytes) (omega arith) in
    let e2 : with_front front (insns_at (length bytes / 8 - length front) slot here) ≡ with_front (front ++ i ∷ []) (insns_at n (slot + slot_count i) (drop (8 * (slot + slot_count i)) bytes)) =
    ap (λ (k : ℕ). with_front front (insns_at k slot here)) more ∙ ap (with_front front) e1 ∙ regroup front i (insns_at n (slot + slot_count i) (drop (8 * slot_count i) here))
    ∙ ap (λ (xs : List ℕ). with_front (front ++ i ∷ []) (insns_at n (slot + slot_count i) xs)) place in
    record {
      within = omega (arith, length-drop (8 * slot) bytes, p.within);
      few = omega (arith, length_push front i, p.few);
      rest = sym e2 ∙ p.rest;
    }

pub ends : (bytes : List ℕ) (front : List Insn) (slot : ℕ) (e : DecodeError) → slot < length bytes / 8 → insn_at slot (drop (8 * slot) bytes) ≡ Err e → Progress bytes front slot → insns_at (length bytes / 8) 0 bytes ≡ Err e
ends bytes front slot e lt h p =
    let here = drop (8 * slot) bytes in
    let n = length bytes / 8 - length front - 1 in
    let more : length bytes / 8 - length front ≡ suc n = omega (arith, p.few) in
    let e1 : insns_at (suc n) slot here ≡ Err e = some_more n slot here (left_over bytes slot lt) ∙ ap (λ (r : Result Insn DecodeError). r >>= λ j. insns_at n (slot + slot_count j) (drop (8 * slot_count j) here) >>= λ is. Ok (j ∷ is)) h in
    sym p.rest ∙ ap (λ (k : ℕ). with_front front (insns_at k slot here)) more ∙ ap (with_front front) e1

none_left : (n slot : ℕ) → insns_at n slot [] ≡ Ok []
unfolding insns_at
none_left zero slot = refl
none_left (suc n) slot = refl

whole_code : (bytes : List ℕ) → length bytes % 8 ≡ 0 → code_of bytes ≡ insns_at (length bytes / 8) 0 bytes
unfolding code_of
whole_code bytes whole = ap (λ (k : ℕ). cond (eqb k 0) (insns_at (length bytes / 8) 0 bytes) (Err errors.Truncated)) whole

pub cut_code : (bytes : List ℕ) → (length bytes % 8 ≡ 0 → ⊥) → code_of bytes ≡ Err errors.Truncated
unfolding code_of
cut_code bytes cut = ap (λ (b : Bool). cond b (insns_at (length bytes / 8) 0 bytes) (Err errors.Truncated)) (ne_eqb (length bytes % 8) 0 cut)

pub is_refused : (bytes : List ℕ) (front : List Insn) (slot : ℕ) (e : DecodeError) → length bytes % 8 ≡ 0 → slot < length bytes / 8 → insn_at slot (drop (8 * slot) bytes) ≡ Err e → Progress bytes front slot → code_of bytes ≡ Err e
is_refused bytes front slot e whole lt h p = whole_code bytes whole ∙ ends bytes front slot e lt h p

pub is_done : (bytes : List ℕ) (front : List Insn) (slot : ℕ) → length bytes % 8 ≡ 0 → length bytes / 8 ≤ slot → Progress bytes front slot → code_of bytes ≡ Ok front
is_done bytes front slot whole le p =
    let nothing : drop (8 * slot) bytes ≡ [] = nil_from_length (drop (8 * slot) bytes) (omega (arith, length-drop (8 * slot) bytes)) in
    let e : with_front front (insns_at (length bytes / 8 - length front) slot (drop (8 * slot) bytes)) ≡ Ok front =
    ap (λ (xs : List ℕ). with_front front (insns_at (length bytes / 8 - length front) slot xs)) nothing ∙ ap (with_front front) (none_left (length bytes / 8 - length front) slot) ∙ ap (λ (xs : List Insn). Ok xs) (append-nil front) in
    whole_code bytes whole ∙ sym p.rest ∙ e

-- ---- counting

pub count_refused : (bytes : List ℕ) (e : DecodeError) → code_of bytes ≡ Err e → Err e ≡ count_of bytes
count_refused bytes e h = sym (ap (λ (r : Result (List Insn) DecodeError). r >>= λ is. Ok (length is)) h)

width_insn : (r : Result Insn DecodeError) (n : ℕ) → Ok n ≡ width_of r → (i : Insn) × (r ≡ Ok i) × (n ≡ slot_count i)
width_insn (Ok i) n e = (i, refl, cc)
width_insn (Err d) n e = absurd cc

width_refused : (r : Result Insn DecodeError) (e : DecodeError) → Err e ≡ width_of r → r ≡ Err e
width_refused (Ok i) e h = absurd cc
width_refused (Err d) e h = cc

-- as many instructions so far
abbrev pub Counts : List ℕ → ℕ → ℕ → Type 0
Counts bytes count slot = (front : List Insn) × (count ≡ length front) × Progress bytes front slot

pub count_goes_on : (bytes here : List ℕ) (count slot n : ℕ) → here ≡ drop (8 * slot) bytes → IsBytes bytes → slot < length bytes / 8 → Ok n ≡ width_of (insn_at slot here) → Counts bytes count slot → Counts bytes (count + 1) (slot + n)
count_goes_on bytes here count slot n there fits lt h k =
    let w = width_insn (insn_at slot here) n h in
    let i = w.0 in
    let p = goes_on bytes k.0 slot i fits lt (ap (insn_at slot) (sym there) ∙ w.1) k.2 in
    (k.0 ++ i ∷ [], omega (arith, k.1, length_push k.0 i), subst (λ (m : ℕ). Progress bytes (k.0 ++ i ∷ []) (slot + m)) (sym w.2) p)

pub count_ends : (bytes here : List ℕ) (count slot : ℕ) (e : DecodeError) → here ≡ drop (8 * slot) bytes → length bytes % 8 ≡ 0 → slot < length bytes / 8 → Err e ≡ width_of (insn_at slot here) → Counts bytes count slot → Err e ≡ count_of bytes
count_ends bytes here count slot e there whole lt h k =
    count_refused bytes e (is_refused bytes k.0 slot e whole lt (ap (insn_at slot) (sym there) ∙ width_refused (insn_at slot here) e h) k.2)

pub count_done : (bytes : List ℕ) (count slot : ℕ) → length bytes % 8 ≡ 0 → length bytes / 8 ≤ slot → Counts bytes count slot → Ok count ≡ count_of bytes
count_done bytes count slot whole le k =
    ap (λ (n : ℕ). Ok n) k.1 ∙ sym (ap (λ (r : Result (List Insn) DecodeError). r >>= λ is. Ok (length is)) (is_done bytes k.0 slot whole le k.2))
