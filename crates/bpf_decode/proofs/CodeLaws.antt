-- The two laws of code: what is read is spelled so, and what is spelled so is read.
use Rattle.std.proofs.Common.{◌≡◌, ℕ, zero, suc, ◌+◌, ◌*◌, ◌/◌, ◌%◌, ◌≤◌, Bool, true, false, cond, eqb, List, [], ◌∷◌, ◌++◌, length, drop, Result, Ok, Err, refl, sym, ap, subst, ◌∙◌, append_assoc, arith, length-append, length-drop}
use Rattle.std.specs.Prelude.{IfOk}
use Rattle.std.specs.Global.{Vec}
use Rattle.std.proofs.lemmas.Bool.{eqb-true, ne_eqb}
use Rattle.std.proofs.lemmas.List.{append-nil, nil_from_length, drop_at}
use Rattle.bpf_decode.specs.declared.decode_error.DecodeError.{DecodeError}
use Rattle.bpf_decode.specs.declared.decode_error.DecodeError.TheVariants as errors
use Rattle.bpf_decode.specs.declared.insn.Insn.{Insn}
use Rattle.bpf_decode.specs.declared.insn.Insn.TheVariants as insns
use Rattle.bpf_decode.specs.Instruction.{Fits, AllFit, bytes_of, spelling, slot_count, slot_total, IsCode}
use Rattle.bpf_decode.specs.Reading.{◌>>=◌, Gives, insn_at, insns_at, code_of, count_of}
use Rattle.bpf_decode.proofs.Bytes.{IsBytes, IsBytes-drop, bind_ok}
use Rattle.bpf_decode.proofs.Spelled.{insn_again}
use Rattle.bpf_decode.proofs.Insns.{some_slot, length-bytes_of, insn_takes}

-- ---- what is spelled is read

pub length-spelling : (is : List Insn) → length (spelling is) ≡ 8 * slot_total is
length-spelling [] = refl
length-spelling (i ∷ is) = length-append (bytes_of i) (spelling is) ∙ omega (arith, length-bytes_of i, length-spelling is)

insns_again : (n slot : ℕ) (is : List Insn) → slot_total is ≤ n → AllFit is → insns_at n slot (spelling is) ≡ Ok is
unfolding insns_at
insns_again zero slot [] le fit = refl
insns_again (suc n) slot [] le fit = refl
insns_again zero slot (i ∷ is) le fit = absurd (omega (arith, some_slot i))
insns_again (suc n) slot (i ∷ is) le fit =
    let here = bytes_of i ++ spelling is in
    let long : length here ≡ 0 → ⊥ = λ e. omega (arith, length-append (bytes_of i) (spelling is), length-bytes_of i, some_slot i) in
    let behind : drop (8 * slot_count i) here ≡ spelling is = drop_at (bytes_of i) (spelling is) (8 * slot_count i) (length-bytes_of i) in
    ap (λ (b : Bool). cond b (Ok []) (insn_at slot here >>= λ j. insns_at n (slot + slot_count j) (drop (8 * slot_count j) here) >>= λ js. Ok (j ∷ js))) (ne_eqb (length here) 0 long)
    ∙ ap (λ (r : Result Insn DecodeError). r >>= λ j. insns_at n (slot + slot_count j) (drop (8 * slot_count j) here) >>= λ js. Ok (j ∷ js)) (insn_again slot i (spelling is) fit.0)
    ∙ ap (λ (xs : List ℕ). insns_at n (slot + slot_count i) xs >>= λ js. Ok (i ∷ js)) behind
    ∙ ap (λ (r : Result (List Insn) DecodeError). r >>= λ js. Ok (i ∷ js)) (insns_again n (slot + slot_count i) is (omega (arith, some_slot i)) fit.1)

pub code_again : (is : List Insn) → AllFit is → code_of (spelling is) ≡ Ok is
unfolding code_of
code_again is fit =
    let len = length-spelling is in
    let whole : length (spelling is) % 8 ≡ 0 = omega (arith, len) in
    let few : slot_total is ≤ length (spelling is) / 8 = omega (arith, len) in
    ap (λ (k : ℕ). cond (eqb k 0) (insns_at (length (spelling is) / 8) 0 (spelling is)) (Err errors.Truncated)) whole
    ∙ insns_again (length (spelling is) / 8) 0 is few fit

-- ---- what is read is spelled

abbrev pub read_code : List Insn → Result (List Insn) DecodeError
read_code is = Ok is

pub ok_code : (is js : List Insn) → read_code is ≡ read_code js → is ≡ js
ok_code is js e = cc

-- the instruction at the front, with those after it
abbrev front_read : ℕ → ℕ → List ℕ → Result Insn DecodeError → Result (List Insn) DecodeError
front_read n slot bytes read = read >>= λ i. insns_at n (slot + slot_count i) (drop (8 * slot_count i) bytes) >>= λ js. Ok (i ∷ js)

one_takes : (n slot : ℕ) (bytes : List ℕ) (is : List Insn) → IsBytes bytes → length bytes ≤ 8 * suc n
    → ((s : ℕ) (bs : List ℕ) (js : List Insn) → IsBytes bs → length bs ≤ 8 * n → insns_at n s bs ≡ Ok js → IsCode bs js)
    → (b : Bool) → eqb (length bytes) 0 ≡ b → cond b (Ok []) (front_read n slot bytes (insn_at slot bytes)) ≡ Ok is → IsCode bytes is
one_takes n slot bytes is fits le again true t h =
    let nil = nil_from_length bytes (eqb-true (length bytes) 0 t) in
    subst (λ (js : List Insn). IsCode bytes js) (ok_code [] is h) (record { fit = tt; spelled = nil })
one_takes n slot bytes is fits le again false t h =
    let a = bind_ok (insn_at slot bytes) (λ i. insns_at n (slot + slot_count i) (drop (8 * slot_count i) bytes) >>= λ js. Ok (i ∷ js)) is h in
    let i = a.0 in
    let b = bind_ok (insns_at n (slot + slot_count i) (drop (8 * slot_count i) bytes)) (λ js. Ok (i ∷ js)) is a.2 in
    let first = insn_takes slot bytes i fits a.1 in
    let shorter : length (drop (8 * slot_count i) bytes) ≤ 8 * n = omega (arith, length-drop (8 * slot_count i) bytes, some_slot i) in
    let others = again (slot + slot_count i) (drop (8 * slot_count i) bytes) b.0 (IsBytes-drop (8 * slot_count i) bytes fits) shorter b.1 in
    subst (λ (js : List Insn). IsCode bytes js) (ok_code (i ∷ b.0) is b.2) (record {
      fit = (first.fit, others.fit);
      spelled = first.parts ∙ ap (λ (x : List ℕ). bytes_of i ++ x) others.spelled;
    })

insns_take : (n slot : ℕ) (bytes : List ℕ) (is : List Insn) → IsBytes bytes → length bytes ≤ 8 * n → insns_at n slot bytes ≡ Ok is → IsCode bytes is
unfolding insns_at
insns_take zero slot bytes is fits le e =
    let nil = nil_from_length bytes (omega arith) in
    subst (λ (js : List Insn). IsCode bytes js) (ok_code [] is e) (record { fit = tt; spelled = nil })
insns_take (suc n) slot bytes is fits le e = one_takes n slot bytes is fits le (insns_take n) (eqb (length bytes) 0) refl e

cut_or_whole : (b : Bool) (read : Result (List Insn) DecodeError) (is : List Insn) → cond b read (Err errors.Truncated) ≡ Ok is → (b ≡ true) × (read ≡ Ok is)
cut_or_whole true read is e = (refl, e)
cut_or_whole false read is e = absurd cc

pub code_takes : (bytes : List ℕ) (is : List Insn) → IsBytes bytes → code_of bytes ≡ Ok is → IsCode bytes is
unfolding code_of
code_takes bytes is fits e =
    let whole = cut_or_whole (eqb (length bytes % 8) 0) (insns_at (length bytes / 8) 0 bytes) is e in
    let none_over : length bytes % 8 ≡ 0 = eqb-true (length bytes % 8) 0 whole.0 in
    insns_take (length bytes / 8) 0 bytes is fits (omega arith) whole.1

-- ---- for the callers

pub read_found : (bytes : List ℕ) (r : Result (Vec Insn) DecodeError) → IsBytes bytes → Gives (λ v. v.items) r (code_of bytes) → IfOk r (λ v. IsCode bytes v.items)
read_found bytes (Ok v) fits given = code_takes bytes v.items fits given
read_found bytes (Err e) fits given = tt

pub code_is : (bytes : List ℕ) (is : List Insn) → IsCode bytes is → code_of bytes ≡ Ok is
code_is bytes is code = ap code_of code.spelled ∙ code_again is code.fit

pub read_only : (bytes : List ℕ) (is : List Insn) (r : Result (Vec Insn) DecodeError) → IsCode bytes is → Gives (λ v. v.items) r (code_of bytes) → Gives (λ v. v.items) r (Ok is)
read_only bytes is r code given = subst (λ (x : Result (List Insn) DecodeError). Gives (λ (v : Vec Insn). v.items) r x) (code_is bytes is code) given

pub count_only : (bytes : List ℕ) (is : List Insn) → IsCode bytes is → count_of bytes ≡ Ok (length is)
count_only bytes is code = ap (λ (r : Result (List Insn) DecodeError). r >>= λ is. Ok (length is)) (code_is bytes is code)

pub count_found : (bytes : List ℕ) (r : Result ℕ DecodeError) → IsBytes bytes → r ≡ count_of bytes → IfOk r (λ n. (is : List Insn) × IsCode bytes is × (n ≡ length is))
count_found bytes (Err e) fits given = tt
count_found bytes (Ok n) fits given =
    let a = bind_ok (code_of bytes) (λ is. Ok (length is)) n (sym given) in
    let same : n ≡ length a.0 = cc in
    (a.0, code_takes bytes a.0 fits a.1, same)

-- ---- writing

pub spelling-push : (is : List Insn) (i : Insn) → spelling (is ++ i ∷ []) ≡ spelling is ++ bytes_of i
spelling-push [] i = append-nil (bytes_of i)
spelling-push (j ∷ is) i = ap (λ (x : List ℕ). bytes_of j ++ x) (spelling-push is i) ∙ sym (append_assoc (bytes_of j) (spelling is) (bytes_of i))

pub AllFit-push : (is : List Insn) (i : Insn) → AllFit is → Fits i → AllFit (is ++ i ∷ [])
AllFit-push [] i fit one = (one, tt)
AllFit-push (j ∷ is) i fit one = (fit.0, AllFit-push is i fit.1 one)

pub slot_total-push : (is : List Insn) (i : Insn) → slot_total (is ++ i ∷ []) ≡ slot_total is + slot_count i
slot_total-push [] i = omega arith
slot_total-push (j ∷ is) i = omega (arith, slot_total-push is i)

pub few_slots : (i : Insn) → slot_count i ≤ 2
few_slots (insns.Alu bits operation dst source) = omega arith
few_slots (insns.Neg bits dst) = omega arith
few_slots (insns.Mov bits dst source) = omega arith
few_slots (insns.MovSigned extension dst src) = omega arith
few_slots (insns.End order width dst) = omega arith
few_slots (insns.LoadWide dst value) = omega arith
few_slots (insns.Load width dst base offset) = omega arith
few_slots (insns.LoadSigned width dst base offset) = omega arith
few_slots (insns.Store width base offset source) = omega arith
few_slots (insns.Jump offset) = omega arith
few_slots (insns.JumpLong distance) = omega arith
few_slots (insns.Branch bits comparison dst source offset) = omega arith
few_slots (insns.Call helper) = omega arith
few_slots (insns.CallLocal distance) = omega arith
few_slots insns.Exit = omega arith
