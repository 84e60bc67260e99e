-- Bytes after the longest image change nothing of what is read.
use Rattle.std.proofs.Common.{◌≡◌, ℕ, zero, suc, ◌+◌, ◌*◌, ◌≤◌, Bool, true, false, List, [], ◌∷◌, ◌++◌, length, take, drop, Option, None, Result, Ok, Err, refl, sym, ap, subst, ◌∙◌, arith, inl, inr}
use Rattle.std.specs.Prelude.{⊤, nat_le, ◌==◌}
use Rattle.byteorder.specs.Endian.{little_number}
use Rattle.std.proofs.lemmas.Bool.{cases_lt, leb-true, le-leb, ne_eqb}
use Rattle.std.proofs.lemmas.List.{take-append-drop, take-append-le, drop-append-le, take_all, length-take, length-take-le, length-drop, length-append}
use Rattle.bpf_decode.specs.declared.decode_error.DecodeError.{DecodeError}
use Rattle.bpf_decode.specs.declared.decode_error.DecodeError.TheVariants.{Truncated, Magic, Name, Order, Flags, Limit, Trailing}
use Rattle.bpf_decode.specs.declared.image_error.ImageError.{ImageError}
use Rattle.bpf_decode.specs.declared.insn.Insn.{Insn}
use Rattle.bpf_decode.specs.declared.image.Header.{Header}
use Rattle.bpf_decode.specs.declared.rule_set.RuleSet.{RuleSet}
use Rattle.bpf_decode.specs.declared.rule_set.RuleSet.TheVariants.{One, Two, Three}
use Rattle.loop_heads.specs.Loops.{PlainLoops}
use Rattle.loop_bytes.specs.declared.heads_error.HeadsError.{HeadsError}
use Rattle.loop_bytes.specs.declared.reading.TheConstants.{LOOPS_LIMIT}
use Rattle.loop_bytes.specs.Reading.{loops_from}
use Rattle.loop_bytes.proofs.Beginning.{longer, Leaves, Local, Local-more, Local-then, Local-checked, Local-tested, Local-made, Local-ok, loops_local}
use Rattle.bpf_decode.specs.Class.{ClassMethod, Class, starts, IsImage}
use Rattle.bpf_decode.specs.Limits.{is_method_count, is_name_length, are_name_bytes, are_flags, is_capacity, is_slot_count}
use Rattle.bpf_decode.specs.Reading.{◌>>=◌, checked, code_of}
use Rattle.bpf_decode.specs.ImageReading.{is_above, after, byte_at, number_at, bytes_at, name_at, flags_at, capacity_at, code_at, loops_read, heads_at, made, method_at, methods_at, rules_of, rules_at, header_at, image_of}
use Rattle.bpf_decode.proofs.Bytes.{bind_ok, checked_ok}
use Rattle.bpf_decode.proofs.ImageFields.{between-true, ok_is}
use Rattle.bpf_decode.proofs.ImageLaws.{image_is}
use Rattle.bpf_decode.specs.declared.limits.TheConstants.{METHOD_LIMIT, NAME_LIMIT, SLOT_LIMIT, IMAGE_LIMIT}

-- ---- the fields

byte_same : (front more : List ℕ) → 1 ≤ length front → byte_at (front ++ more) ≡ longer more (byte_at front)
byte_same [] more long = absurd (omega (arith, long))
byte_same (b ∷ front) more long = refl

byte_few : (front : List ℕ) → Leaves 1 front (byte_at front)
byte_few [] = tt
byte_few (b ∷ front) = omega arith

byte_local : Local 1 byte_at
byte_local = record { same = byte_same; few = byte_few }

-- a test of the length, and then that much less
cut_few : {A : Type 0} (n : ℕ) (front : List ℕ) (x : A) (e : DecodeError) (b : Bool) → (b ≡ true → n ≤ length front) → Leaves n front (checked b e (x, drop n front))
cut_few n front x e true h = omega (arith, h refl, length-drop n front)
cut_few n front x e false h = tt

number_same : (front more : List ℕ) → 2 ≤ length front → number_at (front ++ more) ≡ longer more (number_at front)
number_same [] more long = absurd (omega (arith, long))
number_same (a ∷ []) more long = absurd (omega (arith, long))
number_same (a ∷ b ∷ front) more long =
    rw (le-leb 2 (length (a ∷ b ∷ front)) long, le-leb 2 (length (a ∷ b ∷ (front ++ more))) (omega arith)) refl

number_local : Local 2 number_at
number_local = record {
  same = number_same;
  few = λ front. cut_few 2 front (little_number 2 front) Truncated (nat_le 2 (length front)) (leb-true 2 (length front));
}

bytes_same : (n : ℕ) (front more : List ℕ) → n ≤ length front → bytes_at n (front ++ more) ≡ longer more (bytes_at n front)
bytes_same n front more long =
    rw (le-leb n (length front) long, le-leb n (length (front ++ more)) (omega (arith, long, length-append front more)), take-append-le n front more long, drop-append-le n front more long) refl

bytes_local : (n : ℕ) → Local n (bytes_at n)
bytes_local n = record {
  same = bytes_same n;
  few = λ front. cut_few n front (take n front) Truncated (nat_le n (length front)) (leb-true n (length front));
}

-- the most bytes that a name, code and a method take, each with its length
abbrev name_most : ℕ
name_most = 1 + NAME_LIMIT

abbrev code_most : ℕ
code_most = 2 + 8 * SLOT_LIMIT

abbrev method_most : ℕ
method_most = name_most + (5 + (code_most + LOOPS_LIMIT))

name_local : (before : List ℕ) → Local name_most (name_at before)
unfolding name_at
name_local before =
    Local-then 1 NAME_LIMIT byte_at (λ n. checked (is_name_length n.0) Name n >>= λ sized. bytes_at n.0 n.1 >>= λ name. checked (are_name_bytes name.0) Name name >>= λ lettered. checked (is_above before name.0) Order name) byte_local (λ n.
    Local-checked NAME_LIMIT (is_name_length n) Name n (λ rest. bytes_at n rest >>= λ name. checked (are_name_bytes name.0) Name name >>= λ lettered. checked (is_above before name.0) Order name) (λ few.
    Local-more (n + 0) NAME_LIMIT (λ rest. bytes_at n rest >>= λ name. checked (are_name_bytes name.0) Name name >>= λ lettered. checked (is_above before name.0) Order name) (omega (arith, (between-true 1 NAME_LIMIT n few).1))
    (Local-then n 0 (bytes_at n) (λ name. checked (are_name_bytes name.0) Name name >>= λ lettered. checked (is_above before name.0) Order name) (bytes_local n) (λ name.
    Local-checked 0 (are_name_bytes name) Name name (λ rest. checked (is_above before name) Order (name, rest)) (λ _. Local-tested (is_above before name) Order name)))))

flags_local : Local 1 flags_at
unfolding flags_at
flags_local = Local-then 1 0 byte_at (λ flags. checked (are_flags flags.0) Flags flags) byte_local (λ n. Local-tested (are_flags n) Flags n)

capacity_local : (rules : RuleSet) → Local 2 (capacity_at rules)
unfolding capacity_at
capacity_local rules = Local-then 2 0 number_at (λ n. checked (is_capacity rules n.0) Limit n) number_local (λ n. Local-tested (is_capacity rules n) Limit n)

code_local : Local code_most code_at
unfolding code_at
code_local =
    Local-then 2 (8 * SLOT_LIMIT) number_at (λ n. checked (is_slot_count n.0) Limit n >>= λ some. bytes_at (8 * n.0) n.1 >>= λ code. code_of code.0 >>= λ is. Ok (is, code.1)) number_local (λ n.
    Local-checked (8 * SLOT_LIMIT) (is_slot_count n) Limit n (λ rest. bytes_at (8 * n) rest >>= λ code. code_of code.0 >>= λ is. Ok (is, code.1)) (λ few.
    Local-more (8 * n + 0) (8 * SLOT_LIMIT) (λ rest. bytes_at (8 * n) rest >>= λ code. code_of code.0 >>= λ is. Ok (is, code.1)) (omega (arith, (between-true 1 SLOT_LIMIT n few).1))
    (Local-then (8 * n) 0 (bytes_at (8 * n)) (λ code. code_of code.0 >>= λ is. Ok (is, code.1)) (bytes_local (8 * n)) (λ code. Local-made (code_of code) (λ is. is)))))

-- ---- a method, and the methods

loops_same : (more : List ℕ) (read whole : Result (Option PlainLoops × List ℕ) HeadsError) → whole ≡ longer more read → loops_read whole ≡ longer more (loops_read read)
loops_same more (Ok x) whole e = rw e refl
loops_same more (Err d) whole e = rw e refl

loops_leave : (k : ℕ) (front : List ℕ) (read : Result (Option PlainLoops × List ℕ) HeadsError) → Leaves k front read → Leaves k front (loops_read read)
loops_leave k front (Ok x) l = l
loops_leave k front (Err d) l = tt

heads_local : (rules : RuleSet) (is : List Insn) → Local LOOPS_LIMIT (heads_at rules is)
unfolding heads_at
heads_local One is = Local-more 0 LOOPS_LIMIT (heads_at One is) (omega arith) (Local-ok None)
heads_local Two is = Local-more 0 LOOPS_LIMIT (heads_at Two is) (omega arith) (Local-ok None)
heads_local Three is =
    let l = loops_local (starts is) in
    record {
      same = λ front more long. loops_same more (loops_from (starts is) front) (loops_from (starts is) (front ++ more)) (l.same front more long);
      few = λ front. loops_leave LOOPS_LIMIT front (loops_from (starts is) front) (l.few front);
    }

method_local : (rules : RuleSet) (before : List ℕ) → Local method_most (method_at rules before)
unfolding method_at
method_local rules before =
    Local-then name_most (5 + (code_most + LOOPS_LIMIT)) (name_at before) (λ name. flags_at name.1 >>= λ flags. capacity_at rules flags.1 >>= λ in_cap. capacity_at rules in_cap.1 >>= λ out_cap. code_at out_cap.1 >>= λ code. heads_at rules code.0 code.1 >>= λ loops. Ok (made name.0 flags.0 in_cap.0 out_cap.0 code.0 loops.0, loops.1)) (name_local before) (λ name.
    Local-then 1 (4 + (code_most + LOOPS_LIMIT)) flags_at (λ flags. capacity_at rules flags.1 >>= λ in_cap. capacity_at rules in_cap.1 >>= λ out_cap. code_at out_cap.1 >>= λ code. heads_at rules code.0 code.1 >>= λ loops. Ok (made name flags.0 in_cap.0 out_cap.0 code.0 loops.0, loops.1)) flags_local (λ flags.
    Local-then 2 (2 + (code_most + LOOPS_LIMIT)) (capacity_at rules) (λ in_cap. capacity_at rules in_cap.1 >>= λ out_cap. code_at out_cap.1 >>= λ code. heads_at rules code.0 code.1 >>= λ loops. Ok (made name flags in_cap.0 out_cap.0 code.0 loops.0, loops.1)) (capacity_local rules) (λ in_cap.
    Local-then 2 (code_most + LOOPS_LIMIT) (capacity_at rules) (λ out_cap. code_at out_cap.1 >>= λ code. heads_at rules code.0 code.1 >>= λ loops. Ok (made name flags in_cap out_cap.0 code.0 loops.0, loops.1)) (capacity_local rules) (λ out_cap.
    Local-then code_most LOOPS_LIMIT code_at (λ code. heads_at rules code.0 code.1 >>= λ loops. Ok (made name flags in_cap out_cap code.0 loops.0, loops.1)) code_local (λ code.
    Local-then LOOPS_LIMIT 0 (heads_at rules code) (λ loops. Ok (made name flags in_cap out_cap code loops.0, loops.1)) (heads_local rules code) (λ loops. Local-ok (made name flags in_cap out_cap code loops)))))))

after_same : {A : Type 0} (done : ℕ) (more : List ℕ) (read whole : Result (A × List ℕ) DecodeError) → whole ≡ longer more read → after done whole ≡ longer more (after done read)
after_same done more (Ok x) whole e = rw e refl
after_same done more (Err d) whole e = rw e refl

after_leaves : {A : Type 0} (done k : ℕ) (front : List ℕ) (read : Result (A × List ℕ) DecodeError) → Leaves k front read → Leaves k front (after done read)
after_leaves done k front (Ok x) l = l
after_leaves done k front (Err d) l = tt

Local-after : {A : Type 0} (done k : ℕ) (read : List ℕ → Result (A × List ℕ) DecodeError) → Local k read → Local k (λ bytes. after done (read bytes))
Local-after done k read l = record {
  same = λ front more long. after_same done more (read front) (read (front ++ more)) (l.same front more long);
  few = λ front. after_leaves done k front (read front) (l.few front);
}

methods_local : (rules : RuleSet) (n done : ℕ) (before : List ℕ) → Local (n * method_most) (methods_at rules n done before)
unfolding methods_at
methods_local rules zero done before = Local-ok []
methods_local rules (suc n) done before =
    Local-more (method_most + (n * method_most + 0)) (suc n * method_most) (methods_at rules (suc n) done before) (omega arith)
    (Local-then method_most (n * method_most + 0) (λ bytes. after done (method_at rules before bytes)) (λ first. methods_at rules n (done + 1) first.0.name first.1 >>= λ others. Ok (first.0 ∷ others.0, others.1)) (Local-after done method_most (method_at rules before) (method_local rules before)) (λ first.
    Local-then (n * method_most) 0 (methods_at rules n (done + 1) first.name) (λ others. Ok (first ∷ others.0, others.1)) (methods_local rules n (done + 1) first.name) (λ others. Local-ok (first ∷ others))))

-- ---- the image

rules_local : Local 4 rules_at
unfolding rules_at
rules_local = Local-then 4 0 (bytes_at 4) (λ magic. rules_of magic.0 >>= λ r. Ok (r, magic.1)) (bytes_local 4) (λ magic. Local-made (rules_of magic) (λ r. r))

abbrev header : RuleSet → ℕ → Header
header rules count = record { rules = rules; count = count }

abbrev header_rest : RuleSet → List ℕ → Result (Header × List ℕ) DecodeError
header_rest rules bytes = number_at bytes >>= λ count. checked (is_method_count count.0) Limit count >>= λ some. number_at count.1 >>= λ none. checked (none.0 == 0) Magic none >>= λ nothing. Ok (header rules count.0, none.1)

header_rest_local : (rules : RuleSet) → Local 4 (header_rest rules)
header_rest_local rules =
    Local-then 2 2 number_at (λ count. checked (is_method_count count.0) Limit count >>= λ some. number_at count.1 >>= λ none. checked (none.0 == 0) Magic none >>= λ nothing. Ok (header rules count.0, none.1)) number_local (λ count.
    Local-checked 2 (is_method_count count) Limit count (λ rest. number_at rest >>= λ none. checked (none.0 == 0) Magic none >>= λ nothing. Ok (header rules count, none.1)) (λ _.
    Local-then 2 0 number_at (λ none. checked (none.0 == 0) Magic none >>= λ nothing. Ok (header rules count, none.1)) number_local (λ none.
    Local-checked 0 (none == 0) Magic none (λ rest. Ok (header rules count, rest)) (λ _. Local-ok (header rules count)))))

header_local : Local 8 header_at
unfolding header_at
header_local = Local-then 4 4 rules_at (λ rules. header_rest rules.0 rules.1) rules_local (λ rules. header_rest_local rules)

-- a header that is read has at most `METHOD_LIMIT` methods
header_few : (bytes : List ℕ) (h : Header × List ℕ) → header_at bytes ≡ Ok h → h.0.count ≤ METHOD_LIMIT
unfolding header_at
header_few bytes h e =
    let b = bind_ok (rules_at bytes) (λ rules. header_rest rules.0 rules.1) h e in
    let rules = b.0.0 in
    let c = bind_ok (number_at b.0.1) (λ count. checked (is_method_count count.0) Limit count >>= λ some. number_at count.1 >>= λ none. checked (none.0 == 0) Magic none >>= λ nothing. Ok (header rules count.0, none.1)) h b.2 in
    let d = bind_ok (checked (is_method_count c.0.0) Limit c.0) (λ some. number_at c.0.1 >>= λ none. checked (none.0 == 0) Magic none >>= λ nothing. Ok (header rules c.0.0, none.1)) h c.2 in
    let f = bind_ok (number_at c.0.1) (λ none. checked (none.0 == 0) Magic none >>= λ nothing. Ok (header rules c.0.0, none.1)) h d.2 in
    let g = bind_ok (checked (f.0.0 == 0) Magic f.0) (λ nothing. Ok (header rules c.0.0, f.0.1)) h f.2 in
    let few = (between-true 1 METHOD_LIMIT c.0.0 (checked_ok (is_method_count c.0.0) Limit c.0 d.0 d.1).0).1 in
    let same : (header rules c.0.0, f.0.1) ≡ h = ok_is (header rules c.0.0, f.0.1) h g.2 in
    omega (arith, few, ap (λ (p : Header × List ℕ). p.0.count) same)

-- the end of an image, after its methods
abbrev at_end : Header → List ClassMethod × List ℕ → Result Class ImageError
at_end h ms = after h.count (checked (length ms.1 == 0) Trailing (record { rules = h.rules; methods = ms.0 }))

some_left : (rest : List ℕ) → 1 ≤ length rest → (length rest == 0) ≡ false
some_left rest some = ne_eqb (length rest) 0 (λ e. omega (arith, some, e))

trailing : (h : Header) (ms : List ClassMethod) (rest : List ℕ) → 1 ≤ length rest → at_end h (ms, rest) ≡ Err (record { methods = h.count; error = Trailing })
trailing h ms rest some = rw (some_left rest some) refl

end_same : (h : Header) (ms : List ClassMethod) (rest more : List ℕ) → 1 ≤ length rest → at_end h (ms, rest ++ more) ≡ at_end h (ms, rest)
end_same h ms rest more some = trailing h ms (rest ++ more) (omega (arith, some, length-append rest more)) ∙ sym (trailing h ms rest some)

methods_end : (h : Header) (k : ℕ) (front more : List ℕ) → k + 1 ≤ length front → (read whole : Result (List ClassMethod × List ℕ) ImageError) → whole ≡ longer more read → Leaves k front read → (whole >>= at_end h) ≡ (read >>= at_end h)
methods_end h k front more long (Ok x) whole e l = rw e (end_same h x.0 x.1 more (omega (arith, long, l)))
methods_end h k front more long (Err d) whole e l = rw e refl

behind_header : (front more : List ℕ) → IMAGE_LIMIT + 1 ≤ length front → (read whole : Result (Header × List ℕ) DecodeError) → ((h : Header × List ℕ) → read ≡ Ok h → h.0.count ≤ METHOD_LIMIT) → whole ≡ longer more read → Leaves 8 front read → (after 0 whole >>= λ h. methods_at h.0.rules h.0.count 0 [] h.1 >>= at_end h.0) ≡ (after 0 read >>= λ h. methods_at h.0.rules h.0.count 0 [] h.1 >>= at_end h.0)
behind_header front more long (Ok h) whole few e l =
    let n = few h refl in
    let m = methods_local h.0.rules h.0.count 0 [] in
    let rest : h.0.count * method_most + 1 ≤ length h.1 = omega (arith, long, l, n) in
    rw e (methods_end h.0 (h.0.count * method_most) h.1 more rest (methods_at h.0.rules h.0.count 0 [] h.1) (methods_at h.0.rules h.0.count 0 [] (h.1 ++ more)) (m.same h.1 more (omega (arith, rest))) (m.few h.1))
behind_header front more long (Err d) whole few e l = rw e refl

-- bytes after the first `IMAGE_LIMIT + 1` change no answer
same_image : (front more : List ℕ) → IMAGE_LIMIT + 1 ≤ length front → image_of (front ++ more) ≡ image_of front
unfolding image_of
same_image front more long =
    behind_header front more long (header_at front) (header_at (front ++ more)) (header_few front) (header_local.same front more (omega (arith, long))) (header_local.few front)

pub image_of-take : (bytes : List ℕ) → image_of (take (IMAGE_LIMIT + 1) bytes) ≡ image_of bytes
image_of-take bytes =
    elim (cases_lt (length bytes) (IMAGE_LIMIT + 1)) [
      | inl short ↦ ap image_of (take_all (IMAGE_LIMIT + 1) bytes (omega (arith, short)))
      | inr long ↦ sym (same_image (take (IMAGE_LIMIT + 1) bytes) (drop (IMAGE_LIMIT + 1) bytes) (omega (arith, long, length-take-le (IMAGE_LIMIT + 1) bytes long))) ∙ ap image_of (take-append-drop (IMAGE_LIMIT + 1) bytes)
    ]

-- ---- an image is no longer

refusal-ne-class : (e : ImageError) (out : Class) (r : Result Class ImageError) → r ≡ Err e → r ≡ Ok out → ⊥
refusal-ne-class e out (Ok x) f g = absurd cc
refusal-ne-class e out (Err d) f g = absurd cc

end_refused : (h : Header) (ms : List ClassMethod) (rest : List ℕ) (out : Class) → 1 ≤ length rest → at_end h (ms, rest) ≡ Ok out → ⊥
end_refused h ms rest out some e = refusal-ne-class (record { methods = h.count; error = Trailing }) out (at_end h (ms, rest)) (trailing h ms rest some) e

methods_refused : (h : Header) (k : ℕ) (front : List ℕ) (out : Class) (read : Result (List ClassMethod × List ℕ) ImageError) → k + 1 ≤ length front → Leaves k front read → (read >>= at_end h) ≡ Ok out → ⊥
methods_refused h k front out (Ok x) long l e = end_refused h x.0 x.1 out (omega (arith, long, l)) e
methods_refused h k front out (Err d) long l e = absurd cc

header_refused : (front : List ℕ) (out : Class) (read : Result (Header × List ℕ) DecodeError) → IMAGE_LIMIT + 1 ≤ length front → ((h : Header × List ℕ) → read ≡ Ok h → h.0.count ≤ METHOD_LIMIT) → Leaves 8 front read → (after 0 read >>= λ h. methods_at h.0.rules h.0.count 0 [] h.1 >>= at_end h.0) ≡ Ok out → ⊥
header_refused front out (Ok h) long few l e =
    let n = few h refl in
    methods_refused h.0 (h.0.count * method_most) h.1 out (methods_at h.0.rules h.0.count 0 [] h.1) (omega (arith, long, l, n)) ((methods_local h.0.rules h.0.count 0 []).few h.1) e
header_refused front out (Err d) long few l e = absurd cc

refused : (bytes : List ℕ) (c : Class) → IMAGE_LIMIT + 1 ≤ length bytes → image_of bytes ≡ Ok c → ⊥
unfolding image_of
refused bytes c long e = header_refused bytes c (header_at bytes) long (header_few bytes) (header_local.few bytes) e

pub length-image : (bytes : List ℕ) (c : Class) → IsImage bytes c → length bytes ≤ IMAGE_LIMIT
length-image bytes c i =
    elim (cases_lt (length bytes) (IMAGE_LIMIT + 1)) [
      | inl short ↦ omega (arith, short)
      | inr long ↦ absurd (refused bytes c long (image_is bytes c i))
    ]

-- the bytes are an image where their first `IMAGE_LIMIT + 1` are
take_whole : (bytes : List ℕ) (c : Class) → IsImage (take (IMAGE_LIMIT + 1) bytes) c → take (IMAGE_LIMIT + 1) bytes ≡ bytes
take_whole bytes c i = take_all (IMAGE_LIMIT + 1) bytes (omega (arith, length-take (IMAGE_LIMIT + 1) bytes, length-image (take (IMAGE_LIMIT + 1) bytes) c i))

pub IsImage-from_take : (bytes : List ℕ) (c : Class) → IsImage (take (IMAGE_LIMIT + 1) bytes) c → IsImage bytes c
IsImage-from_take bytes c i = subst (λ (b : List ℕ). IsImage b c) (take_whole bytes c i) i

pub IsImage-take : (bytes : List ℕ) (c : Class) → IsImage bytes c → IsImage (take (IMAGE_LIMIT + 1) bytes) c
IsImage-take bytes c i = subst (λ (b : List ℕ). IsImage b c) (sym (take_all (IMAGE_LIMIT + 1) bytes (omega (arith, length-image bytes c i)))) i
