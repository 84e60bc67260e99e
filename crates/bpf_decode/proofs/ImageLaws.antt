-- The two laws of images: what is read is spelled so, and what is spelled so is read.
use Rattle.std.proofs.Common.{◌≡◌, ℕ, zero, suc, ◌+◌, ◌≤◌, Bool, true, false, List, [], ◌∷◌, ◌++◌, length, Option, Result, Ok, Err, refl, sym, ap, subst, ◌∙◌, append_assoc, arith}
use Rattle.std.specs.Prelude.{nat_eq, codes, IfOk, ◌==◌, if◌then◌else◌}
use Rattle.std.specs.List.{AllByRecursion, flat_map}
use Rattle.std.specs.Cmp.Lexicographic.{slice_cmp, pointwise, same_text}
use Rattle.std.specs.Ordering.{nat_cmp}
use Rattle.std.specs.declared.cmp.Ordering.TheVariants.{Less}
use Rattle.byteorder.specs.Endian.{little_bytes}
use Rattle.std.proofs.lemmas.Bool.{eqb-true}
use Rattle.std.proofs.lemmas.List.{append-nil, nil_from_length}
use Rattle.std.proofs.lemmas.List.Concat.{flat_map-cons}
use Rattle.bpf_decode.specs.declared.decode_error.DecodeError.{DecodeError}
use Rattle.bpf_decode.specs.declared.decode_error.DecodeError.TheVariants.{Magic, Limit, Trailing}
use Rattle.bpf_decode.specs.declared.image_error.ImageError.{ImageError}
use Rattle.bpf_decode.specs.declared.insn.Insn.{Insn}
use Rattle.bpf_decode.specs.Instruction.{spelling, slot_total}
use Rattle.loop_heads.specs.Loops.{PlainLoops}
use Rattle.bpf_decode.specs.declared.image.Header.{Header}
use Rattle.bpf_decode.specs.declared.rule_set.RuleSet.{RuleSet}
use Rattle.bpf_decode.specs.declared.rule_set.RuleSet.TheVariants.{One, Two, Three}
use Rattle.bpf_decode.specs.Class.{ClassMethod, IsMethod, NamesRise, IsClass, IsWithinSet, AreWithinSet, Class, IsImage, heads_bytes, method_bytes, magic, image_bytes}
use Rattle.bpf_decode.specs.Reading.{◌>>=◌, checked}
use Rattle.bpf_decode.specs.ImageReading.{GivesImage, after, name_at, flags_at, capacity_at, code_at, heads_at, made, method_at, methods_at, number_at, bytes_at, rules_of, rules_at, header_at, image_of}
use Rattle.bpf_decode.proofs.Bytes.{IsBytes, bind_ok, checked_ok}
use Rattle.bpf_decode.specs.Limits.{between, capacity_limit}
use Rattle.bpf_decode.proofs.ImageFields.{Takes, Takes-then, ok_is, same_value, between-true, between-is, number_takes, number_again, bytes_take, bytes_again, name_takes, name_again, flags_take, flags_again, limit_wide, capacity_takes, capacity_again, IsCodeField, code_field, code_field_takes, code_field_again, heads_take, heads_again}
use Rattle.bpf_decode.specs.declared.limits.TheConstants.{METHOD_LIMIT}

-- ---- a method

abbrev above : List ℕ → List ℕ → Type 0
above before name = slice_cmp nat_cmp before name ≡ Less

-- the same of an equal method and an equal rest
same_method : (rules : RuleSet) (before bytes : List ℕ) (m n : ClassMethod) (behind rest : List ℕ) → m ≡ n → behind ≡ rest → Takes bytes (method_bytes rules m) behind → IsMethod m → IsWithinSet rules m → above before m.name
    → Takes bytes (method_bytes rules n) rest × IsMethod n × above before n.name × IsWithinSet rules n
same_method rules before bytes m n behind rest same end taken known within rises =
    subst (λ (x : ClassMethod). Takes bytes (method_bytes rules x) rest × IsMethod x × above before x.name × IsWithinSet rules x) same (subst (λ (r : List ℕ). Takes bytes (method_bytes rules m) r) end taken, known, rises, within)

pub method_takes : (rules : RuleSet) (before bytes : List ℕ) (m : ClassMethod) (rest : List ℕ) → IsBytes bytes → method_at rules before bytes ≡ Ok (m, rest) → Takes bytes (method_bytes rules m) rest × IsMethod m × above before m.name × IsWithinSet rules m
unfolding method_at
method_takes rules before bytes m rest fits e =
    let a = bind_ok (name_at before bytes) (λ name. flags_at name.1 >>= λ flags. capacity_at rules flags.1 >>= λ in_cap. capacity_at rules in_cap.1 >>= λ out_cap. code_at out_cap.1 >>= λ code. heads_at rules code.0 code.1 >>= λ loops. Ok (made name.0 flags.0 in_cap.0 out_cap.0 code.0 loops.0, loops.1)) (m, rest) e in
    let t0 = name_takes before bytes a.0.0 a.0.1 fits a.1 in
    let b = bind_ok (flags_at a.0.1) (λ flags. capacity_at rules flags.1 >>= λ in_cap. capacity_at rules in_cap.1 >>= λ out_cap. code_at out_cap.1 >>= λ code. heads_at rules code.0 code.1 >>= λ loops. Ok (made a.0.0 flags.0 in_cap.0 out_cap.0 code.0 loops.0, loops.1)) (m, rest) a.2 in
    let t1 = flags_take a.0.1 b.0.0 b.0.1 t0.0.rest_fits b.1 in
    let c = bind_ok (capacity_at rules b.0.1) (λ in_cap. capacity_at rules in_cap.1 >>= λ out_cap. code_at out_cap.1 >>= λ code. heads_at rules code.0 code.1 >>= λ loops. Ok (made a.0.0 b.0.0 in_cap.0 out_cap.0 code.0 loops.0, loops.1)) (m, rest) b.2 in
    let t2 = capacity_takes rules b.0.1 c.0.0 c.0.1 t1.0.rest_fits c.1 in
    let d = bind_ok (capacity_at rules c.0.1) (λ out_cap. code_at out_cap.1 >>= λ code. heads_at rules code.0 code.1 >>= λ loops. Ok (made a.0.0 b.0.0 c.0.0 out_cap.0 code.0 loops.0, loops.1)) (m, rest) c.2 in
    let t3 = capacity_takes rules c.0.1 d.0.0 d.0.1 t2.0.rest_fits d.1 in
    let f = bind_ok (code_at d.0.1) (λ code. heads_at rules code.0 code.1 >>= λ loops. Ok (made a.0.0 b.0.0 c.0.0 d.0.0 code.0 loops.0, loops.1)) (m, rest) d.2 in
    let t4 = code_field_takes d.0.1 f.0.0 f.0.1 t3.0.rest_fits f.1 in
    let g = bind_ok (heads_at rules f.0.0 f.0.1) (λ loops. Ok (made a.0.0 b.0.0 c.0.0 d.0.0 f.0.0 loops.0, loops.1)) (m, rest) f.2 in
    let t5 = heads_take rules f.0.0 f.0.1 g.0.0 g.0.1 t4.0.rest_fits g.1 in
    let last = same_value (made a.0.0 b.0.0 c.0.0 d.0.0 f.0.0 g.0.0) m g.0.1 rest g.2 in
    let e45 = Takes-then d.0.1 (code_field f.0.0) f.0.1 (heads_bytes rules g.0.0) g.0.1 t4.0 t5.0 in
    let e34 = Takes-then c.0.1 (little_bytes 2 d.0.0) d.0.1 (code_field f.0.0 ++ heads_bytes rules g.0.0) g.0.1 t3.0 e45 in
    let e24 = Takes-then b.0.1 (little_bytes 2 c.0.0) c.0.1 (little_bytes 2 d.0.0 ++ (code_field f.0.0 ++ heads_bytes rules g.0.0)) g.0.1 t2.0 e34 in
    let e14 = Takes-then a.0.1 (b.0.0 ∷ []) b.0.1 (little_bytes 2 c.0.0 ++ (little_bytes 2 d.0.0 ++ (code_field f.0.0 ++ heads_bytes rules g.0.0))) g.0.1 t1.0 e24 in
    let whole : Takes bytes (method_bytes rules (made a.0.0 b.0.0 c.0.0 d.0.0 f.0.0 g.0.0)) g.0.1 = Takes-then bytes (length a.0.0 ∷ a.0.0) a.0.1 ((b.0.0 ∷ []) ++ (little_bytes 2 c.0.0 ++ (little_bytes 2 d.0.0 ++ (code_field f.0.0 ++ heads_bytes rules g.0.0)))) g.0.1 t0.0 e14 in
    let known : IsMethod (made a.0.0 b.0.0 c.0.0 d.0.0 f.0.0 g.0.0) = record {
      named = t0.1.named;
      short = t0.1.short;
      letters = t0.1.letters;
      some_flag = t1.1;
      known_flags = t1.2;
      in_cap = omega (arith, t2.1, limit_wide rules);
      out_cap = omega (arith, t3.1, limit_wide rules);
      some_slot = t4.1.some;
      slots = t4.1.few;
      fit = t4.1.fit;
      loops = t5.1;
    } in
    let within : IsWithinSet rules (made a.0.0 b.0.0 c.0.0 d.0.0 f.0.0 g.0.0) = record { in_cap = t2.1; out_cap = t3.1; loops = t5.2 } in
    same_method rules before bytes (made a.0.0 b.0.0 c.0.0 d.0.0 f.0.0 g.0.0) m g.0.1 rest last.0 last.1 whole known within t0.1.above

-- the fields between a method's name and its code, and what follows them
abbrev behind_name : ClassMethod → List ℕ → List ℕ
behind_name m code = m.flags ∷ little_bytes 2 m.in_cap ++ little_bytes 2 m.out_cap ++ little_bytes 2 (slot_total m.instructions) ++ code

pub method_again : (rules : RuleSet) (before : List ℕ) (m : ClassMethod) (rest : List ℕ) → IsMethod m → IsWithinSet rules m → above before m.name → method_at rules before (method_bytes rules m ++ rest) ≡ Ok (m, rest)
unfolding method_at
method_again rules before m rest h within rises =
    let code_on : List ℕ = spelling m.instructions ++ heads_bytes rules m.loops in
    let heads_on : List ℕ = heads_bytes rules m.loops ++ rest in
    let regrouped : method_bytes rules m ++ rest ≡ length m.name ∷ (m.name ++ behind_name m (spelling m.instructions ++ heads_on)) =
    ap (λ (x : List ℕ). length m.name ∷ x) (append_assoc m.name (behind_name m code_on) rest)
    ∙ ap (λ (x : List ℕ). length m.name ∷ (m.name ++ behind_name m x)) (append_assoc (spelling m.instructions) (heads_bytes rules m.loops) rest) in
    let code : IsCodeField m.instructions = record { some = h.some_slot; few = h.slots; fit = h.fit } in
    let after_code : List ℕ = spelling m.instructions ++ heads_on in
    let after_out : List ℕ = little_bytes 2 (slot_total m.instructions) ++ after_code in
    let after_in : List ℕ = little_bytes 2 m.out_cap ++ after_out in
    let after_flags : List ℕ = little_bytes 2 m.in_cap ++ after_in in
    ap (method_at rules before) regrouped
    ∙ ap (λ (r : Result (List ℕ × List ℕ) DecodeError). r >>= λ name. flags_at name.1 >>= λ flags. capacity_at rules flags.1 >>= λ in_cap. capacity_at rules in_cap.1 >>= λ out_cap. code_at out_cap.1 >>= λ code. heads_at rules code.0 code.1 >>= λ loops. Ok (made name.0 flags.0 in_cap.0 out_cap.0 code.0 loops.0, loops.1)) (name_again before m.name (m.flags ∷ after_flags) (record { named = h.named; short = h.short; letters = h.letters; above = rises }))
    ∙ ap (λ (r : Result (ℕ × List ℕ) DecodeError). r >>= λ flags. capacity_at rules flags.1 >>= λ in_cap. capacity_at rules in_cap.1 >>= λ out_cap. code_at out_cap.1 >>= λ code. heads_at rules code.0 code.1 >>= λ loops. Ok (made m.name flags.0 in_cap.0 out_cap.0 code.0 loops.0, loops.1)) (flags_again m.flags after_flags h.some_flag h.known_flags)
    ∙ ap (λ (r : Result (ℕ × List ℕ) DecodeError). r >>= λ in_cap. capacity_at rules in_cap.1 >>= λ out_cap. code_at out_cap.1 >>= λ code. heads_at rules code.0 code.1 >>= λ loops. Ok (made m.name m.flags in_cap.0 out_cap.0 code.0 loops.0, loops.1)) (capacity_again rules m.in_cap after_in within.in_cap)
    ∙ ap (λ (r : Result (ℕ × List ℕ) DecodeError). r >>= λ out_cap. code_at out_cap.1 >>= λ code. heads_at rules code.0 code.1 >>= λ loops. Ok (made m.name m.flags m.in_cap out_cap.0 code.0 loops.0, loops.1)) (capacity_again rules m.out_cap after_out within.out_cap)
    ∙ ap (λ (r : Result (List Insn × List ℕ) DecodeError). r >>= λ code. heads_at rules code.0 code.1 >>= λ loops. Ok (made m.name m.flags m.in_cap m.out_cap code.0 loops.0, loops.1)) (code_field_again m.instructions heads_on code)
    ∙ ap (λ (r : Result (Option PlainLoops × List ℕ) DecodeError). r >>= λ loops. Ok (made m.name m.flags m.in_cap m.out_cap m.instructions loops.0, loops.1)) (heads_again rules m.instructions m.loops rest h.loops within.loops)

-- ---- methods

-- each name is above the one before it
abbrev pub RisesFrom : List ℕ → List ClassMethod → Type 0
RisesFrom before [] = Unit {0}
RisesFrom before (m ∷ ms) = above before m.name × RisesFrom m.name ms

pub rises_on : (before : List ℕ) (ms : List ClassMethod) → RisesFrom before ms → NamesRise ms
rises_on before [] h = tt
rises_on before (m ∷ []) h = tt
rises_on before (m ∷ n ∷ ms) h = (h.1.0, rises_on m.name (n ∷ ms) h.1)

rises_behind : (m : ClassMethod) (ms : List ClassMethod) → NamesRise (m ∷ ms) → RisesFrom m.name ms
rises_behind m [] h = tt
rises_behind m (n ∷ ms) h = (h.0, rises_behind n ms h.1)

named_above : (name : List ℕ) → 1 ≤ length name → above [] name
named_above [] h = absurd (omega arith)
named_above (b ∷ bs) h = refl

pub rises_first : (ms : List ClassMethod) → AllByRecursion IsMethod ms → NamesRise ms → RisesFrom [] ms
rises_first [] all h = tt
rises_first (m ∷ ms) all h = (named_above m.name all.0.named, rises_behind m ms h)

abbrev done_decode : {A : Type 0} → A → Result A DecodeError
done_decode y = Ok y

pub after_ok : {A : Type 0} (k : ℕ) (r : Result A DecodeError) (x : A) → after k r ≡ Ok x → r ≡ Ok x
after_ok k (Ok y) x e = ap done_decode (ok_is y x e)
after_ok k (Err d) x e = absurd cc

pub methods_take : (rules : RuleSet) (n k : ℕ) (before bytes : List ℕ) (x : List ClassMethod × List ℕ) → IsBytes bytes → methods_at rules n k before bytes ≡ Ok x
    → Takes bytes (flat_map (method_bytes rules) x.0) x.1 × (length x.0 ≡ n) × AllByRecursion IsMethod x.0 × RisesFrom before x.0 × AreWithinSet rules x.0
unfolding methods_at
methods_take rules zero k before bytes x fits e =
    subst (λ (y : List ClassMethod × List ℕ). Takes bytes (flat_map (method_bytes rules) y.0) y.1 × (length y.0 ≡ 0) × AllByRecursion IsMethod y.0 × RisesFrom before y.0 × AreWithinSet rules y.0) (ok_is ([], bytes) x e) (record { parts = refl; rest_fits = fits }, refl, tt, tt, tt)
methods_take rules (suc n) k before bytes x fits e =
    let a = bind_ok (after k (method_at rules before bytes)) (λ first. methods_at rules n (k + 1) first.0.name first.1 >>= λ others. Ok (first.0 ∷ others.0, others.1)) x e in
    let m = a.0.0 in
    let b = bind_ok (methods_at rules n (k + 1) m.name a.0.1) (λ others. Ok (m ∷ others.0, others.1)) x a.2 in
    let first = method_takes rules before bytes m a.0.1 fits (after_ok k (method_at rules before bytes) a.0 a.1) in
    let second = methods_take rules n (k + 1) m.name a.0.1 b.0 first.0.rest_fits b.1 in
    let both = Takes-then bytes (method_bytes rules m) a.0.1 (flat_map (method_bytes rules) b.0.0) b.0.1 first.0 second.0 in
    let built : List ClassMethod × List ℕ = (m ∷ b.0.0, b.0.1) in
    subst (λ (y : List ClassMethod × List ℕ). Takes bytes (flat_map (method_bytes rules) y.0) y.1 × (length y.0 ≡ suc n) × AllByRecursion IsMethod y.0 × RisesFrom before y.0 × AreWithinSet rules y.0) (ok_is built x b.2)
    (rw flat_map-cons both, ap suc second.1, (first.1, second.2), (first.2, second.3), (first.3, second.4))

pub methods_again : (rules : RuleSet) (k : ℕ) (before : List ℕ) (ms : List ClassMethod) (rest : List ℕ) → AllByRecursion IsMethod ms → AreWithinSet rules ms → RisesFrom before ms → methods_at rules (length ms) k before (flat_map (method_bytes rules) ms ++ rest) ≡ Ok (ms, rest)
unfolding methods_at
methods_again rules k before [] rest all within rises = refl
methods_again rules k before (m ∷ ms) rest all within rises =
    let behind : List ℕ = flat_map (method_bytes rules) ms ++ rest in
    let regrouped : flat_map (method_bytes rules) (m ∷ ms) ++ rest ≡ method_bytes rules m ++ behind = ap (λ (x : List ℕ). x ++ rest) (flat_map-cons (method_bytes rules) m ms) ∙ append_assoc (method_bytes rules m) (flat_map (method_bytes rules) ms) rest in
    ap (methods_at rules (suc (length ms)) k before) regrouped
    ∙ ap (λ (r : Result (ClassMethod × List ℕ) DecodeError). after k r >>= λ first. methods_at rules (length ms) (k + 1) first.0.name first.1 >>= λ others. Ok (first.0 ∷ others.0, others.1)) (method_again rules before m behind all.0 within.0 rises.0)
    ∙ ap (λ (r : Result (List ClassMethod × List ℕ) ImageError). r >>= λ others. Ok (m ∷ others.0, others.1)) (methods_again rules (k + 1) m.name ms rest all.1 within.1 rises.1)

-- ---- the image

abbrev named : RuleSet → Result RuleSet DecodeError
named rules = Ok rules

-- what names a rule set is its magic
by_texts : (m : List ℕ) (rules : RuleSet) (one two three : Bool) → one ≡ pointwise nat_eq m (codes "RCL1") → two ≡ pointwise nat_eq m (codes "RCL2") → three ≡ pointwise nat_eq m (codes "RCL3")
    → (if one then Ok One else (if two then Ok Two else (if three then Ok Three else Err Magic))) ≡ named rules → m ≡ magic rules
by_texts m One true two three e f g h = same_text m (codes "RCL1") e
by_texts m Two true two three e f g h = absurd cc
by_texts m Three true two three e f g h = absurd cc
by_texts m One false true three e f g h = absurd cc
by_texts m Two false true three e f g h = same_text m (codes "RCL2") f
by_texts m Three false true three e f g h = absurd cc
by_texts m One false false true e f g h = absurd cc
by_texts m Two false false true e f g h = absurd cc
by_texts m Three false false true e f g h = same_text m (codes "RCL3") g
by_texts m rules false false false e f g h = absurd cc

rules_take : (bytes : List ℕ) (rules : RuleSet) (rest : List ℕ) → IsBytes bytes → rules_at bytes ≡ Ok (rules, rest) → Takes bytes (magic rules) rest
unfolding rules_at
rules_take bytes rules rest fits e =
    let a = bind_ok (bytes_at 4 bytes) (λ m. rules_of m.0 >>= λ r. Ok (r, m.1)) (rules, rest) e in
    let t = bytes_take 4 bytes a.0.0 a.0.1 fits a.1 in
    let b = bind_ok (rules_of a.0.0) (λ r. Ok (r, a.0.1)) (rules, rest) a.2 in
    let is : a.0.0 ≡ magic b.0 = by_texts a.0.0 b.0 (pointwise nat_eq a.0.0 (codes "RCL1")) (pointwise nat_eq a.0.0 (codes "RCL2")) (pointwise nat_eq a.0.0 (codes "RCL3")) refl refl refl b.1 in
    let last = same_value b.0 rules a.0.1 rest b.2 in
    let here : Takes bytes (magic b.0) a.0.1 = subst (λ (x : List ℕ). Takes bytes x a.0.1) is t.0 in
    subst (λ (r : RuleSet). Takes bytes (magic r) rest) last.0 (subst (λ (r : List ℕ). Takes bytes (magic b.0) r) last.1 here)

rules_again : (rules : RuleSet) (rest : List ℕ) → rules_at (magic rules ++ rest) ≡ Ok (rules, rest)
unfolding rules_at
rules_again One rest = ap (λ (r : Result (List ℕ × List ℕ) DecodeError). r >>= λ m. rules_of m.0 >>= λ s. Ok (s, m.1)) (bytes_again 4 (codes "RCL1") rest refl)
rules_again Two rest = ap (λ (r : Result (List ℕ × List ℕ) DecodeError). r >>= λ m. rules_of m.0 >>= λ s. Ok (s, m.1)) (bytes_again 4 (codes "RCL2") rest refl)
rules_again Three rest = ap (λ (r : Result (List ℕ × List ℕ) DecodeError). r >>= λ m. rules_of m.0 >>= λ s. Ok (s, m.1)) (bytes_again 4 (codes "RCL3") rest refl)

abbrev header : RuleSet → ℕ → Header
header rules count = record { rules = rules; count = count }

abbrev header_bytes : Header → List ℕ
header_bytes h = magic h.rules ++ (little_bytes 2 h.count ++ (0 ∷ 0 ∷ []))

-- the same of an equal header and an equal rest
same_header : (bytes : List ℕ) (k h : Header) (behind rest : List ℕ) → k ≡ h → behind ≡ rest → Takes bytes (header_bytes k) behind → Takes bytes (header_bytes h) rest
same_header bytes k h behind rest same end taken = subst (λ (j : Header). Takes bytes (header_bytes j) rest) same (subst (λ (r : List ℕ). Takes bytes (header_bytes k) r) end taken)

pub header_takes : (bytes : List ℕ) (h : Header) (rest : List ℕ) → IsBytes bytes → header_at bytes ≡ Ok (h, rest) → Takes bytes (header_bytes h) rest × (1 ≤ h.count) × (h.count ≤ 32)
unfolding header_at
header_takes bytes h rest fits e =
    let a = bind_ok (rules_at bytes) (λ rules. number_at rules.1 >>= λ count. checked (between 1 METHOD_LIMIT count.0) Limit count >>= λ some. number_at count.1 >>= λ none. checked (none.0 == 0) Magic none >>= λ nothing. Ok (header rules.0 count.0, none.1)) (h, rest) e in
    let t0 = rules_take bytes a.0.0 a.0.1 fits a.1 in
    let c = bind_ok (number_at a.0.1) (λ count. checked (between 1 METHOD_LIMIT count.0) Limit count >>= λ some. number_at count.1 >>= λ none. checked (none.0 == 0) Magic none >>= λ nothing. Ok (header a.0.0 count.0, none.1)) (h, rest) a.2 in
    let t1 = number_takes a.0.1 c.0.0 c.0.1 t0.rest_fits c.1 in
    let d = bind_ok (checked (between 1 METHOD_LIMIT c.0.0) Limit c.0) (λ some. number_at c.0.1 >>= λ none. checked (none.0 == 0) Magic none >>= λ nothing. Ok (header a.0.0 c.0.0, none.1)) (h, rest) c.2 in
    let some = between-true 1 METHOD_LIMIT c.0.0 (checked_ok (between 1 METHOD_LIMIT c.0.0) Limit c.0 d.0 d.1).0 in
    let f = bind_ok (number_at c.0.1) (λ none. checked (none.0 == 0) Magic none >>= λ nothing. Ok (header a.0.0 c.0.0, none.1)) (h, rest) d.2 in
    let t2 = number_takes c.0.1 f.0.0 f.0.1 t1.0.rest_fits f.1 in
    let g = bind_ok (checked (f.0.0 == 0) Magic f.0) (λ nothing. Ok (header a.0.0 c.0.0, f.0.1)) (h, rest) f.2 in
    let none : f.0.0 ≡ 0 = eqb-true f.0.0 0 (checked_ok (f.0.0 == 0) Magic f.0 g.0 g.1).0 in
    let last = same_value (header a.0.0 c.0.0) h f.0.1 rest g.2 in
    let zero_field : Takes c.0.1 (0 ∷ 0 ∷ []) f.0.1 = subst (λ (k : ℕ). Takes c.0.1 (little_bytes 2 k) f.0.1) none t2.0 in
    let e12 = Takes-then a.0.1 (little_bytes 2 c.0.0) c.0.1 (0 ∷ 0 ∷ []) f.0.1 t1.0 zero_field in
    let e02 = Takes-then bytes (magic a.0.0) a.0.1 (little_bytes 2 c.0.0 ++ (0 ∷ 0 ∷ [])) f.0.1 t0 e12 in
    let counted : c.0.0 ≡ h.count = ap (λ (x : Header). x.count) last.0 in
    (same_header bytes (header a.0.0 c.0.0) h f.0.1 rest last.0 last.1 e02, omega (arith, some.0, counted), omega (arith, some.1, counted))

pub header_again : (rules : RuleSet) (n : ℕ) (rest : List ℕ) → 1 ≤ n → n ≤ METHOD_LIMIT → header_at (magic rules ++ (little_bytes 2 n ++ (0 ∷ 0 ∷ rest))) ≡ Ok (header rules n, rest)
unfolding header_at
header_again rules n rest h k =
    let behind : List ℕ = little_bytes 2 n ++ (0 ∷ 0 ∷ rest) in
    let counted : ℕ × List ℕ = (n, 0 ∷ 0 ∷ rest) in
    ap (λ (r : Result (RuleSet × List ℕ) DecodeError). r >>= λ rules. number_at rules.1 >>= λ count. checked (between 1 METHOD_LIMIT count.0) Limit count >>= λ some. number_at count.1 >>= λ none. checked (none.0 == 0) Magic none >>= λ nothing. Ok (header rules.0 count.0, none.1)) (rules_again rules behind)
    ∙ ap (λ (r : Result (ℕ × List ℕ) DecodeError). r >>= λ count. checked (between 1 METHOD_LIMIT count.0) Limit count >>= λ some. number_at count.1 >>= λ none. checked (none.0 == 0) Magic none >>= λ nothing. Ok (header rules count.0, none.1)) (number_again n (0 ∷ 0 ∷ rest) (omega arith))
    ∙ ap (λ (b : Bool). checked b Limit counted >>= λ some. number_at (0 ∷ 0 ∷ rest) >>= λ none. checked (none.0 == 0) Magic none >>= λ nothing. Ok (header rules n, none.1)) (between-is 1 METHOD_LIMIT n h k)
    ∙ ap (λ (r : Result (ℕ × List ℕ) DecodeError). r >>= λ none. checked (none.0 == 0) Magic none >>= λ nothing. Ok (header rules n, none.1)) (number_again 0 rest (omega arith))

abbrev class_with : RuleSet → List ClassMethod → Class
class_with rules ms = record { rules = rules; methods = ms }

pub image_takes : (bytes : List ℕ) (c : Class) → IsBytes bytes → image_of bytes ≡ Ok c → IsImage bytes c
unfolding image_of
image_takes bytes c fits e =
    let a = bind_ok (after 0 (header_at bytes)) (λ h. methods_at h.0.rules h.0.count 0 [] h.1 >>= λ x. after h.0.count (checked (length x.1 == 0) Trailing (class_with h.0.rules x.0))) c e in
    let h = a.0.0 in
    let n = h.count in
    let t = header_takes bytes h a.0.1 fits (after_ok 0 (header_at bytes) a.0 a.1) in
    let b = bind_ok (methods_at h.rules n 0 [] a.0.1) (λ x. after n (checked (length x.1 == 0) Trailing (class_with h.rules x.0))) c a.2 in
    let u = methods_take h.rules n 0 [] a.0.1 b.0 t.0.rest_fits b.1 in
    let last = checked_ok (length b.0.1 == 0) Trailing (class_with h.rules b.0.0) c (after_ok n (checked (length b.0.1 == 0) Trailing (class_with h.rules b.0.0)) c b.2) in
    let nothing : b.0.1 ≡ [] = nil_from_length b.0.1 (eqb-true (length b.0.1) 0 last.0) in
    let all = flat_map (method_bytes h.rules) b.0.0 in
    let both = (Takes-then bytes (header_bytes h) a.0.1 all b.0.1 t.0 u.0).parts in
    let whole : bytes ≡ image_bytes (class_with h.rules b.0.0) =
    both ∙ ap (λ (r : List ℕ). (header_bytes h ++ all) ++ r) nothing ∙ append-nil (header_bytes h ++ all) ∙ append_assoc (magic h.rules) (little_bytes 2 n ++ (0 ∷ 0 ∷ [])) all
    ∙ ap (λ (k : ℕ). magic h.rules ++ (little_bytes 2 k ++ (0 ∷ 0 ∷ all))) (sym u.1) ∙ sym (append_assoc (magic h.rules) (little_bytes 2 (length b.0.0)) (0 ∷ 0 ∷ all)) in
    let class : IsClass b.0.0 = record { some = omega (arith, t.1, u.1); limit = omega (arith, t.2, u.1); methods = u.2; names = rises_on [] b.0.0 u.3 } in
    subst (λ (x : Class). IsImage bytes x) last.1 (record { class = class; within = u.4; spelled = whole })

pub image_again : (c : Class) → IsClass c.methods → AreWithinSet c.rules c.methods → image_of (image_bytes c) ≡ Ok c
unfolding image_of
image_again c class within =
    let ms = c.methods in
    let all = flat_map (method_bytes c.rules) ms in
    let rest : methods_at c.rules (length ms) 0 [] all ≡ Ok (ms, []) = ap (methods_at c.rules (length ms) 0 []) (sym (append-nil all)) ∙ methods_again c.rules 0 [] ms [] class.methods within (rises_first ms class.methods class.names) in
    ap image_of (append_assoc (magic c.rules) (little_bytes 2 (length ms)) (0 ∷ 0 ∷ all))
    ∙ ap (λ (r : Result (Header × List ℕ) DecodeError). after 0 r >>= λ h. methods_at h.0.rules h.0.count 0 [] h.1 >>= λ x. after h.0.count (checked (length x.1 == 0) Trailing (class_with h.0.rules x.0))) (header_again c.rules (length ms) all class.some class.limit)
    ∙ ap (λ (r : Result (List ClassMethod × List ℕ) ImageError). r >>= λ x. after (length ms) (checked (length x.1 == 0) Trailing (class_with c.rules x.0))) rest

pub image_is : (bytes : List ℕ) (c : Class) → IsImage bytes c → image_of bytes ≡ Ok c
image_is bytes c image = ap image_of image.spelled ∙ image_again c image.class image.within

-- ---- for the callers

pub read_found : (bytes : List ℕ) (r : Result Class ImageError) → IsBytes bytes → GivesImage (λ c. c) r (image_of bytes) → IfOk r (λ c. IsImage bytes c)
read_found bytes (Ok c) fits given = image_takes bytes c fits given
read_found bytes (Err e) fits given = tt

pub read_only : (bytes : List ℕ) (c : Class) (r : Result Class ImageError) → IsImage bytes c → GivesImage (λ c. c) r (image_of bytes) → GivesImage (λ c. c) r (Ok c)
read_only bytes c r image given = subst (λ (x : Result Class ImageError). GivesImage (λ (c : Class). c) r x) (image_is bytes c image) given

abbrev pub read_image : Class → Result Class ImageError
read_image c = Ok c

pub ok_image : (c d : Class) → read_image c ≡ read_image d → c ≡ d
ok_image c d e = cc
