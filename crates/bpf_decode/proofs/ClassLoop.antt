-- Testing one method after the other, as a loop does, and what methods that pass are.
use Rattle.std.proofs.Common.{◌≡◌, ℕ, ◌+◌, ◌<◌, ◌≤◌, Bool, true, false, List, [], ◌∷◌, ◌++◌, length, get_or, take, drop, Option, Some, None, Result, Ok, Err, refl, sym, ap, subst, ◌∙◌, append_assoc, arith}
use Rattle.std.specs.Prelude.{if◌then◌else◌}
use Rattle.std.specs.List.{AllByRecursion}
use Rattle.std.specs.Cmp.Lexicographic.{slice_cmp}
use Rattle.std.specs.Ordering.{nat_cmp}
use Rattle.std.specs.declared.cmp.Ordering.TheVariants.{Less}
use Rattle.std.proofs.lemmas.List.{append-nil, drop_more, take_more, take_all, drop_all}
use Rattle.bpf_decode.specs.declared.decode_error.DecodeError.{DecodeError}
use Rattle.bpf_decode.specs.declared.decode_error.DecodeError.TheVariants.{Name, Order, Flags, Limit, Head}
use Rattle.bpf_decode.specs.declared.image_error.ImageError.{ImageError}
use Rattle.bpf_decode.specs.Instruction.{AllFit, slot_total}
use Rattle.bpf_decode.specs.declared.rule_set.RuleSet.{RuleSet}
use Rattle.loop_heads.specs.Loops.{PlainHead, PlainLoops}
use Rattle.loop_bytes.specs.HeadBytes.{StartAt, AreLoopsOf}
use Rattle.bpf_decode.specs.declared.insn.Insn.{Insn}
use Rattle.bpf_decode.specs.declared.rule_set.RuleSet.TheVariants.{One, Two, Three}
use Rattle.bpf_decode.specs.Class.{ClassMethod, starts, LoopsHold, MayLoop, IsMethod, IsClass, IsWithinSet, AreWithinSet}
use Rattle.bpf_decode.specs.Reading.{◌>>=◌, checked}
use Rattle.bpf_decode.specs.ImageReading.{after, is_above, unless, heads_refusal, loops_refusal, method_after, methods_after, methods_of}
use Rattle.bpf_decode.proofs.Bytes.{bind_ok, checked_ok}
use Rattle.bpf_decode.specs.Limits.{between, are_name_bytes, capacity_limit}
use Rattle.bpf_decode.proofs.ImageFields.{between-true, between-is, limit_wide, letters_are, letters_again, above_is, above_again}
use Rattle.bpf_decode.proofs.ImageLaws.{RisesFrom, rises_on, rises_first, after_ok}
use Rattle.bpf_decode.specs.declared.limits.TheConstants.{METHOD_LIMIT, NAME_LIMIT, SLOT_LIMIT}

abbrev pub Tested : Type 0
Tested = Result (List ClassMethod) ImageError

-- what was tested before, and what is still tested
abbrev pub with_front : List ClassMethod → Tested → Tested
with_front front read = read >>= λ others. Ok (front ++ others)

-- what holds of a method's numbers whatever it is, and of all methods
abbrev pub Holds : ClassMethod → Type 0
Holds m = AllFit m.instructions × LoopsHold m.loops

abbrev pub AllHold : List ClassMethod → Type 0
AllHold ms = AllByRecursion Holds ms

-- the methods before this one passed, the last of that name
pub record Progress (rules : RuleSet) (ms : List ClassMethod) (done : ℕ) (before : List ℕ) : Type 0 where
  pub so_far : with_front (take done ms) (methods_after rules done before (drop done ms)) ≡ methods_after rules 0 [] ms
  pub hold : AllHold (take done ms)

regroup : (front : List ClassMethod) (m : ClassMethod) (read : Tested) → with_front front (read >>= λ others. Ok (m ∷ others)) ≡ with_front (front ++ m ∷ []) read
regroup front m (Ok others) = ap (λ (ms : List ClassMethod). Ok ms) (sym (append_assoc front (m ∷ []) others))
regroup front m (Err e) = refl

holds-push : (ms : List ClassMethod) (m : ClassMethod) → AllHold ms → Holds m → AllHold (ms ++ m ∷ [])
holds-push [] m all one = (one, tt)
holds-push (n ∷ ms) m all one = (all.0, holds-push ms m all.1 one)

abbrev first_tested : RuleSet → ℕ → List ℕ → List ClassMethod → Result ClassMethod DecodeError → Tested
first_tested rules done name ms read = after done read >>= λ first. methods_after rules (done + 1) name ms >>= λ others. Ok (first ∷ others)

one_more : (rules : RuleSet) (done : ℕ) (before : List ℕ) (m : ClassMethod) (ms : List ClassMethod) (read : Result ClassMethod DecodeError) → method_after rules before m ≡ read → methods_after rules done before (m ∷ ms) ≡ first_tested rules done m.name ms read
unfolding methods_after
one_more rules done before m ms read h = ap (first_tested rules done m.name ms) h

-- the method at that place and those after it
here : (ms : List ClassMethod) (done : ℕ) (m : ClassMethod) → done < length ms → m ≡ get_or ms done m → drop done ms ≡ m ∷ drop (done + 1) ms
here ms done m lt is = drop_more ms done m lt ∙ ap (λ (x : ClassMethod). x ∷ drop (done + 1) ms) (sym is)

pub goes_on : (rules : RuleSet) (ms : List ClassMethod) (done : ℕ) (before : List ℕ) (m : ClassMethod) → done < length ms → m ≡ get_or ms done m → method_after rules before m ≡ Ok m → Holds m → Progress rules ms done before → Progress rules ms (done + 1) m.name
goes_on rules ms done before m lt is h hold p =
    let front = take done ms in
    let behind = drop (done + 1) ms in
    let more : take (done + 1) ms ≡ front ++ m ∷ [] = take_more ms done m lt ∙ ap (λ (x : ClassMethod). front ++ x ∷ []) (sym is) in
    let one : with_front front (methods_after rules done before (drop done ms)) ≡ with_front (take (done + 1) ms) (methods_after rules (done + 1) m.name behind) =
    ap (λ (xs : List ClassMethod). with_front front (methods_after rules done before xs)) (here ms done m lt is) ∙ ap (with_front front) (one_more rules done before m behind (Ok m) h)
    ∙ regroup front m (methods_after rules (done + 1) m.name behind) ∙ ap (λ (xs : List ClassMethod). with_front xs (methods_after rules (done + 1) m.name behind)) (sym more) in
    record { so_far = sym one ∙ p.so_far; hold = subst (λ (xs : List ClassMethod). AllHold xs) (sym more) (holds-push front m p.hold hold) }

abbrev by_count : RuleSet → List ClassMethod → Bool → Tested
by_count rules ms b = after 0 (checked b Limit ms) >>= λ some. methods_after rules 0 [] ms

counted : (rules : RuleSet) (ms : List ClassMethod) → between 1 METHOD_LIMIT (length ms) ≡ true → methods_of rules ms ≡ methods_after rules 0 [] ms
unfolding methods_of
counted rules ms some = ap (by_count rules ms) some

pub not_counted : (rules : RuleSet) (ms : List ClassMethod) → between 1 METHOD_LIMIT (length ms) ≡ false → methods_of rules ms ≡ Err (record { methods = 0; error = Limit })
unfolding methods_of
not_counted rules ms none = ap (by_count rules ms) none

pub is_refused : (rules : RuleSet) (ms : List ClassMethod) (done : ℕ) (before : List ℕ) (m : ClassMethod) (e : DecodeError) → between 1 METHOD_LIMIT (length ms) ≡ true → done < length ms → m ≡ get_or ms done m → method_after rules before m ≡ Err e → Progress rules ms done before
    → methods_of rules ms ≡ Err (record { methods = done; error = e })
is_refused rules ms done before m e some lt is h p =
    let front = take done ms in
    let behind = drop (done + 1) ms in
    counted rules ms some ∙ sym p.so_far ∙ ap (λ (xs : List ClassMethod). with_front front (methods_after rules done before xs)) (here ms done m lt is) ∙ ap (with_front front) (one_more rules done before m behind (Err e) h)

pub all_pass : (rules : RuleSet) (ms : List ClassMethod) (done : ℕ) (before : List ℕ) → between 1 METHOD_LIMIT (length ms) ≡ true → length ms ≤ done → Progress rules ms done before → methods_of rules ms ≡ Ok ms
unfolding methods_after
all_pass rules ms done before some le p =
    counted rules ms some ∙ sym p.so_far ∙ ap (λ (xs : List ClassMethod). with_front (take done ms) (methods_after rules done before xs)) (drop_all done ms le) ∙ ap (λ (xs : List ClassMethod). Ok xs) (append-nil (take done ms) ∙ take_all done ms le)

pub all_hold : (rules : RuleSet) (ms : List ClassMethod) (done : ℕ) (before : List ℕ) → length ms ≤ done → Progress rules ms done before → AllHold ms
all_hold rules ms done before le p = subst (λ (xs : List ClassMethod). AllHold xs) (take_all done ms le) p.hold

-- ---- methods that pass are a class

abbrev above : List ℕ → List ℕ → Type 0
above before name = slice_cmp nat_cmp before name ≡ Less

-- ---- loops

abbrev after_start : Bool → ℕ → Option DecodeError → Option DecodeError
after_start b slot others = if b then others else Some (Head slot)

began : (b : Bool) (slot : ℕ) (others : Option DecodeError) → after_start b slot others ≡ None → (b ≡ true) × (others ≡ None)
began true slot others e = (refl, e)
began false slot others e = absurd cc

heads_pass : (starts : List Bool) (hs : List PlainHead) → heads_refusal starts hs ≡ None → AllByRecursion (λ h. StartAt starts h.slot) hs
heads_pass starts [] e = tt
heads_pass starts (h ∷ hs) e =
    let b = began (get_or starts h.slot false) h.slot (heads_refusal starts hs) e in
    (b.0, heads_pass starts hs b.1)

heads_pass_again : (starts : List Bool) (hs : List PlainHead) → AllByRecursion (λ h. StartAt starts h.slot) hs → heads_refusal starts hs ≡ None
heads_pass_again starts [] all = refl
heads_pass_again starts (h ∷ hs) all = ap (λ (b : Bool). after_start b h.slot (heads_refusal starts hs)) all.0 ∙ heads_pass_again starts hs all.1

passed_test : (o : Option DecodeError) (m x : ClassMethod) → unless o m ≡ Ok x → o ≡ None
passed_test None m x e = refl
passed_test (Some d) m x e = absurd cc

refuses : (d : DecodeError) → Some d ≡ None → ⊥
refuses d e = absurd cc

loops_right : (rules : RuleSet) (is : List Insn) (loops : Option PlainLoops) → LoopsHold loops → loops_refusal rules is loops ≡ None → AreLoopsOf (starts is) loops × MayLoop rules loops
loops_right One is None hold e = (tt, refl)
loops_right Two is None hold e = (tt, refl)
loops_right Three is None hold e = (tt, tt)
loops_right One is (Some l) hold e = absurd (refuses Limit e)
loops_right Two is (Some l) hold e = absurd (refuses Limit e)
loops_right Three is (Some l) hold e = ((hold.0, heads_pass (starts is) l.heads e, hold.1), tt)

loops_pass : (rules : RuleSet) (is : List Insn) (loops : Option PlainLoops) (m x : ClassMethod) → LoopsHold loops → unless (loops_refusal rules is loops) m ≡ Ok x → AreLoopsOf (starts is) loops × MayLoop rules loops
loops_pass rules is loops m x hold e = loops_right rules is loops hold (passed_test (loops_refusal rules is loops) m x e)

not_some : (l : PlainLoops) → Some l ≡ None → ⊥
not_some l e = absurd cc

loops_again : (rules : RuleSet) (is : List Insn) (loops : Option PlainLoops) → AreLoopsOf (starts is) loops → MayLoop rules loops → loops_refusal rules is loops ≡ None
loops_again One is None are may = refl
loops_again Two is None are may = refl
loops_again Three is None are may = refl
loops_again One is (Some l) are may = absurd (not_some l may)
loops_again Two is (Some l) are may = absurd (not_some l may)
loops_again Three is (Some l) are may = heads_pass_again (starts is) l.heads are.1

method_passes : (rules : RuleSet) (before : List ℕ) (m x : ClassMethod) → Holds m → method_after rules before m ≡ Ok x → IsMethod m × above before m.name × IsWithinSet rules m
method_passes rules before m x hold e =
    let a = bind_ok (checked (between 1 NAME_LIMIT (length m.name)) Name m) (λ y. checked (are_name_bytes m.name) Name m >>= λ y. checked (is_above before m.name) Order m >>= λ y. checked (between 1 3 m.flags) Flags m >>= λ y. checked (between 0 (capacity_limit rules) m.in_cap) Limit m >>= λ y. checked (between 0 (capacity_limit rules) m.out_cap) Limit m >>= λ y. checked (between 1 SLOT_LIMIT (slot_total m.instructions)) Limit m >>= λ y. unless (loops_refusal rules m.instructions m.loops) m) x e in
    let b = bind_ok (checked (are_name_bytes m.name) Name m) (λ y. checked (is_above before m.name) Order m >>= λ y. checked (between 1 3 m.flags) Flags m >>= λ y. checked (between 0 (capacity_limit rules) m.in_cap) Limit m >>= λ y. checked (between 0 (capacity_limit rules) m.out_cap) Limit m >>= λ y. checked (between 1 SLOT_LIMIT (slot_total m.instructions)) Limit m >>= λ y. unless (loops_refusal rules m.instructions m.loops) m) x a.2 in
    let c = bind_ok (checked (is_above before m.name) Order m) (λ y. checked (between 1 3 m.flags) Flags m >>= λ y. checked (between 0 (capacity_limit rules) m.in_cap) Limit m >>= λ y. checked (between 0 (capacity_limit rules) m.out_cap) Limit m >>= λ y. checked (between 1 SLOT_LIMIT (slot_total m.instructions)) Limit m >>= λ y. unless (loops_refusal rules m.instructions m.loops) m) x b.2 in
    let d = bind_ok (checked (between 1 3 m.flags) Flags m) (λ y. checked (between 0 (capacity_limit rules) m.in_cap) Limit m >>= λ y. checked (between 0 (capacity_limit rules) m.out_cap) Limit m >>= λ y. checked (between 1 SLOT_LIMIT (slot_total m.instructions)) Limit m >>= λ y. unless (loops_refusal rules m.instructions m.loops) m) x c.2 in
    let f = bind_ok (checked (between 0 (capacity_limit rules) m.in_cap) Limit m) (λ y. checked (between 0 (capacity_limit rules) m.out_cap) Limit m >>= λ y. checked (between 1 SLOT_LIMIT (slot_total m.instructions)) Limit m >>= λ y. unless (loops_refusal rules m.instructions m.loops) m) x d.2 in
    let g = bind_ok (checked (between 0 (capacity_limit rules) m.out_cap) Limit m) (λ y. checked (between 1 SLOT_LIMIT (slot_total m.instructions)) Limit m >>= λ y. unless (loops_refusal rules m.instructions m.loops) m) x f.2 in
    let k = bind_ok (checked (between 1 SLOT_LIMIT (slot_total m.instructions)) Limit m) (λ y. unless (loops_refusal rules m.instructions m.loops) m) x g.2 in
    let sized = between-true 1 NAME_LIMIT (length m.name) (checked_ok (between 1 NAME_LIMIT (length m.name)) Name m a.0 a.1).0 in
    let letters = letters_are m.name (checked_ok (are_name_bytes m.name) Name m b.0 b.1).0 in
    let rises = above_is before m.name (checked_ok (is_above before m.name) Order m c.0 c.1).0 in
    let flags = between-true 1 3 m.flags (checked_ok (between 1 3 m.flags) Flags m d.0 d.1).0 in
    let read = between-true 0 (capacity_limit rules) m.in_cap (checked_ok (between 0 (capacity_limit rules) m.in_cap) Limit m f.0 f.1).0 in
    let written = between-true 0 (capacity_limit rules) m.out_cap (checked_ok (between 0 (capacity_limit rules) m.out_cap) Limit m g.0 g.1).0 in
    let slots = between-true 1 SLOT_LIMIT (slot_total m.instructions) (checked_ok (between 1 SLOT_LIMIT (slot_total m.instructions)) Limit m k.0 k.1).0 in
    let loops = loops_pass rules m.instructions m.loops m x hold.1 k.2 in
    (record { named = sized.0; short = sized.1; letters = letters; some_flag = flags.0; known_flags = flags.1; in_cap = omega (arith, read.1, limit_wide rules); out_cap = omega (arith, written.1, limit_wide rules); some_slot = slots.0; slots = slots.1; fit = hold.0; loops = loops.0 }, rises, record { in_cap = read.1; out_cap = written.1; loops = loops.1 })

method_again : (rules : RuleSet) (before : List ℕ) (m : ClassMethod) → IsMethod m → IsWithinSet rules m → above before m.name → method_after rules before m ≡ Ok m
method_again rules before m h within rises =
    rw (
      between-is 1 NAME_LIMIT (length m.name) h.named h.short,
      letters_again m.name h.letters,
      above_again before m.name rises,
      between-is 1 3 m.flags h.some_flag h.known_flags,
      between-is 0 (capacity_limit rules) m.in_cap (omega arith) within.in_cap,
      between-is 0 (capacity_limit rules) m.out_cap (omega arith) within.out_cap,
      between-is 1 SLOT_LIMIT (slot_total m.instructions) h.some_slot h.slots,
      loops_again rules m.instructions m.loops h.loops within.loops,
    ) refl

methods_pass : (rules : RuleSet) (done : ℕ) (before : List ℕ) (ms xs : List ClassMethod) → AllHold ms → methods_after rules done before ms ≡ Ok xs → AllByRecursion IsMethod ms × RisesFrom before ms × AreWithinSet rules ms
unfolding methods_after
methods_pass rules done before [] xs fit e = (tt, tt, tt)
methods_pass rules done before (m ∷ ms) xs fit e =
    let a = bind_ok (after done (method_after rules before m)) (λ first. methods_after rules (done + 1) m.name ms >>= λ others. Ok (first ∷ others)) xs e in
    let b = bind_ok (methods_after rules (done + 1) m.name ms) (λ others. Ok (a.0 ∷ others)) xs a.2 in
    let first = method_passes rules before m a.0 fit.0 (after_ok done (method_after rules before m) a.0 a.1) in
    let others = methods_pass rules (done + 1) m.name ms b.0 fit.1 b.1 in
    ((first.0, others.0), (first.1, others.1), (first.2, others.2))

methods_again : (rules : RuleSet) (done : ℕ) (before : List ℕ) (ms : List ClassMethod) → AllByRecursion IsMethod ms → AreWithinSet rules ms → RisesFrom before ms → methods_after rules done before ms ≡ Ok ms
unfolding methods_after
methods_again rules done before [] all within rises = refl
methods_again rules done before (m ∷ ms) all within rises =
    ap (first_tested rules done m.name ms) (method_again rules before m all.0 within.0 rises.0) ∙ ap (λ (r : Tested). r >>= λ others. Ok (m ∷ others)) (methods_again rules (done + 1) m.name ms all.1 within.1 rises.1)

pub class_again : (rules : RuleSet) (ms : List ClassMethod) → IsClass ms → AreWithinSet rules ms → methods_of rules ms ≡ Ok ms
class_again rules ms class within = counted rules ms (between-is 1 METHOD_LIMIT (length ms) class.some class.limit) ∙ methods_again rules 0 [] ms class.methods within (rises_first ms class.methods class.names)

abbrev passed : List ClassMethod → Tested
passed ms = Ok ms

pub class_passes : (rules : RuleSet) (ms xs : List ClassMethod) → AllHold ms → methods_of rules ms ≡ Ok xs → IsClass ms × AreWithinSet rules ms
unfolding methods_of
class_passes rules ms xs fit e =
    let a = bind_ok (after 0 (checked (between 1 METHOD_LIMIT (length ms)) Limit ms)) (λ some. methods_after rules 0 [] ms) xs e in
    let some = between-true 1 METHOD_LIMIT (length ms) (checked_ok (between 1 METHOD_LIMIT (length ms)) Limit ms a.0 (after_ok 0 (checked (between 1 METHOD_LIMIT (length ms)) Limit ms) a.0 a.1)).0 in
    let all = methods_pass rules 0 [] ms xs fit a.2 in
    (record { some = some.0; limit = some.1; methods = all.0; names = rises_on [] ms all.1 }, all.2)

-- refused methods are no class
pub refused_is_none : (rules : RuleSet) (ms : List ClassMethod) (e : ImageError) → methods_of rules ms ≡ Err e → IsClass ms → AreWithinSet rules ms → ⊥
refused_is_none rules ms e h class within =
    let both : Err e ≡ passed ms = sym h ∙ class_again rules ms class within in
    cc
