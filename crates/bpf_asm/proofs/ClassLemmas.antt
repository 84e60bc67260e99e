-- Lemmas on the reading of classes.
use Rattle.std.proofs.Common.{◌≡◌, ◌⊎◌, inl, inr, ℕ, ◌+◌, ◌≤◌, ◌<◌, Bool, true, false, ◌&&◌, IsTrue, List, [], ◌∷◌, ◌++◌, length, take, drop, get_or, ◌-◌, Option, None, Result, Ok, Err, refl, sym, ap, ◌∙◌, arith}
use Rattle.std.proofs.lemmas.List.{drop_more, drop_all, take_all, length-drop}
use Rattle.std.specs.List.{before_first}
use Rattle.asm_lines.specs.declared.statement.Statement.{Statement}
use Rattle.asm_lines.specs.declared.statement.Statement.TheVariants.{Empty, Label, Rules, Directive, Instruction}
use Rattle.std.proofs.lemmas.Bool.Decides.{nat_tests}
use Rattle.bpf_decode.specs.Instruction.{slot_total}
use Rattle.bpf_decode.specs.declared.rule_set.RuleSet.{RuleSet}
use Rattle.bpf_decode.specs.declared.rule_set.RuleSet.TheVariants.{One, Two, Three}
use Rattle.bpf_decode.specs.declared.insn.Insn.{Insn}
use Rattle.loop_heads.specs.Loops.{PlainLoops}
use Rattle.bpf_decode.specs.Class.{ClassMethod, Class}
use Rattle.bpf_decode.specs.declared.image_error.ImageError.{ImageError}
use Rattle.bpf_decode.specs.Reading.{◌>>=◌}
use Rattle.bpf_decode.specs.Limits.{between, are_name_bytes, capacity_limit, is_capacity}
use Rattle.bpf_decode.specs.ImageReading.{after, is_above, unless, loops_refusal, method_after, methods_after, methods_of}
use Rattle.asm_lines.specs.declared.fault.AsmFault.{AsmFault}
use Rattle.asm_lines.specs.declared.fault.AsmError.{AsmError}
use Rattle.asm_lines.specs.Fault.{no_memory}
use Rattle.asm_lines.specs.Headers.{MethodHeader, is_header}
use Rattle.asm_lines.specs.declared.draft.Draft.{Draft}
use Rattle.bpf_asm.specs.Classes.{last_name, is_directive, is_within_set, method_at, next_method, class_from, with_rules, ruled_from}
use Rattle.bpf_asm.specs.Faults.{IsTooWide}
use Rattle.bpf_decode.specs.Limits.{is_method_name}
use Rattle.bpf_decode.specs.declared.limits.TheConstants.{METHOD_LIMIT, NAME_LIMIT, CAPACITY_LIMIT, SLOT_LIMIT}

and_left : (a b : Bool) → IsTrue (a && b) → a ≡ true
and_left true b h = refl
and_left false b h = absurd cc

and_right : (a b : Bool) → IsTrue (a && b) → b ≡ true
and_right true b h = h
and_right false b h = absurd cc

none_is_refused : (rules : RuleSet) (is : List Insn) (m : ClassMethod) → unless (loops_refusal rules is None) m ≡ Ok m
none_is_refused One is m = refl
none_is_refused Two is m = refl
none_is_refused Three is m = refl

-- a method whose fields pass each test is right after that name
pub passes : (rules : RuleSet) (before : List ℕ) (m : ClassMethod) → between 1 NAME_LIMIT (length m.name) ≡ true → are_name_bytes m.name ≡ true → is_above before m.name ≡ true → between 1 3 m.flags ≡ true → is_capacity rules m.in_cap ≡ true → is_capacity rules m.out_cap ≡ true → between 1 SLOT_LIMIT (slot_total m.instructions) ≡ true → m.loops ≡ None → method_after rules before m ≡ Ok m
passes rules before m a b c d e f g h = rw (a, b, c, d, e, f, g) (ap (λ (l : Option PlainLoops). unless (loops_refusal rules m.instructions l) m) h ∙ none_is_refused rules m.instructions m)

onto : (r : Result ClassMethod ImageError) (s t : Result (List ClassMethod) ImageError) (x : ClassMethod) (xs ys : List ClassMethod) → (r >>= λ first. s >>= λ others. Ok (first ∷ others)) ≡ Ok (x ∷ xs) → (s ≡ Ok xs → t ≡ Ok ys) → (r >>= λ first. t >>= λ others. Ok (first ∷ others)) ≡ Ok (x ∷ ys)
onto (Err e) s t x xs ys h g = absurd cc
onto (Ok f) (Err e) t x xs ys h g = absurd cc
onto (Ok f) (Ok others) t x xs ys h g =
    let first : f ≡ x = cc in
    let rest : others ≡ xs = cc in
    rw (g (ap (λ v. Ok v) rest), first) refl

-- one method more after right ones
pub one_more : (rules : RuleSet) (done : ℕ) (before : List ℕ) (ms : List ClassMethod) (m : ClassMethod) → methods_after rules done before ms ≡ Ok ms → method_after rules (last_name before ms) m ≡ Ok m → methods_after rules done before (ms ++ (m ∷ [])) ≡ Ok (ms ++ (m ∷ []))
unfolding methods_after
one_more rules done before [] m h k = rw k refl
one_more rules done before (x ∷ xs) m h k =
    onto (after done (method_after rules before x)) (methods_after rules (done + 1) x.name xs) (methods_after rules (done + 1) x.name (xs ++ (m ∷ []))) x xs (xs ++ (m ∷ [])) h (λ e. one_more rules (done + 1) x.name xs m e k)

-- a method of a header within the limits, whose slots are within theirs, is right after the name of
-- the last one
pub header_passes : (rules : RuleSet) (before : List ℕ) (h : MethodHeader) (m : ClassMethod) → IsTrue (is_header h) → is_within_set rules h ≡ true → is_above before h.name ≡ true → m.name ≡ h.name → m.flags ≡ h.flags → m.in_cap ≡ h.in_cap → m.out_cap ≡ h.out_cap → 1 ≤ slot_total m.instructions → slot_total m.instructions ≤ SLOT_LIMIT → m.loops ≡ None → method_after rules before m ≡ Ok m
header_passes rules before h m valid within above a b c d some few none =
    let in_three = and_left (is_method_name h.name && between 1 3 h.flags) (between 0 CAPACITY_LIMIT h.in_cap) (and_left (is_method_name h.name && between 1 3 h.flags && between 0 CAPACITY_LIMIT h.in_cap) (between 0 CAPACITY_LIMIT h.out_cap) valid) in
    let in_two = and_left (is_method_name h.name) (between 1 3 h.flags) in_three in
    passes rules before m
    (ap (λ n. between 1 NAME_LIMIT (length n)) a ∙ and_left (between 1 NAME_LIMIT (length h.name)) (are_name_bytes h.name) in_two)
    (ap are_name_bytes a ∙ and_right (between 1 NAME_LIMIT (length h.name)) (are_name_bytes h.name) in_two)
    (ap (is_above before) a ∙ above)
    (ap (between 1 3) b ∙ and_right (is_method_name h.name) (between 1 3 h.flags) in_three)
    (ap (is_capacity rules) c ∙ and_left (is_capacity rules h.in_cap) (is_capacity rules h.out_cap) within)
    (ap (is_capacity rules) d ∙ and_right (is_capacity rules h.in_cap) (is_capacity rules h.out_cap) within)
    (grind (arith, nat_tests))
    none

-- what the test of a header's capacities says
pub within_test : (rules : RuleSet) (h : MethodHeader) → h.in_cap ≤ capacity_limit rules → h.out_cap ≤ capacity_limit rules → is_within_set rules h ≡ true
within_test rules h a b =
    let read : is_capacity rules h.in_cap ≡ true = grind (arith, nat_tests) in
    let written : is_capacity rules h.out_cap ≡ true = grind (arith, nat_tests) in
    rw (read, written) refl

fits : (rules : RuleSet) (n : ℕ) → is_capacity rules n ≡ true → n ≤ capacity_limit rules
fits rules n h = grind (arith, nat_tests)

passes_limit : (rules : RuleSet) (n : ℕ) → is_capacity rules n ≡ false → capacity_limit rules < n
passes_limit rules n h = grind (arith, nat_tests)

pub test_within : (rules : RuleSet) (h : MethodHeader) → is_within_set rules h ≡ true → (h.in_cap ≤ capacity_limit rules) × (h.out_cap ≤ capacity_limit rules)
test_within rules h t =
    (fits rules h.in_cap (and_left (is_capacity rules h.in_cap) (is_capacity rules h.out_cap) t), fits rules h.out_cap (and_right (is_capacity rules h.in_cap) (is_capacity rules h.out_cap) t))

too_wide_by : (rules : RuleSet) (h : MethodHeader) (a b : Bool) → a ≡ is_capacity rules h.in_cap → b ≡ is_capacity rules h.out_cap → (a && b) ≡ false → IsTooWide rules h
too_wide_by rules h false b e f t = inl (passes_limit rules h.in_cap (sym e))
too_wide_by rules h true false e f t = inr (passes_limit rules h.out_cap (sym f))
too_wide_by rules h true true e f t = absurd cc

pub too_wide : (rules : RuleSet) (h : MethodHeader) → is_within_set rules h ≡ false → IsTooWide rules h
too_wide rules h t = too_wide_by rules h (is_capacity rules h.in_cap) (is_capacity rules h.out_cap) refl refl t

pub not_too_wide : (rules : RuleSet) (h : MethodHeader) → is_within_set rules h ≡ true → IsTooWide rules h → ⊥
not_too_wide rules h t (inl x) = let known = test_within rules h t in omega (arith, known.0)
not_too_wide rules h t (inr x) = let known = test_within rules h t in omega (arith, known.1)

-- 1 to `METHOD_LIMIT` right methods are a class's
pub is_class : (rules : RuleSet) (ms : List ClassMethod) → methods_after rules 0 [] ms ≡ Ok ms → 1 ≤ length ms → length ms ≤ METHOD_LIMIT → methods_of rules ms ≡ Ok ms
unfolding methods_of
is_class rules ms h some few =
    let counted : between 1 METHOD_LIMIT (length ms) ≡ true = grind (arith, nat_tests) in
    rw (counted, h) refl

class_step : (rules : RuleSet) (ms : List ClassMethod) (m : ClassMethod) (line : ℕ) (header : Result MethodHeader AsmFault) (rest : List Statement) → method_at rules ms line header (before_first is_directive rest) ≡ Ok m → class_from rules ms line (Directive header ∷ rest) ≡ class_from rules (ms ++ (m ∷ [])) (line + 1) rest
unfolding class_from
class_step rules ms m line header rest h = ap (λ r. next_method r (λ n. class_from rules (ms ++ (n ∷ [])) (line + 1) rest)) h

-- the lines from a place on, by the first of them
pub line_parts : (lines : List Statement) (i : ℕ) (x y : Statement) → i < length lines → x ≡ get_or lines i x → x ≡ y → drop i lines ≡ y ∷ drop (i + 1) lines
line_parts lines i x y inside at is = drop_more lines i x inside ∙ ap (λ z. z ∷ drop (i + 1) lines) (sym at ∙ is)

-- reading passes over an empty line
pub empty_goes_on : (rules : RuleSet) (ms : List ClassMethod) (line i : ℕ) (lines : List Statement) (x : Statement) → i < length lines → x ≡ get_or lines i x → x ≡ Empty → class_from rules ms line (drop i lines) ≡ class_from rules ms (line + 1) (drop (i + 1) lines)
unfolding class_from
empty_goes_on rules ms line i lines x inside at is = ap (class_from rules ms line) (line_parts lines i x Empty inside at is)

stopped : (rules : RuleSet) (ms : List ClassMethod) (e : AsmError) (line : ℕ) (header : Result MethodHeader AsmFault) (rest : List Statement) → method_at rules ms line header (before_first is_directive rest) ≡ Err e → class_from rules ms line (Directive header ∷ rest) ≡ Err e
unfolding class_from
stopped rules ms e line header rest h = ap (λ r. next_method r (λ n. class_from rules (ms ++ (n ∷ [])) (line + 1) rest)) h

-- reading stops at a method that is refused
pub class_stops : (rules : RuleSet) (ms : List ClassMethod) (e : AsmError) (line i : ℕ) (header : Result MethodHeader AsmFault) (lines : List Statement) (x : Statement) → i < length lines → x ≡ get_or lines i x → x ≡ Directive header → (e ≡ no_memory) ⊎ (method_at rules ms line header (before_first is_directive (drop (i + 1) lines)) ≡ Err e) → (e ≡ no_memory) ⊎ (class_from rules ms line (drop i lines) ≡ Err e)
class_stops rules ms e line i header lines x inside at is (inl h) = inl h
class_stops rules ms e line i header lines x inside at is (inr h) =
    inr (ap (class_from rules ms line) (line_parts lines i x (Directive header) inside at is) ∙ stopped rules ms e line header (drop (i + 1) lines) h)

-- reading goes on after a method that was read
pub class_goes_on : (rules : RuleSet) (ms : List ClassMethod) (m : ClassMethod) (line i : ℕ) (header : Result MethodHeader AsmFault) (lines : List Statement) (x : Statement) → i < length lines → x ≡ get_or lines i x → x ≡ Directive header → method_at rules ms line header (before_first is_directive (drop (i + 1) lines)) ≡ Ok m → class_from rules ms line (drop i lines) ≡ class_from rules (ms ++ (m ∷ [])) (line + 1) (drop (i + 1) lines)
class_goes_on rules ms m line i header lines x inside at is read =
    ap (class_from rules ms line) (line_parts lines i x (Directive header) inside at is) ∙ class_step rules ms m line header (drop (i + 1) lines) read

-- a rest of known length is the rest
pub rest_whole : (lines : List Statement) (k : ℕ) → take (length lines - k) (drop k lines) ≡ drop k lines
rest_whole lines k = take_all (length lines - k) (drop k lines) (omega (arith, length-drop {A = Statement} k lines))
