-- Slots that bytes may touch: from the first to the one before the end, in lists of kinds.
use Rattle.std.proofs.Common.{◌≡◌, ℕ, zero, suc, ◌+◌, ◌/◌, ◌<◌, ◌≤◌, List, [], ◌∷◌, length, Option, Some, None, Bool, true, false, cond, refl, ap, ◌∙◌, sym, arith, get_or, set}
use Rattle.std.specs.Prelude.{slice_set, ◌&&◌, nat_lt, min}
use Rattle.std.proofs.lemmas.Bool.{false≢true}
use Rattle.std.proofs.lemmas.Bool.Decides.{nat_tests}
use Rattle.bpf_decode.specs.declared.insn.Operand.{Operand}
use Rattle.bpf_decode.specs.declared.insn.Operand.TheVariants.{Immediate, Register}
use Rattle.abstract_regs.specs.declared.content.Content.{Content}
use Rattle.abstract_regs.specs.Kind.{PlainKind}
use Rattle.abstract_regs.specs.Slots.{Span, touches, overwritten, spoiled, has, meets}
use Rattle.abstract_regs.specs.Frame.{PlainFrame}
use Rattle.abstract_regs.specs.Flow.{with_both}

-- ---- which slots

pub untouched_behind : (s : Span) (j : ℕ) → (s.high + 7) / 8 ≤ j → touches (Some s) j ≡ false
untouched_behind s j h = grind (arith, nat_tests)

pub touched_between : (s : Span) (j : ℕ) → s.low / 8 ≤ j → j < (s.high + 7) / 8 → touches (Some s) j ≡ true
touched_between s j h k = grind (arith, nat_tests)

-- ---- overwritten in part

pub spoiled_none : (j : ℕ) (xs : List PlainKind) → spoiled None j xs ≡ xs
spoiled_none j [] = refl
spoiled_none j (x ∷ xs) = ap (λ t. x ∷ t) (spoiled_none (j + 1) xs)

-- the slots below n alone
abbrev pub spoiled_below : Option Span → ℕ → ℕ → List PlainKind → List PlainKind
spoiled_below span n j [] = []
spoiled_below span n j (x ∷ xs) = cond (nat_lt j n && touches span j) (overwritten x) x ∷ spoiled_below span n (j + 1) xs

pub below_first : (s : Span) (n j : ℕ) (xs : List PlainKind) → n ≤ s.low / 8 → spoiled_below (Some s) n j xs ≡ xs
below_first s n j [] le = refl
below_first s n j (x ∷ xs) le =
    let out : (nat_lt j n && touches (Some s) j) ≡ false = grind (arith, nat_tests) in
    ap (λ b. cond b (overwritten x) x ∷ spoiled_below (Some s) n (j + 1) xs) out ∙ ap (λ t. x ∷ t) (below_first s n (j + 1) xs le)

pub below_all : (s : Span) (n j : ℕ) (xs : List PlainKind) → min (j + length xs) ((s.high + 7) / 8) ≤ n → spoiled_below (Some s) n j xs ≡ spoiled (Some s) j xs
below_all s n j [] le = refl
below_all s n j (x ∷ xs) le =
    let same : (nat_lt j n && touches (Some s) j) ≡ touches (Some s) j = grind (arith, nat_tests) in
    let less : min (j + 1 + length xs) ((s.high + 7) / 8) ≤ n = omega arith in
    ap (λ b. cond b (overwritten x) x ∷ spoiled_below (Some s) n (j + 1) xs) same
    ∙ ap (λ t. cond (touches (Some s) j) (overwritten x) x ∷ t) (below_all s n (j + 1) xs less)

below_same : (s : Span) (n j : ℕ) (xs : List PlainKind) → n < j → spoiled_below (Some s) (n + 1) j xs ≡ spoiled_below (Some s) n j xs
below_same s n j [] lt = refl
below_same s n j (x ∷ xs) lt =
    let same : (nat_lt j (n + 1) && touches (Some s) j) ≡ (nat_lt j n && touches (Some s) j) = grind (arith, nat_tests) in
    ap (λ b. cond b (overwritten x) x ∷ spoiled_below (Some s) (n + 1) (j + 1) xs) same
    ∙ ap (λ t. cond (nat_lt j n && touches (Some s) j) (overwritten x) x ∷ t) (below_same s n (j + 1) xs (omega arith))

-- one slot more
pub below_more : (s : Span) (n j i : ℕ) (xs : List PlainKind) (d : PlainKind) → n ≡ j + i → i < length xs → touches (Some s) n ≡ true
    → set (spoiled_below (Some s) n j xs) i (overwritten (get_or (spoiled_below (Some s) n j xs) i d)) ≡ spoiled_below (Some s) (n + 1) j xs
below_more s n j i [] d e lt t = absurd (omega (arith, lt))
below_more s n j zero (x ∷ xs) d e lt t =
    let here : n ≡ j = omega (arith, e) in
    let at : touches (Some s) j ≡ true = sym (ap (touches (Some s)) here) ∙ t in
    let old : (nat_lt j n && touches (Some s) j) ≡ false = grind (arith, nat_tests) in
    let new : (nat_lt j (n + 1) && touches (Some s) j) ≡ true = grind (arith, nat_tests) in
    ap (λ b. overwritten (cond b (overwritten x) x) ∷ spoiled_below (Some s) n (j + 1) xs) old
    ∙ ap (λ t. overwritten x ∷ t) (sym (below_same s n (j + 1) xs (omega (arith, here))))
    ∙ ap (λ b. cond b (overwritten x) x ∷ spoiled_below (Some s) (n + 1) (j + 1) xs) (sym new)
below_more s n j (suc i) (x ∷ xs) d e lt t =
    let next : n ≡ j + 1 + i = omega (arith, e) in
    let less : i < length xs = omega (arith, lt) in
    let same : (nat_lt j n && touches (Some s) j) ≡ (nat_lt j (n + 1) && touches (Some s) j) = grind (arith, nat_tests) in
    ap (λ t. cond (nat_lt j n && touches (Some s) j) (overwritten x) x ∷ t) (below_more s n (j + 1) i xs d next less t)
    ∙ ap (λ b. cond b (overwritten x) x ∷ spoiled_below (Some s) (n + 1) (j + 1) xs) same

-- ---- what is met

pub meets_nowhere : (content : Content) (j : ℕ) (xs : List PlainKind) → meets content None j xs ≡ false
meets_nowhere content j [] = refl
meets_nowhere content j (x ∷ xs) = meets_nowhere content (j + 1) xs

-- of a slot that may have one of the bytes
pub meets_at : (content : Content) (span : Option Span) (j i : ℕ) (xs : List PlainKind) (d : PlainKind) → i < length xs → touches span (j + i) ≡ true → has content (get_or xs i d) ≡ true → meets content span j xs ≡ true
meets_at content span j i [] d lt t h = absurd (omega (arith, lt))
meets_at content span j zero (x ∷ xs) d lt t h =
    let here : j + 0 ≡ j = omega arith in
    ap (λ b. cond (b && has content x) true (meets content span (j + 1) xs)) (sym (ap (touches span) here) ∙ t)
    ∙ ap (λ b. cond b true (meets content span (j + 1) xs)) h
meets_at content span j (suc i) (x ∷ xs) d lt t h =
    let next : j + suc i ≡ j + 1 + i = omega arith in
    let less : i < length xs = omega (arith, lt) in
    let rest = meets_at content span (j + 1) i xs d less (sym (ap (touches span) next) ∙ t) h in
    either_true (touches span j && has content x) (meets content span (j + 1) xs) rest
  where
    either_true : (b c : Bool) → c ≡ true → cond b true c ≡ true
    either_true true c e = refl
    either_true false c e = e

neither : (a b c : Bool) → (a ≡ true → b ≡ false) → c ≡ false → cond (a && b) true c ≡ false
neither true true c h e = absurd (false≢true (sym (h refl)))
neither true false c h e = e
neither false b c h e = e

pub meets_nothing : (content : Content) (span : Option Span) (j : ℕ) (xs : List PlainKind) (d : PlainKind) → ((i : ℕ) → i < length xs → touches span (j + i) ≡ true → has content (get_or xs i d) ≡ false) → meets content span j xs ≡ false
meets_nothing content span j [] d h = refl
meets_nothing content span j (x ∷ xs) d h =
    let here : j + 0 ≡ j = omega arith in
    neither (touches span j) (has content x) (meets content span (j + 1) xs)
    (λ t. h 0 (omega arith) (ap (touches span) here ∙ t))
    (meets_nothing content span (j + 1) xs d (λ i lt t. let next : j + suc i ≡ j + 1 + i = omega arith in h (suc i) (omega (arith, lt)) (ap (touches span) next ∙ t)))

-- ---- the list without slots

-- ---- other kinds of what was compared, put in twice

set_again : (xs : List PlainKind) (d : ℕ) (a b : PlainKind) → slice_set (slice_set xs d a) d b ≡ slice_set xs d b
set_again [] d a b = refl
set_again (x ∷ xs) zero a b = refl
set_again (x ∷ xs) (suc d) a b = ap (λ t. x ∷ t) (set_again xs d a b)

set_both_again : (xs : List PlainKind) (d q : ℕ) (a b c e : PlainKind) → slice_set (slice_set (slice_set (slice_set xs d a) q b) d c) q e ≡ slice_set (slice_set xs d c) q e
set_both_again [] d q a b c e = refl
set_both_again (x ∷ xs) zero zero a b c e = refl
set_both_again (x ∷ xs) zero (suc q) a b c e = ap (λ t. c ∷ t) (set_again xs q b e)
set_both_again (x ∷ xs) (suc d) zero a b c e = ap (λ t. e ∷ t) (set_again xs d a c)
set_both_again (x ∷ xs) (suc d) (suc q) a b c e = ap (λ t. x ∷ t) (set_both_again xs d q a b c e)

pub both_again : (f : PlainFrame) (dst : ℕ) (source : Operand) (s t : PlainKind × PlainKind) → with_both (with_both f dst source s) dst source t ≡ with_both f dst source t
both_again f dst (Immediate imm) s t = ap (λ (xs : List PlainKind). record { registers = xs; slots = f.slots; links = f.links }) (set_again f.registers dst s.0 t.0)
both_again f dst (Register q) s t = ap (λ (xs : List PlainKind). record { registers = xs; slots = f.slots; links = f.links }) (set_both_again f.registers dst q s.0 s.1 t.0 t.1)
