-- What is known of the stack's slots stays true over loads, stores and a helper's range.
use Rattle.std.proofs.Common.{◌≡◌, ℕ, zero, suc, ◌+◌, ◌*◌, ◌/◌, ◌%◌, ◌<◌, ◌≤◌, List, [], ◌∷◌, length, Option, Some, None, Bool, true, false, cond, refl, ap, ◌∙◌, sym, subst, arith}
use Rattle.std.specs.Prelude.{slice_get, slice_set, ◌==◌, ◌&&◌, nat_lt}
use Rattle.std.proofs.lemmas.Bool.{and_parts, eqb-true}
use Rattle.std.proofs.lemmas.Bool.Decides.{nat_tests}
use Rattle.std.proofs.lemmas.Option.{none-some, same_Some}
use Rattle.bpf_decode.specs.declared.value.Value.{Value}
use Rattle.bpf_decode.specs.declared.value.Value.TheVariants as values
use Rattle.abstract_num.specs.Plain.{Plain, Holds, any}
use Rattle.abstract_num.specs.Keeping.{AnyHolds}
use Rattle.abstract_regs.specs.Kind.{PlainKind, Unset, Num, Ptr, HoldsKind, is_unset, is_ptr}
use Rattle.abstract_regs.specs.declared.content.Content.{Content}
use Rattle.abstract_regs.specs.declared.content.Content.TheVariants.{Nothing, Pointer}
use Rattle.abstract_regs.specs.Slots.{Span, touches, access_span, range_span, whole_slot, overwritten, spoiled, has, meets}
use Rattle.abstract_regs.specs.Frame.{HoldsEach}
use Rattle.abstract_regs.specs.Moves.{value_at, Touched, IsNumber}

-- ---- kinds of slots

number_kept : (k : Plain) (c : Option Value) → HoldsKind (Num k) c → IsNumber c
number_kept k None h = h
number_kept k (Some (values.Num n)) h = h.fits
number_kept k (Some (values.Ptr r at)) h = h

any_number : AnyHolds → (c : Option Value) → IsNumber c → HoldsKind (Num any) c
any_number law None h = h
any_number law (Some (values.Num n)) h = law n h
any_number law (Some (values.Ptr r at)) h = h

overwritten_holds : AnyHolds → (x : PlainKind) (c d : Option Value) → HoldsKind x c → (IsNumber c → IsNumber d) → HoldsKind (overwritten x) d
overwritten_holds law Unset c d h n = tt
overwritten_holds law (Num k) c d h n = any_number law d (n (number_kept k c h))
overwritten_holds law (Ptr r k) c d h n = tt

spoiled_one : AnyHolds → (b : Bool) (x : PlainKind) (c d : Option Value) → HoldsKind x c → (b ≡ false → d ≡ c) → (IsNumber c → IsNumber d) → HoldsKind (cond b (overwritten x) x) d
spoiled_one law true x c d h same n = overwritten_holds law x c d h n
spoiled_one law false x c d h same n = subst (HoldsKind x) (sym (same refl)) h

none_there : (n : ℕ) → length {A = Option Value} [] ≡ suc n → ⊥
none_there n e = omega (arith, e)

pub spoiled_holds : AnyHolds → (span : Option Span) (j : ℕ) (xs : List PlainKind) (vs ws : List (Option Value)) → HoldsEach xs vs → length ws ≡ length vs → ((i : ℕ) → touches span (j + i) ≡ false → value_at ws i ≡ value_at vs i) → ((i : ℕ) → IsNumber (value_at vs i) → IsNumber (value_at ws i)) → HoldsEach (spoiled span j xs) ws
spoiled_holds law span j [] vs ws h e same n = tt
spoiled_holds law span j (x ∷ xs) [] ws h e same n = absurd h
spoiled_holds law span j (x ∷ xs) (v ∷ vs) [] h e same n = absurd (none_there (length vs) e)
spoiled_holds law span j (x ∷ xs) (v ∷ vs) (w ∷ ws) h e same n =
    let here : j + 0 ≡ j = omega arith in
    let less : length ws ≡ length vs = omega (arith, e) in (
      spoiled_one law (touches span j) x v w h.0 (λ out. same 0 (ap (touches span) here ∙ out)) (n 0),
      spoiled_holds law span (j + 1) xs vs ws h.1 less
          (λ i out. let next : j + suc i ≡ j + 1 + i = omega arith in same (suc i) (ap (touches span) next ∙ out)) (λ i. n (suc i)),
    )

others_hold : (xs : List PlainKind) (vs ws : List (Option Value)) → HoldsEach xs vs → length ws ≡ length vs → ((i : ℕ) → value_at ws i ≡ value_at vs i) → HoldsEach xs ws
others_hold [] vs ws h e same = tt
others_hold (z ∷ xs) [] ws h e same = absurd h
others_hold (z ∷ xs) (v ∷ vs) [] h e same = absurd (none_there (length vs) e)
others_hold (z ∷ xs) (v ∷ vs) (w ∷ ws) h e same = (subst (HoldsKind z) (sym (same 0)) h.0, others_hold xs vs ws h.1 (omega (arith, e)) (λ i. same (suc i)))

pub set_holds : (xs : List PlainKind) (vs ws : List (Option Value)) (j : ℕ) (y : PlainKind) (x : Value) → HoldsEach xs vs → HoldsKind y (Some x) → length ws ≡ length vs → (j < length vs → value_at ws j ≡ Some x) → ((i : ℕ) → (i ≡ j → ⊥) → value_at ws i ≡ value_at vs i) → HoldsEach (slice_set xs j y) ws
set_holds [] vs ws j y x h k e at same = tt
set_holds (z ∷ xs) [] ws j y x h k e at same = absurd h
set_holds (z ∷ xs) (v ∷ vs) [] j y x h k e at same = absurd (none_there (length vs) e)
set_holds (z ∷ xs) (v ∷ vs) (w ∷ ws) zero y x h k e at same =
    (subst (HoldsKind y) (sym (at (omega arith))) k, others_hold xs vs ws h.1 (omega (arith, e)) (λ i. same (suc i) (λ never. omega (arith, never))))
set_holds (z ∷ xs) (v ∷ vs) (w ∷ ws) (suc j) y x h k e at same =
    (subst (HoldsKind z) (sym (same 0 (λ never. omega (arith, never)))) h.0, set_holds xs vs ws j y x h.1 k (omega (arith, e)) (λ lt. at (omega (arith, lt))) (λ i ne. same (suc i) (λ s. ne (omega (arith, s)))))

-- ---- what a load finds

test_out : (b c : Bool) (rest : Bool) → cond (b && c) true rest ≡ false → b ≡ true → (c ≡ false) × (rest ≡ false)
test_out true true rest e f = absurd cc
test_out true false rest e f = (refl, e)
test_out false c rest e f = absurd cc

rest_out : (b rest : Bool) → cond b true rest ≡ false → rest ≡ false
rest_out true rest e = absurd cc
rest_out false rest e = e

pub meets_none : (content : Content) (span : Option Span) (j : ℕ) (xs : List PlainKind) (i : ℕ) (x : PlainKind) → meets content span j xs ≡ false → slice_get xs i ≡ Some x → touches span (j + i) ≡ true → has content x ≡ false
meets_none content span j [] i x e at t = absurd (none-some x at)
meets_none content span j (y ∷ xs) zero x e at t =
    let here : j + 0 ≡ j = omega arith in
    let same : y ≡ x = same_Some y x at in
    subst (λ (z : PlainKind). has content z ≡ false) same (test_out (touches span j) (has content y) (meets content span (j + 1) xs) e (sym (ap (touches span) here) ∙ t)).0
meets_none content span j (y ∷ xs) (suc i) x e at t =
    let next : j + suc i ≡ j + 1 + i = omega arith in
    meets_none content span (j + 1) xs i x (rest_out (touches span j && has content y) (meets content span (j + 1) xs) e) at (sym (ap (touches span) next) ∙ t)

some_there : (xs : List PlainKind) (i : ℕ) → i < length xs → (x : PlainKind) × (slice_get xs i ≡ Some x)
some_there [] i lt = absurd (omega (arith, lt))
some_there (x ∷ xs) zero lt = (x, refl)
some_there (x ∷ xs) (suc i) lt = some_there xs i (omega (arith, lt))

pub inside_of : (xs : List PlainKind) (i : ℕ) (x : PlainKind) → slice_get xs i ≡ Some x → i < length xs
inside_of [] i x e = absurd (none-some x e)
inside_of (y ∷ xs) zero x e = omega arith
inside_of (y ∷ xs) (suc i) x e = let less = inside_of xs i x e in omega (arith, less)

numbered : (x : PlainKind) (c : Option Value) → HoldsKind x c → is_unset x ≡ false → is_ptr x ≡ false → IsNumber c
numbered Unset c h a b = absurd cc
numbered (Num k) c h a b = number_kept k c h
numbered (Ptr r k) c h a b = absurd cc

pub held_slot : (xs : List PlainKind) (vs : List (Option Value)) (i : ℕ) (x : PlainKind) → HoldsEach xs vs → slice_get xs i ≡ Some x → HoldsKind x (value_at vs i)
held_slot [] vs i x h e = absurd (none-some x e)
held_slot (y ∷ xs) [] i x h e = absurd h
held_slot (y ∷ xs) (v ∷ vs) zero x h e = subst (λ (z : PlainKind). HoldsKind z v) (same_Some y x e) h.0
held_slot (y ∷ xs) (v ∷ vs) (suc i) x h e = held_slot xs vs i x h.1 e

pub at_start : (span : Option Span) (i : ℕ) → touches span (0 + i) ≡ touches span i
at_start span i = let same : 0 + i ≡ i = omega arith in ap (touches span) same

-- each slot that bytes reach is a number, where none that they may touch is unset or a place
pub all_numbers : (span : Option Span) (xs : List PlainKind) (vs : List (Option Value)) → length xs ≡ length vs → HoldsEach xs vs → meets Nothing span 0 xs ≡ false → meets Pointer span 0 xs ≡ false → (i : ℕ) → i < length vs → touches span i ≡ true → IsNumber (value_at vs i)
all_numbers span xs vs long h a b i lt t =
    let there = some_there xs i (omega (arith, long, lt)) in
    let x = there.0 in
    numbered x (value_at vs i) (held_slot xs vs i x h there.1) (meets_none Nothing span 0 xs i x a there.1 (at_start span i ∙ t)) (meets_none Pointer span 0 xs i x b there.1 (at_start span i ∙ t))

-- ---- where an access is

-- a slot that bytes of an access have is one that they may touch
pub access_touches : (place : Plain) (at w j : ℕ) → Holds place at → Touched at w j → touches (access_span (Some place) w) j ≡ true
access_touches place at w j h t =
    let low = h.above in
    let high = h.below in
    let a = t.below in
    let b = t.above in
    let first : nat_lt (8 * j) (place.high + w) ≡ true = grind (arith, nat_tests) in
    let second : nat_lt place.low (8 * j + 8) ≡ true = grind (arith, nat_tests) in
    rw (first, second) refl

pub range_touches : (at_kind len : Plain) (at n j : ℕ) → Holds at_kind at → Holds len n → 1 ≤ n → Touched at n j → touches (range_span at_kind len) j ≡ true
range_touches at_kind len at n j h k some t =
    let low = h.above in
    let high = h.below in
    let most = k.below in
    let a = t.below in
    let b = t.above in
    let not_none : (len.high == 0) ≡ false = grind (arith, nat_tests) in
    let first : nat_lt (8 * j) (at_kind.high + len.high) ≡ true = grind (arith, nat_tests) in
    let second : nat_lt at_kind.low (8 * j + 8) ≡ true = grind (arith, nat_tests) in
    rw (not_none, first, second) refl

-- an access that is whole is at a multiple of eight, and is eight bytes
pub record Whole (place : Plain) (w j : ℕ) : Type 0 where
  pub width : w ≡ 8
  pub one : place.low ≡ place.high
  pub at : place.low ≡ 8 * j

whole_if : (place : Plain) (w j : ℕ) (b : Bool) → b ≡ ((w == 8) && ((place.low == place.high) && (place.low % 8 == 0))) → cond b (Some (place.low / 8)) None ≡ Some j → Whole place w j
whole_if place w j false e h = absurd (none-some j h)
whole_if place w j true e h =
    let one = and_parts (w == 8) ((place.low == place.high) && (place.low % 8 == 0)) (sym e) in
    let two = and_parts (place.low == place.high) (place.low % 8 == 0) one.1 in
    let rest : place.low % 8 ≡ 0 = eqb-true (place.low % 8) 0 two.1 in
    let slot : place.low / 8 ≡ j = same_Some (place.low / 8) j h in
    record { width = eqb-true w 8 one.0; one = eqb-true place.low place.high two.0; at = omega (arith, rest, slot) }

pub whole_is : (place : Plain) (w j : ℕ) → whole_slot (Some place) w ≡ Some j → Whole place w j
whole_is place w j h = whole_if place w j ((w == 8) && ((place.low == place.high) && (place.low % 8 == 0))) refl h

pub one_place : (place : Plain) (at w j : ℕ) → Holds place at → Whole place w j → at ≡ 8 * j
one_place place at w j h whole =
    let low = h.above in
    let high = h.below in
    let one = whole.one in
    let is = whole.at in
    omega arith
