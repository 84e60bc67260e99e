-- Proofs: the jumps back of the first slots, and of one more.
use Rattle.std.proofs.Common.{◌≡◌, ◌⊎◌, ◌<◌, ◌≤◌, ◌+◌, ℕ, List, Option, Some, None, refl, ap, ◌∙◌, sym, subst, arith, length, ⊎_elim, [], ◌∷◌, ◌++◌, length-append}
use Rattle.std.specs.Prelude.{MatchOption, IfSome, Contains, false, true, slice_get, ◌==◌}
use Rattle.std.proofs.lemmas.Bool.{cases_lt, ne_eqb, eq-eqb}
use Rattle.std.proofs.lemmas.Option.{none-some, same_Some, slice_get_within}
use Rattle.std.proofs.lemmas.List.Elements.{Contains-append_left, Contains-push}
use Rattle.bpf_decode.specs.declared.insn.Insn.{Insn}
use Rattle.bpf_machine.specs.State.{◌>>=◌}
use Rattle.bpf_machine.specs.Typed.{fetch}
use Rattle.loop_finder.specs.declared.targets.BackJump.{BackJump}
use Rattle.loop_finder.specs.Found.{jumps_back_to, IsBackTarget}

-- of an option that is known
pub some_of : {A : Type 0} (o : Option A) (x : A) (P : Type 0) (Q : A → Type 0) → o ≡ Some x → MatchOption o P Q → Q x
some_of o x P Q e = subst (λ o. MatchOption o P Q) e

pub none_of : {A : Type 0} (o : Option A) (P : Type 0) (Q : A → Type 0) → o ≡ None → MatchOption o P Q → P
none_of o P Q e = subst (λ o. MatchOption o P Q) e

-- of the first n slots none jumps back to a slot from least on, and below what was found
abbrev pub NoneBefore : List (Option Insn) → ℕ → ℕ → Option BackJump → Type 0
NoneBefore code least n first =
    (p : ℕ) (i : Insn) (q : ℕ) → p < n → fetch code p ≡ Some i → least ≤ q → IfSome first (λ jump. q < jump.target) →
    jumps_back_to p i q ≡ false

-- what was found in them
pub record Searched (code : List (Option Insn)) (least n : ℕ) (first : Option BackJump) : Type 0 where
  pub found : IfSome first (λ jump. IsBackTarget code jump.target)
  pub none : NoneBefore code least n first

-- an instruction that jumps back to no such slot
abbrev pub Misses : ℕ → ℕ → Option BackJump → Option Insn → Type 0
Misses least n first o =
    (i : Insn) (q : ℕ) → o ≡ Some i → least ≤ q → IfSome first (λ jump. q < jump.target) → jumps_back_to n i q ≡ false

none_more : (code : List (Option Insn)) (least n : ℕ) (o : Option Insn) (first : Option BackJump) → fetch code n ≡ o →
    Misses least n first o → NoneBefore code least n first → NoneBefore code least (n + 1) first
none_more code least n o first at here before p i q lt is le below = ⊎_elim (λ less. before p i q less is le below)
    (λ ge. let same : n ≡ p = omega arith in
    subst (λ m. jumps_back_to m i q ≡ false) same (here i q (sym at ∙ ap (fetch code) same ∙ is) le below)) (cases_lt p n)

pub over : (code : List (Option Insn)) (least n : ℕ) (o : Option Insn) (first : Option BackJump) → fetch code n ≡ o →
    Misses least n first o → Searched code least n first → Searched code least (n + 1) first
over code least n o first at here s =
    record { found = s.found; none = none_more code least n o first at here s.none }

pub misses_none : (least n : ℕ) (first : Option BackJump) → Misses least n first None
misses_none least n first i q is le below = absurd (none-some i is)

pub misses_all : (least n : ℕ) (first : Option BackJump) (i : Insn) → ((q : ℕ) → jumps_back_to n i q ≡ false) →
    Misses least n first (Some i)
misses_all least n first i h j q is le below = subst (λ j. jumps_back_to n j q ≡ false) (same_Some i j is) (h q)

pub misses_below : (least n target : ℕ) (first : Option BackJump) (i : Insn) → target < least →
    ((q : ℕ) → jumps_back_to n i q ≡ (target == q)) → Misses least n first (Some i)
misses_below least n target first i lt h j q is le below = subst (λ j. jumps_back_to n j q ≡ false) (same_Some i j is)
    (h q ∙ ne_eqb target q (λ same. omega (arith, same)))

-- a target that is found
pub hit : (code : List (Option Insn)) (n target : ℕ) (i : Insn) → fetch code n ≡ Some i →
    ((q : ℕ) → jumps_back_to n i q ≡ (target == q)) → IsBackTarget code target
hit code n target i at h = (n, i, at, h target ∙ eq-eqb target target refl)

closer : (result : BackJump) (first : Option BackJump) (q : ℕ) → IfSome first (λ jump. result.target ≤ jump.target) →
    q < result.target → IfSome first (λ jump. q < jump.target)
closer result None q le lt = tt
closer result (Some jump) q le lt = omega (arith, le, lt)

-- the nearer of what was found and one more
pub better : (code : List (Option Insn)) (least n : ℕ) (i : Insn) (first : Option BackJump) (jump result : BackJump) →
    Searched code least n first → fetch code n ≡ Some i → ((q : ℕ) → jumps_back_to n i q ≡ (jump.target == q)) →
    (result ≡ jump) ⊎ (first ≡ Some result) → result.target ≤ jump.target →
    IfSome first (λ jump. result.target ≤ jump.target) → Searched code least (n + 1) (Some result)
better code least n i first jump result s at to one le les =
    let misses : Misses least n (Some result) (Some i) = λ j q is least_le lt.
    subst (λ j. jumps_back_to n j q ≡ false) (same_Some i j is)
    (to q ∙ ne_eqb jump.target q (λ same. omega (arith, same, lt, le))) in
    record {
      found = ⊎_elim (λ e. subst (λ j. IsBackTarget code j.target) (sym e) (hit code n jump.target i at to))
          (λ e. some_of first result _ _ e s.found) one;
      none = none_more code least n (Some i) (Some result) at misses
          (λ p i q lt is least_le below. s.none p i q lt is least_le (closer result first q les below));
    }

within : (code : List (Option Insn)) (p : ℕ) (i : Insn) (o : Option (Option Insn)) → slice_get code p ≡ o →
    (o >>= λ c. c) ≡ Some i → p < length code
within code p i None at is = absurd (none-some i is)
within code p i (Some c) at is = slice_get_within code p c at

pub searched_all : (code : List (Option Insn)) (least n : ℕ) (first : Option BackJump) → length code ≤ n →
    Searched code least n first → (p : ℕ) (i : Insn) (q : ℕ) → fetch code p ≡ Some i → least ≤ q →
    IfSome first (λ jump. q < jump.target) → jumps_back_to p i q ≡ false
searched_all code least n first le s p i q is least_le below =
    let lt = within code p i (slice_get code p) refl is in
    s.none p i q (omega (arith, lt, le)) is least_le below

-- targets below one are among those that were found; so are those up to the next one
abbrev pub Has : List (Option Insn) → ℕ → List ℕ → Type 0
Has code least targets = (q : ℕ) → IsBackTarget code q → q < least → Contains targets q

-- no jump goes back to the slots from one to another one
abbrev pub Between : List (Option Insn) → ℕ → ℕ → Type 0
Between code least target =
    (p : ℕ) (i : Insn) (q : ℕ) → fetch code p ≡ Some i → least ≤ q → q < target → jumps_back_to p i q ≡ false

pub has_more : (code : List (Option Insn)) (least target : ℕ) (targets : List ℕ) → Between code least target →
    Has code least targets → Has code (target + 1) (targets ++ target ∷ [])
has_more code least target targets none has q it lt = ⊎_elim
    (λ less. Contains-append_left targets (target ∷ []) q (has q it less))
    (λ le. ⊎_elim (λ below. let bad : true ≡ false = sym it.3 ∙ none it.0 it.1 q it.2 le below in absurd (cc))
    (λ ge. let same : target ≡ q = omega arith in
    subst (Contains (targets ++ target ∷ [])) same (Contains-push targets target)) (cases_lt q target))
    (cases_lt q least)

pub not_empty : (xs ys : List ℕ) (x : ℕ) → ys ≡ xs ++ x ∷ [] → ys ≡ [] → ⊥
not_empty xs ys x is none = omega (arith, ap length (sym is ∙ none), length-append xs (x ∷ []))
