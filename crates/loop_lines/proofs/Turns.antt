-- Reading one place after the other, as a loop does.
use Rattle.std.proofs.Common.{◌≡◌, ◌∙◌, ℕ, ◌+◌, ◌≤◌, ◌<◌, Bool, true, false, List, [], ◌∷◌, ◌++◌, length, drop, get_or, map, arith, cond, ltb, not, Option, Some, None, Result, Ok, Err, unwrap_or, refl, sym, ap, Bor, append_assoc}
use Rattle.std.proofs.lemmas.Bool.Decides.{nat_tests}
use Rattle.std.proofs.lemmas.List.{append-nil, at_drop_more, at_drop_all}
use Rattle.std.proofs.lemmas.List.Sums.{prefix_len-le-length}
use Rattle.std.specs.List.{position_or_len}
use Rattle.asm_lines.specs.declared.fault.AsmFault.{AsmFault}
use Rattle.asm_lines.specs.Texts.{trim_start}
use Rattle.loop_heads.specs.declared.place.HeadPlace.{HeadPlace}
use Rattle.loop_lines.specs.Reading.{◌>>=◌, place_of, places_from}

-- what `position` answers, with the length where nothing passes
pub place_found : {X : Type 0} (p : X → Bool) (xs : List X) (r : Option ℕ) → r ≡ cond (ltb (position_or_len p xs) (length xs)) (Some (position_or_len p xs)) None → unwrap_or r (length xs) ≡ position_or_len p xs
place_found p xs r e =
    let le : position_or_len p xs ≤ length xs = prefix_len-le-length (λ x. not (p x)) xs in
    rw e (grind (arith, nat_tests))

-- what was read before, and what is still read
abbrev pub with_front : List HeadPlace → Result (List HeadPlace) AsmFault → Result (List HeadPlace) AsmFault
with_front front read = read >>= λ ps. Ok (front ++ ps)

with_nothing : (read : Result (List HeadPlace) AsmFault) → with_front [] read ≡ read
with_nothing (Ok ps) = refl
with_nothing (Err e) = refl

regroup : (front : List HeadPlace) (p : HeadPlace) (read : Result (List HeadPlace) AsmFault) → with_front front (read >>= λ ps. Ok (p ∷ ps)) ≡ with_front (front ++ (p ∷ [])) read
regroup front p (Ok ps) = ap (λ (qs : List HeadPlace). Ok qs) (sym (append_assoc front (p ∷ []) ps))
regroup front p (Err e) = refl

-- the places of texts
abbrev pub read_all : ℕ → List (Bor (List ℕ)) → Result (List HeadPlace) AsmFault
read_all least ts = places_from least (map (λ t. t.now) ts)

-- the first i texts are read, and `least` is the least number of the next place
pub record Progress (ts : List (Bor (List ℕ))) (front : List HeadPlace) (i least : ℕ) : Type 0 where
  pub so_far : with_front front (read_all least (drop i ts)) ≡ read_all 0 ts

pub begins : (ts : List (Bor (List ℕ))) (front : List HeadPlace) → front ≡ [] → Progress ts front 0 0
begins ts front none = record { so_far = ap (λ (ps : List HeadPlace). with_front ps (read_all 0 ts)) none ∙ with_nothing (read_all 0 ts) }

-- what the first of the texts gives
abbrev by_first : List (Bor (List ℕ)) → Result HeadPlace AsmFault → Result (List HeadPlace) AsmFault
by_first ts first = first >>= λ p. read_all (p.number + 1) ts >>= λ ps. Ok (p ∷ ps)

one_more : (least : ℕ) (t : Bor (List ℕ)) (ts : List (Bor (List ℕ))) (first : Result HeadPlace AsmFault) → first ≡ place_of least (trim_start t.now) → read_all least (t ∷ ts) ≡ by_first ts first
unfolding places_from
one_more least t ts first h = ap (by_first ts) (sym h)

-- the next text is read
next : (ts : List (Bor (List ℕ))) (front : List HeadPlace) (i least : ℕ) (d : Bor (List ℕ)) (first : Result HeadPlace AsmFault) → i < length ts → first ≡ place_of least (trim_start (get_or ts i d).now)
    → Progress ts front i least → with_front front (by_first (drop (i + 1) ts) first) ≡ read_all 0 ts
next ts front i least d first lt h p =
    ap (with_front front) (sym (at_drop_more (read_all least) ts i d lt ∙ one_more least (get_or ts i d) (drop (i + 1) ts) first h)) ∙ p.so_far

pub goes_on : (ts : List (Bor (List ℕ))) (front : List HeadPlace) (i least : ℕ) (d : Bor (List ℕ)) (x : HeadPlace) → i < length ts → Ok x ≡ place_of least (trim_start (get_or ts i d).now)
    → Progress ts front i least → Progress ts (front ++ (x ∷ [])) (i + 1) (x.number + 1)
goes_on ts front i least d x lt h p =
    record { so_far = sym (regroup front x (read_all (x.number + 1) (drop (i + 1) ts))) ∙ next ts front i least d (Ok x) lt h p }

pub ends : (ts : List (Bor (List ℕ))) (front : List HeadPlace) (i least : ℕ) (d : Bor (List ℕ)) (e : AsmFault) → i < length ts → Err e ≡ place_of least (trim_start (get_or ts i d).now)
    → Progress ts front i least → read_all 0 ts ≡ Err e
ends ts front i least d e lt h p = sym (next ts front i least d (Err e) lt h p)

pub is_done : (ts : List (Bor (List ℕ))) (front : List HeadPlace) (i least : ℕ) → length ts ≤ i → Progress ts front i least → read_all 0 ts ≡ Ok front
unfolding places_from
is_done ts front i least le p =
    sym p.so_far ∙ ap (with_front front) (at_drop_all (read_all least) ts i le) ∙ ap (λ (ps : List HeadPlace). Ok ps) (append-nil front)

-- what a `push` that did not fail added
pub added : {A : Type 0} (b : Bool) (xs ys zs : List A) → b ≡ true → zs ≡ cond b xs ys → zs ≡ xs
added true xs ys zs h e = e
added false xs ys zs h e = absurd cc
