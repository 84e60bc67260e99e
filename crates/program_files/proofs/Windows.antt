-- Texts that are written to a window.
use Rattle.std.proofs.Common.{◌≡◌, ℕ, zero, suc, ◌+◌, ◌-◌, ◌≤◌, min, List, [], ◌∷◌, ◌++◌, length, take, drop, refl, sym, ap, subst, ◌∙◌, append_assoc, append-nil, arith, length-append, length-take}
use Rattle.std.proofs.lemmas.List.{take_min}
use Rattle.std.proofs.Math.Seq.{take-append-add, take_all}
use Rattle.std.specs.List.{FoldsTo, concat}
use Rattle.std.specs.Fmt.{WritesInCalls}
use Rattle.program_files.specs.Window.{Sees, shown}
use Rattle.program_files.specs.declared.window.Window.{Window}

-- the text that is added
pub filled : (room at count : ℕ) (front rest : List ℕ) → length front ≡ at → at ≤ room → count ≡ min (length rest) (room - at) → front ++ take count rest ≡ take room (front ++ rest)
filled room at count front rest e within is =
    let same : count ≡ min (room - at) (length rest) = omega arith in
    let cut : take count rest ≡ take (room - at) rest = ap (λ n. take n rest) same ∙ take_min (room - at) rest in
    let sum : length front + (room - at) ≡ room = omega arith in
    ap (λ l. front ++ l) cut ∙ sym (take-append-add front rest (room - at)) ∙ ap (λ n. take n (front ++ rest)) sum

-- a beginning of a beginning
take_front : (n : ℕ) (xs ys : List ℕ) → take n (take n xs ++ ys) ≡ take n (xs ++ ys)
take_front zero xs ys = refl
take_front (suc n) [] ys = refl
take_front (suc n) (x ∷ xs) ys = ap (λ l. x ∷ l) (take_front n xs ys)

drop_none : (n : ℕ) → drop {A = ℕ} n [] ≡ []
drop_none zero = refl
drop_none (suc n) = refl

drop_both : (n : ℕ) (xs ys : List ℕ) → drop n (xs ++ ys) ≡ drop n xs ++ drop (n - length xs) ys
drop_both zero xs ys = let e : 0 - length xs ≡ 0 = omega arith in ap (λ k. xs ++ drop k ys) (sym e)
drop_both (suc n) [] ys = let e : suc n - 0 ≡ suc n = omega arith in ap (λ k. drop k ys) (sym e)
drop_both (suc n) (x ∷ xs) ys =
    let e : n - length xs ≡ suc n - length (x ∷ xs) = omega arith in
    drop_both n xs ys ∙ ap (λ k. drop n xs ++ drop k ys) e

pub seen_nothing : (room : ℕ) (w : Window) → length (shown w) ≤ room → shown w ≡ take room (shown w ++ drop w.skip [])
seen_nothing room w within = sym (ap (λ l. take room (shown w ++ l)) (drop_none w.skip) ∙ ap (take room) (append-nil (shown w)) ∙ take_all room (shown w) within)

pub seen_more : (room : ℕ) (w j v : Window) (xs ys : List ℕ) → Sees room w xs j → Sees room j ys v → Sees room w (xs ++ ys) v
seen_more room w j v xs ys first rest =
    record {
      skip = omega (arith, first.skip, rest.skip, length-append xs ys);
      shown =
          rest.shown ∙ ap (λ l. take room (l ++ drop j.skip ys)) first.shown
          ∙ take_front room (shown w ++ drop w.skip xs) (drop j.skip ys)
          ∙ ap (take room) (append_assoc (shown w) (drop w.skip xs) (drop j.skip ys)
          ∙ ap (λ k. shown w ++ (drop w.skip xs ++ drop k ys)) first.skip
          ∙ ap (λ l. shown w ++ l) (sym (drop_both w.skip xs ys)));
    }

seen_all : (room : ℕ) (w : Window) (parts : List (List ℕ)) (v : Window) → length (shown w) ≤ room → FoldsTo (Sees room) w parts v → Sees room w (concat parts) v
seen_all room w [] v within calls =
    subst (λ (u : Window). Sees room w [] u) calls (record { skip = omega arith; shown = seen_nothing room w within })
seen_all room w (part ∷ parts) v within calls =
    let fits : length (shown calls.0) ≤ room = rw calls.1.shown (omega (arith, length-take room (shown w ++ drop w.skip part))) in
    seen_more room w calls.0 v part (concat parts) calls.1 (seen_all room calls.0 parts v fits calls.2)

-- the part of a text that an empty window shows
pub seen : (room skip : ℕ) (w v : Window) (text : List ℕ) → shown w ≡ [] → w.skip ≡ skip → WritesInCalls (Sees room) w text v → shown v ≡ take room (drop skip text)
seen room skip w v text none is written =
    let fits : length (shown w) ≤ room = omega (arith, ap length none) in
    let all = subst (λ (t : List ℕ). Sees room w t v) written.whole (seen_all room w written.parts v fits written.calls) in
    all.shown ∙ ap (λ l. take room (l ++ drop w.skip text)) none ∙ ap (λ k. take room (drop k text)) is
