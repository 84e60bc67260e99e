-- Lemmas on a list's end, and on a text that ends in no blank.
use Rattle.std.proofs.Common.{◌≡◌, ℕ, ◌≤◌, suc, Bool, false, List, [], ◌∷◌, ◌++◌, length, refl, ap, arith, cond, ◌-◌, take, get_or, ltb, not, sym, ◌∙◌, Option, Some, None, unwrap_or}
use Rattle.std.proofs.Math.Seq.{take-length, take-suc}
use Rattle.std.proofs.lemmas.Bool.Decides.{nat_tests}
use Rattle.std.proofs.lemmas.List.Sums.{prefix_len-le-length}
use Rattle.std.specs.List.{position_or_len}
use Rattle.asm_lines.specs.Texts.{is_blank, onto_trimmed, trim_end}

-- another byte at the end stays
onto_more : (xs : List ℕ) (x c : ℕ) → onto_trimmed x (xs ++ (c ∷ [])) ≡ x ∷ (xs ++ (c ∷ []))
onto_more [] x c = refl
onto_more (y ∷ ys) x c = refl

trim_end_stays : (text : List ℕ) (c : ℕ) → is_blank c ≡ false → trim_end (text ++ (c ∷ [])) ≡ text ++ (c ∷ [])
unfolding trim_end
trim_end_stays [] c h = rw h refl
trim_end_stays (x ∷ xs) c h = rw (trim_end_stays xs c h) (onto_more xs x c)

-- a list is its front and its last element
pub front : (s : List ℕ) → 1 ≤ length s → s ≡ take (length s - 1) s ++ (get_or s (length s - 1) 0 ∷ [])
front s h =
    let e : suc (length s - 1) ≡ length s = omega arith in
    sym (take-length s) ∙ sym (ap (λ n. take n s) e) ∙ take-suc s (length s - 1) 0 (omega arith)

pub trim_end_same : (s : List ℕ) → 1 ≤ length s → is_blank (get_or s (length s - 1) 0) ≡ false → trim_end s ≡ s
trim_end_same s h b = ap trim_end (front s h) ∙ trim_end_stays (take (length s - 1) s) (get_or s (length s - 1) 0) b ∙ sym (front s h)

-- what `position` answers, with the length where nothing passes
pub place_found : {X : Type 0} (p : X → Bool) (xs : List X) (r : Option ℕ) → r ≡ cond (ltb (position_or_len p xs) (length xs)) (Some (position_or_len p xs)) None → unwrap_or r (length xs) ≡ position_or_len p xs
place_found p xs r e =
    let le : position_or_len p xs ≤ length xs = prefix_len-le-length (λ x. not (p x)) xs in
    rw e (grind (arith, nat_tests))
