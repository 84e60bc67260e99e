-- What a number tells the kinds of a list, one after another.
use Rattle.std.proofs.Common.{◌≡◌, ℕ, ◌+◌, ◌<◌, ◌≤◌, List, [], ◌∷◌, ◌++◌, length, Option, Some, None, cond, refl, ap, ◌∙◌, sym, arith, get_or, set, take, drop}
use Rattle.std.specs.Option.{option_map, option_and_then}
use Rattle.std.proofs.lemmas.List.{append_assoc, append-nil, take_all, take_more_set, drop_all, drop_more, drop-set-lt}
use Rattle.abstract_num.specs.declared.precision.Precision.{Precision}
use Rattle.abstract_num.specs.Plain.{Plain}
use Rattle.abstract_regs.specs.declared.kind.Kind.{Kind}
use Rattle.abstract_regs.specs.declared.link.Link.{Link}
use Rattle.abstract_regs.specs.Kind.{PlainKind}
use Rattle.abstract_regs.specs.Link.{link_in}
use Rattle.abstract_regs.specs.Links.{is_named, told_kind, told_kinds}
use Rattle.abstract_regs.specs.Seen.{seen, seen_each}

-- of the kind of one place
abbrev pub told_here : Precision → Plain → Link → ℕ → List Link → ℕ → PlainKind → Option PlainKind
told_here precision z l from links at x = cond (is_named l from at (link_in links at)) (told_kind precision z l (link_in links at) x) (Some x)

-- kinds before others
abbrev pub before : List PlainKind → Option (List PlainKind) → Option (List PlainKind)
before xs o = option_map (λ ys. xs ++ ys) o

module _ (precision : Precision) (z : Plain) (l : Link) (from : ℕ) (links : List Link) where
  abbrev rest : ℕ → List PlainKind → Option (List PlainKind)
  rest at xs = told_kinds precision z l from links at xs

  told_next : (at : ℕ) (x : PlainKind) (xs : List PlainKind) (o : Option PlainKind) → told_here precision z l from links at x ≡ o → rest at (x ∷ xs) ≡ option_and_then (λ y. option_map (λ ys. y ∷ ys) (rest (at + 1) xs)) o
  told_next at x xs o e = ap (option_and_then (λ y. option_map (λ ys. y ∷ ys) (rest (at + 1) xs))) e

  moved_on : (xs : List PlainKind) (y : PlainKind) (o : Option (List PlainKind)) → before xs (option_map (λ ys. y ∷ ys) o) ≡ before (xs ++ y ∷ []) o
  moved_on xs y None = refl
  moved_on xs y (Some ys) = ap Some (sym (append_assoc xs (y ∷ []) ys))

  seen_push : (f : List Kind) (x : Kind) → seen_each (f ++ x ∷ []) ≡ seen_each f ++ seen x ∷ []
  seen_push [] x = refl
  seen_push (a ∷ f) x = ap (λ t. seen a ∷ t) (seen_push f x)

  seen_next : (xs : List Kind) (i : ℕ) (a : Kind) → i < length xs → seen_each (drop i xs) ≡ seen (get_or xs i a) ∷ seen_each (drop (i + 1) xs)
  seen_next xs i a lt = ap seen_each (drop_more xs i a lt)

  -- nothing is left at place i
  pub told_dead : (all : List PlainKind) (first i : ℕ) (xs : List Kind) (a : Kind) → i < length xs → rest first all ≡ before (seen_each (take i xs)) (rest (first + i) (seen_each (drop i xs))) → told_here precision z l from links (first + i) (seen (get_or xs i a)) ≡ None → rest first all ≡ None
  told_dead all first i xs a lt told e =
      told
      ∙ ap (λ ys. before (seen_each (take i xs)) (rest (first + i) ys)) (seen_next xs i a lt)
      ∙ ap (before (seen_each (take i xs))) (told_next (first + i) (seen (get_or xs i a)) (seen_each (drop (i + 1) xs)) None e)

  -- the kind of place i is left as another
  pub told_more : (all : List PlainKind) (first i : ℕ) (xs ys : List Kind) (a b : Kind) → i < length xs → rest first all ≡ before (seen_each (take i xs)) (rest (first + i) (seen_each (drop i xs))) → told_here precision z l from links (first + i) (seen (get_or xs i a)) ≡ Some (seen b) → ys ≡ set xs i b → rest first all ≡ before (seen_each (take (i + 1) ys)) (rest (first + (i + 1)) (seen_each (drop (i + 1) ys)))
  told_more all first i xs ys a b lt told e is =
      let next : first + i + 1 ≡ first + (i + 1) = omega arith in
      let later = drop (i + 1) xs in
      let kept : drop (i + 1) (set xs i b) ≡ later = drop-set-lt (i + 1) xs i b (omega arith) in
      told
      ∙ ap (λ t. before (seen_each (take i xs)) (rest (first + i) t)) (seen_next xs i a lt)
      ∙ ap (before (seen_each (take i xs))) (told_next (first + i) (seen (get_or xs i a)) (seen_each later) (Some (seen b)) e)
      ∙ moved_on (seen_each (take i xs)) (seen b) (rest (first + i + 1) (seen_each later))
      ∙ ap (λ n. before (seen_each (take i xs) ++ seen b ∷ []) (rest n (seen_each later))) next
      ∙ ap (λ t. before t (rest (first + (i + 1)) (seen_each later))) (sym (seen_push (take i xs) b) ∙ sym (ap seen_each (take_more_set xs i b lt)))
      ∙ ap (λ t. before (seen_each (take (i + 1) (set xs i b))) (rest (first + (i + 1)) (seen_each t))) (sym kept)
      ∙ ap (λ t. before (seen_each (take (i + 1) t)) (rest (first + (i + 1)) (seen_each (drop (i + 1) t)))) (sym is)

  -- all were told
  pub told_all : (all : List PlainKind) (first i : ℕ) (xs : List Kind) → length xs ≤ i → rest first all ≡ before (seen_each (take i xs)) (rest (first + i) (seen_each (drop i xs))) → rest first all ≡ Some (seen_each xs)
  told_all all first i xs past told =
      told
      ∙ ap (λ t. before (seen_each (take i xs)) (rest (first + i) (seen_each t))) (drop_all i xs past)
      ∙ ap (λ t. Some (seen_each t ++ [])) (take_all i xs past) ∙ ap Some (append-nil (seen_each xs))
