-- The laws of the join of frames, from those of numbers.
use Rattle.std.proofs.Common.{◌≡◌, List, [], ◌∷◌, Option, Some, None, true, refl, ap, ◌∙◌, length, arith}
use Rattle.std.proofs.lemmas.Bool.{false≢true, cond_both}
use mathlib.Core.Path.{ap₂}
use Rattle.bpf_decode.specs.declared.region.Region.{Region}
use Rattle.bpf_decode.specs.declared.region.Region.TheVariants.{Input, Output, Stack}
use Rattle.bpf_decode.specs.declared.value.Value.{Value}
use Rattle.bpf_decode.specs.declared.value.Value.TheVariants as values
use Rattle.abstract_num.specs.Plain.{Number, view, join as join_number}
use Rattle.abstract_num.specs.Laws as numbers
use Rattle.abstract_num.specs.Keeping.{JoinKeeps}
use Rattle.abstract_regs.specs.declared.kind.Kind.{Kind}
use Rattle.abstract_regs.specs.declared.kind.Kind.TheVariants as code
use Rattle.abstract_regs.specs.Kind.{PlainKind, Unset, Num, Ptr, HoldsKind, same_region, join_kind}
use Rattle.abstract_regs.specs.Frame.{join_each, HoldsEach}
use Rattle.abstract_regs.specs.Seen.{seen}
use Rattle.abstract_regs.proofs.LinkJoins.{joins_left, joins_right}
use Rattle.abstract_regs.specs.Laws.{BelowKind, JoinCommutes, JoinAssociates, JoinOfSame, JoinIsAbove, JoinsHold}

pub same_means : (r q : Region) → same_region r q ≡ true → r ≡ q
same_means Input Input e = refl
same_means Output Output e = refl
same_means Stack Stack e = refl
same_means Input Output e = absurd (false≢true e)
same_means Input Stack e = absurd (false≢true e)
same_means Output Input e = absurd (false≢true e)
same_means Output Stack e = absurd (false≢true e)
same_means Stack Input e = absurd (false≢true e)
same_means Stack Output e = absurd (false≢true e)

module _ (law : numbers.JoinCommutes) where
  number_commutes : (x y : Number) → join_number (view x) (view y) ≡ join_number (view y) (view x)
  number_commutes x y = ap view (law x y)

  pointer_commutes : (r q : Region) (x y : Number) → join_kind (Ptr r (view x)) (Ptr q (view y)) ≡ join_kind (Ptr q (view y)) (Ptr r (view x))
  pointer_commutes Input Input x y = ap (Ptr Input) (number_commutes x y)
  pointer_commutes Output Output x y = ap (Ptr Output) (number_commutes x y)
  pointer_commutes Stack Stack x y = ap (Ptr Stack) (number_commutes x y)
  pointer_commutes Input Output x y = refl
  pointer_commutes Input Stack x y = refl
  pointer_commutes Output Input x y = refl
  pointer_commutes Output Stack x y = refl
  pointer_commutes Stack Input x y = refl
  pointer_commutes Stack Output x y = refl

  kind_commutes : (x y : Kind) → join_kind (seen x) (seen y) ≡ join_kind (seen y) (seen x)
  kind_commutes code.Unset code.Unset = refl
  kind_commutes code.Unset (code.Num n) = refl
  kind_commutes code.Unset (code.Ptr q n) = refl
  kind_commutes (code.Num m) code.Unset = refl
  kind_commutes (code.Num m) (code.Num n) = ap Num (number_commutes m n)
  kind_commutes (code.Num m) (code.Ptr q n) = refl
  kind_commutes (code.Ptr r m) code.Unset = refl
  kind_commutes (code.Ptr r m) (code.Num n) = refl
  kind_commutes (code.Ptr r m) (code.Ptr q n) = pointer_commutes r q m n

  pub commutes : JoinCommutes
  commutes [] [] e = refl
  commutes [] (y ∷ ys) e = absurd (omega arith)
  commutes (x ∷ xs) [] e = absurd (omega arith)
  commutes (x ∷ xs) (y ∷ ys) e =
      let less : length xs ≡ length ys = omega arith in
      ap₂ (λ k ks. k ∷ ks) (kind_commutes x y) (commutes xs ys less)

module _ (law : numbers.JoinAssociates) where
  number_associates : (x y z : Number) → join_number (join_number (view x) (view y)) (view z) ≡ join_number (view x) (join_number (view y) (view z))
  number_associates x y z = ap view (law x y z)

  pointer_associates : (r q p : Region) (x y z : Number) →
      join_kind (join_kind (Ptr r (view x)) (Ptr q (view y))) (Ptr p (view z)) ≡ join_kind (Ptr r (view x)) (join_kind (Ptr q (view y)) (Ptr p (view z)))
  pointer_associates Input Input Input x y z = ap (Ptr Input) (number_associates x y z)
  pointer_associates Output Output Output x y z = ap (Ptr Output) (number_associates x y z)
  pointer_associates Stack Stack Stack x y z = ap (Ptr Stack) (number_associates x y z)
  pointer_associates Input Input Output x y z = refl
  pointer_associates Input Input Stack x y z = refl
  pointer_associates Input Output Input x y z = refl
  pointer_associates Input Output Output x y z = refl
  pointer_associates Input Output Stack x y z = refl
  pointer_associates Input Stack Input x y z = refl
  pointer_associates Input Stack Output x y z = refl
  pointer_associates Input Stack Stack x y z = refl
  pointer_associates Output Input Input x y z = refl
  pointer_associates Output Input Output x y z = refl
  pointer_associates Output Input Stack x y z = refl
  pointer_associates Output Output Input x y z = refl
  pointer_associates Output Output Stack x y z = refl
  pointer_associates Output Stack Input x y z = refl
  pointer_associates Output Stack Output x y z = refl
  pointer_associates Output Stack Stack x y z = refl
  pointer_associates Stack Input Input x y z = refl
  pointer_associates Stack Input Output x y z = refl
  pointer_associates Stack Input Stack x y z = refl
  pointer_associates Stack Output Input x y z = refl
  pointer_associates Stack Output Output x y z = refl
  pointer_associates Stack Output Stack x y z = refl
  pointer_associates Stack Stack Input x y z = refl
  pointer_associates Stack Stack Output x y z = refl

  with_unset : (x : PlainKind) → join_kind x Unset ≡ Unset
  with_unset Unset = refl
  with_unset (Num k) = refl
  with_unset (Ptr r k) = refl

  kind_associates : (x y z : Kind) → join_kind (join_kind (seen x) (seen y)) (seen z) ≡ join_kind (seen x) (join_kind (seen y) (seen z))
  kind_associates code.Unset y z = refl
  kind_associates (code.Num m) code.Unset z = refl
  kind_associates (code.Num m) (code.Num n) code.Unset = refl
  kind_associates (code.Num m) (code.Num n) (code.Num o) = ap Num (number_associates m n o)
  kind_associates (code.Num m) (code.Num n) (code.Ptr p o) = refl
  kind_associates (code.Num m) (code.Ptr q n) code.Unset = refl
  kind_associates (code.Num m) (code.Ptr q n) (code.Num o) = refl
  kind_associates (code.Num m) (code.Ptr q n) (code.Ptr p o) =
      cond_both (same_region q p) (Ptr q (join_number (view n) (view o))) Unset (λ k. Unset ≡ join_kind (Num (view m)) k) (λ _. refl) (λ _. refl)
  kind_associates (code.Ptr r m) code.Unset z = refl
  kind_associates (code.Ptr r m) (code.Num n) code.Unset = refl
  kind_associates (code.Ptr r m) (code.Num n) (code.Num o) = refl
  kind_associates (code.Ptr r m) (code.Num n) (code.Ptr p o) = refl
  kind_associates (code.Ptr r m) (code.Ptr q n) code.Unset = with_unset (join_kind (Ptr r (view m)) (Ptr q (view n)))
  kind_associates (code.Ptr r m) (code.Ptr q n) (code.Num o) =
      cond_both (same_region r q) (Ptr r (join_number (view m) (view n))) Unset (λ k. join_kind k (Num (view o)) ≡ Unset) (λ _. refl) (λ _. refl)
  kind_associates (code.Ptr r m) (code.Ptr q n) (code.Ptr p o) = pointer_associates r q p m n o

  pub associates : JoinAssociates
  associates [] [] [] e f = refl
  associates [] [] (z ∷ zs) e f = absurd (omega arith)
  associates [] (y ∷ ys) zs e f = absurd (omega arith)
  associates (x ∷ xs) [] zs e f = absurd (omega arith)
  associates (x ∷ xs) (y ∷ ys) [] e f = absurd (omega arith)
  associates (x ∷ xs) (y ∷ ys) (z ∷ zs) e f =
      let less : length xs ≡ length ys = omega arith in
      let less' : length ys ≡ length zs = omega arith in
      ap₂ (λ k ks. k ∷ ks) (kind_associates x y z) (associates xs ys zs less less')

module _ (law : numbers.JoinOfSame) where
  pointer_of_same : (r : Region) (x : Number) → join_kind (Ptr r (view x)) (Ptr r (view x)) ≡ Ptr r (view x)
  pointer_of_same Input x = ap (λ n. Ptr Input (view n)) (law x)
  pointer_of_same Output x = ap (λ n. Ptr Output (view n)) (law x)
  pointer_of_same Stack x = ap (λ n. Ptr Stack (view n)) (law x)

  pub kind_of_same : (x : Kind) → join_kind (seen x) (seen x) ≡ seen x
  kind_of_same code.Unset = refl
  kind_of_same (code.Num n) = ap (λ n. Num (view n)) (law n)
  kind_of_same (code.Ptr r n) = pointer_of_same r n

  pub of_same : JoinOfSame
  of_same [] = refl
  of_same (x ∷ xs) = ap₂ (λ k ks. k ∷ ks) (kind_of_same x) (of_same xs)

module _ (law : numbers.JoinIsAbove) where
  pointer_below : (r q : Region) (x y : Number) → BelowKind (Ptr r (view x)) (join_kind (Ptr r (view x)) (Ptr q (view y)))
  pointer_below r q x y =
      cond_both (same_region r q) (Ptr r (join_number (view x) (view y))) Unset (BelowKind (Ptr r (view x))) (λ _. (refl, law x y)) (λ _. tt)

  kind_below : (x y : Kind) → BelowKind (seen x) (join_kind (seen x) (seen y))
  kind_below code.Unset y = tt
  kind_below (code.Num m) code.Unset = tt
  kind_below (code.Num m) (code.Num n) = law m n
  kind_below (code.Num m) (code.Ptr q n) = tt
  kind_below (code.Ptr r m) code.Unset = tt
  kind_below (code.Ptr r m) (code.Num n) = tt
  kind_below (code.Ptr r m) (code.Ptr q n) = pointer_below r q m n

  pub is_above : JoinIsAbove
  is_above [] [] e = tt
  is_above [] (y ∷ ys) e = absurd (omega arith)
  is_above (x ∷ xs) [] e = absurd (omega arith)
  is_above (x ∷ xs) (y ∷ ys) e = let less : length xs ≡ length ys = omega arith in (kind_below x y, is_above xs ys less)

-- a join holds what either part holds
module _ (law : JoinKeeps) where
  kind_left : (x y : PlainKind) (c : Option Value) → HoldsKind x c → HoldsKind (join_kind x y) c
  kind_left Unset y c h = tt
  kind_left (Num k) Unset c h = tt
  kind_left (Num k) (Num l) None h = absurd h
  kind_left (Num k) (Num l) (Some (values.Num n)) h = let u = law k l in u.left n h
  kind_left (Num k) (Num l) (Some (values.Ptr r at)) h = absurd h
  kind_left (Num k) (Ptr q l) c h = tt
  kind_left (Ptr r k) Unset c h = tt
  kind_left (Ptr r k) (Num l) c h = tt
  kind_left (Ptr r k) (Ptr q l) None h = absurd h
  kind_left (Ptr r k) (Ptr q l) (Some (values.Num n)) h = absurd h
  kind_left (Ptr r k) (Ptr q l) (Some (values.Ptr p at)) h =
      let u = law k l in
      cond_both (same_region r q) (Ptr r (join_number k l)) Unset (λ x. HoldsKind x (Some (values.Ptr p at))) (λ _. (h.0, u.left at h.1)) (λ _. tt)

  kind_right : (x y : PlainKind) (c : Option Value) → HoldsKind y c → HoldsKind (join_kind x y) c
  kind_right Unset y c h = tt
  kind_right (Num k) Unset c h = tt
  kind_right (Num k) (Num l) None h = absurd h
  kind_right (Num k) (Num l) (Some (values.Num n)) h = let u = law k l in u.right n h
  kind_right (Num k) (Num l) (Some (values.Ptr r at)) h = absurd h
  kind_right (Num k) (Ptr q l) c h = tt
  kind_right (Ptr r k) Unset c h = tt
  kind_right (Ptr r k) (Num l) c h = tt
  kind_right (Ptr r k) (Ptr q l) None h = absurd h
  kind_right (Ptr r k) (Ptr q l) (Some (values.Num n)) h = absurd h
  kind_right (Ptr r k) (Ptr q l) (Some (values.Ptr p at)) h =
      let u = law k l in
      cond_both (same_region r q) (Ptr r (join_number k l)) Unset (λ x. HoldsKind x (Some (values.Ptr p at)))
      (λ e. (same_means r q e ∙ h.0, u.right at h.1)) (λ _. tt)

  each_left : (f g : List PlainKind) (cs : List (Option Value)) → HoldsEach f cs → HoldsEach (join_each f g) cs
  each_left [] g cs h = tt
  each_left (x ∷ f) [] cs h = tt
  each_left (x ∷ f) (y ∷ g) [] h = absurd h
  each_left (x ∷ f) (y ∷ g) (c ∷ cs) h = (kind_left x y c h.0, each_left f g cs h.1)

  each_right : (f g : List PlainKind) (cs : List (Option Value)) → HoldsEach g cs → HoldsEach (join_each f g) cs
  each_right [] g cs h = tt
  each_right (x ∷ f) [] cs h = tt
  each_right (x ∷ f) (y ∷ g) [] h = absurd h
  each_right (x ∷ f) (y ∷ g) (c ∷ cs) h = (kind_right x y c h.0, each_right f g cs h.1)

  pub joins_hold : JoinsHold
  joins_hold f g = record { left = each_left f.registers g.registers; right = each_right f.registers g.registers; slots_left = each_left f.slots g.slots; slots_right = each_right f.slots g.slots; links_left = joins_left f g; links_right = joins_right f g }
