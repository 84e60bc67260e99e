-- A greater frame is true of what a smaller one is true of.
use lib.Signed.{le_z}
use Rattle.std.proofs.Common.{◌≡◌, ◌≢◌, ℕ, ℤ, zero, suc, ◌+◌, ◌-◌, ◌%◌, ◌^◌, ◌<◌, ◌≤◌, List, [], ◌∷◌, length, Option, Some, None, true, false, refl, ap, add-one, ◌∙◌, sym, subst, arith, ⊎_elim}
use Rattle.std.specs.Prelude.{◌≤ℤ◌, ◌==◌, ◌&&◌, not, nat_le, nat_lt, slice_get}
use Rattle.std.specs.Int.{bit_at}
use Rattle.std.proofs.lemmas.Bool.{and_parts, and_from, or_cases, not-true, leb-true, eqb-true, lt-ltb, le-ltb, cond-true, cond-false, false≢true, cases_eq, cases_lt, false_from_ne_true}
use Rattle.std.proofs.lemmas.Int.{ints}
use Rattle.std.proofs.lemmas.Nat.Bits.{bit_at-lt, bit_at-zero, same_from_bits}
use Rattle.bpf_decode.specs.declared.value.Value.{Value}
use Rattle.bpf_decode.specs.declared.value.Value.TheVariants as values
use Rattle.abstract_num.specs.Masks.{clear}
use Rattle.abstract_num.specs.Plain.{Plain, Holds}
use Rattle.abstract_num.specs.proved.PartsFit.{bit_at_clear}
use Rattle.abstract_regs.specs.declared.link.Link.{Link}
use Rattle.abstract_regs.specs.declared.link.LinkForm.{LinkForm}
use Rattle.abstract_regs.specs.declared.link.LinkForm.TheVariants.{Unlinked, Whole, Low, Up, Sign}
use Rattle.abstract_regs.specs.Kind.{PlainKind, Unset, Num, Ptr, HoldsKind, same_region}
use Rattle.abstract_regs.specs.Link.{no_link, is_linked, same_link, form_number, link_in, HoldsForm, HoldsLink}
use Rattle.abstract_regs.specs.Links.{slot_place}
use Rattle.abstract_regs.specs.Frame.{PlainFrame, or_unset, kind_at, HoldsEach}
use Rattle.abstract_regs.specs.Moves.{value_at, HoldsLinks}
use Rattle.abstract_regs.proofs.Joins.{same_means}
use Rattle.loop_frames.specs.declared.place.TheConstants.{PLACES}
use Rattle.loop_frames.specs.Heads.{place_kind}
use Rattle.loop_frames.specs.Below.{is_below, is_kind_below, is_link_below, is_place_below, are_places_below, is_frame_below}
use Rattle.loop_frames.specs.Laws.{IsWhole, GreaterKeeps}

-- ---- numbers

le_true : (a b : ℤ) → le_z a b ≡ true → a ≤ℤ b
le_true a b e = grind (arith, ints)

le_through : (a b c : ℤ) → a ≤ℤ b → b ≤ℤ c → a ≤ℤ c
le_through a b c p q = omega (arith, ints)

agrees_on : (v w z m u : ℕ) → clear v m ≡ w → clear w u ≡ z → clear m u ≡ 0 → clear v u ≡ z
agrees_on v w z m u p q r =
    same_from_bits (clear v u) z
    (λ i. omega (arith, bit_at_clear v u i, bit_at_clear v m i, bit_at_clear w u i, bit_at_clear m u i, ap (λ k. bit_at k i) p, ap (λ k. bit_at k i) q, ap (λ k. bit_at k i) r, bit_at-zero i, bit_at-lt v i, bit_at-lt m i, bit_at-lt u i))

holds_above : (x y : Plain) (n : ℕ) → is_below x y ≡ true → Holds x n → Holds y n
holds_above x y n e h =
    let all = and_parts ((nat_le y.low x.low && nat_le x.high y.high) && (le_z y.least x.least && le_z x.greatest y.greatest)) _ e in
    let ranges = and_parts (nat_le y.low x.low && nat_le x.high y.high) _ all.0 in
    let unsigned = and_parts (nat_le y.low x.low) _ ranges.0 in
    let signed = and_parts (le_z y.least x.least) _ ranges.1 in
    let rest = and_parts ((clear x.unknown y.unknown == 0) && (clear x.value y.unknown == y.value)) _ all.1 in
    let bits = and_parts (clear x.unknown y.unknown == 0) _ rest.0 in
    let half = and_parts (le_z y.half_least x.half_least) _ rest.1 in
    let low = leb-true y.low x.low unsigned.0 in
    let high = leb-true x.high y.high unsigned.1 in
    record {
      fits = h.fits;
      above = omega (arith, low, h.above);
      below = omega (arith, high, h.below);
      at_least = le_through y.least x.least _ (le_true y.least x.least signed.0) h.at_least;
      at_most = le_through _ x.greatest y.greatest h.at_most (le_true x.greatest y.greatest signed.1);
      agrees = agrees_on n x.value y.value x.unknown y.unknown h.agrees (eqb-true _ _ bits.1) (eqb-true _ _ bits.0);
      half_at_least = le_through y.half_least x.half_least _ (le_true y.half_least x.half_least half.0) h.half_at_least;
      half_at_most = le_through _ x.half_greatest y.half_greatest h.half_at_most (le_true x.half_greatest y.half_greatest half.1);
    }

-- ---- kinds

kind_above : (x y : PlainKind) (c : Option Value) → is_kind_below x y ≡ true → HoldsKind x c → HoldsKind y c
kind_above x Unset c e h = tt
kind_above Unset (Num l) c e h = absurd (false≢true e)
kind_above Unset (Ptr q l) c e h = absurd (false≢true e)
kind_above (Num k) (Num l) None e h = absurd h
kind_above (Num k) (Num l) (Some (values.Num n)) e h = holds_above k l n e h
kind_above (Num k) (Num l) (Some (values.Ptr r at)) e h = absurd h
kind_above (Num k) (Ptr q l) c e h = absurd (false≢true e)
kind_above (Ptr r k) (Num l) c e h = absurd (false≢true e)
kind_above (Ptr r k) (Ptr q l) None e h = absurd h
kind_above (Ptr r k) (Ptr q l) (Some (values.Num n)) e h = absurd h
kind_above (Ptr r k) (Ptr q l) (Some (values.Ptr p at)) e h =
    let both = and_parts (same_region r q) (is_below k l) e in
    (sym (same_means r q both.0) ∙ h.0, holds_above k l at both.1 h.1)

each_above : (xs ys : List PlainKind) (cs : List (Option Value)) → length ys ≡ length xs → ((n : ℕ) → n < length ys → is_kind_below (or_unset (slice_get xs n)) (or_unset (slice_get ys n)) ≡ true) → HoldsEach xs cs → HoldsEach ys cs
each_above xs [] cs e b h = tt
each_above [] (y ∷ ys) cs e b h = absurd (omega (arith, e))
each_above (x ∷ xs) (y ∷ ys) [] e b h = absurd h
each_above (x ∷ xs) (y ∷ ys) (c ∷ cs) e b h =
    (kind_above x y c (b 0 (omega arith)) h.0, each_above xs ys cs (omega (arith, e)) (λ n lt. b (suc n) (omega (arith, lt))) h.1)

-- ---- links

unlinked_is : (form : LinkForm) → is_linked form ≡ false → form ≡ Unlinked
unlinked_is Unlinked e = refl
unlinked_is Whole e = absurd (false≢true (sym e))
unlinked_is Low e = absurd (false≢true (sym e))
unlinked_is Up e = absurd (false≢true (sym e))
unlinked_is Sign e = absurd (false≢true (sym e))

abbrev form_of : ℕ → LinkForm
form_of zero = Unlinked
form_of (suc zero) = Whole
form_of (suc (suc zero)) = Low
form_of (suc (suc (suc zero))) = Up
form_of (suc (suc (suc (suc n)))) = Sign

form_back : (form : LinkForm) → form_of (form_number form) ≡ form
form_back Unlinked = refl
form_back Whole = refl
form_back Low = refl
form_back Up = refl
form_back Sign = refl

abbrev link : ℕ → ℕ → LinkForm → Link
link d j form = record { distance = d; name = j; form = form }

same_is : (l m : Link) → same_link l m ≡ true → l ≡ m
same_is l m e =
    let one = and_parts (l.distance == m.distance) _ e in
    let two = and_parts (l.name == m.name) _ one.1 in
    let d : l.distance ≡ m.distance = eqb-true l.distance m.distance one.0 in
    let j : l.name ≡ m.name = eqb-true l.name m.name two.0 in
    let number : form_number l.form ≡ form_number m.form = eqb-true (form_number l.form) (form_number m.form) two.1 in
    let form : l.form ≡ m.form = sym (form_back l.form) ∙ ap form_of number ∙ form_back m.form in
    ap (λ x. link x l.name l.form) d ∙ ap (λ x. link m.distance x l.form) j ∙ ap (λ x. link m.distance m.name x) form

link_above : (numbers : ℕ → ℕ) (l m : Link) (c : Option Value) → is_link_below l m ≡ true → HoldsLink numbers l c → HoldsLink numbers m c
link_above numbers l m c e h =
    ⊎_elim
    (λ none. subst (λ form. HoldsForm form ((numbers m.name + m.distance) % 2 ^ 64) c) (sym (unlinked_is m.form (not-true (is_linked m.form) none))) tt)
    (λ same. subst (λ k. HoldsLink numbers k c) (same_is l m same) h)
    (or_cases (not (is_linked m.form)) (same_link l m) e)

-- ---- places

pub place_below : (f g : PlainFrame) (n : ℕ) → are_places_below f g n ≡ true → (k : ℕ) → k < n → is_place_below f g k ≡ true
unfolding are_places_below
place_below f g zero e k lt = absurd (omega (arith, lt))
place_below f g (suc n) e k lt =
    let both = and_parts (is_place_below f g n) (are_places_below f g n) e in
    ⊎_elim (λ (same : k ≡ n). subst (λ m. is_place_below f g m ≡ true) (sym same) both.0) (λ (ne : k ≢ n). place_below f g n both.1 k (omega (arith, lt, ne))) (cases_eq k n)

pub none_below : (f g : PlainFrame) → are_places_below f g 0 ≡ true
unfolding are_places_below
none_below f g = refl

pub more_below : (f g : PlainFrame) (n : ℕ) → are_places_below f g n ≡ true → is_place_below f g n ≡ true → are_places_below f g (n + 1) ≡ true
unfolding are_places_below
more_below f g n e h = rw add-one (and_from (is_place_below f g n) (are_places_below f g n) h e)

pub not_below : (f g : PlainFrame) (n k : ℕ) → k < n → is_place_below f g k ≡ false → are_places_below f g n ≡ false
not_below f g n k lt e = false_from_ne_true (are_places_below f g n) (λ h. false≢true (sym e ∙ place_below f g n h k lt))

register_kind : (f : PlainFrame) (n : ℕ) → n < 11 → place_kind f n ≡ kind_at f n
register_kind f n lt = cond-true (nat_lt n 11) (kind_at f n) (or_unset (slice_get f.slots (n - 11))) (lt-ltb n 11 lt)

slot_kind : (f : PlainFrame) (j : ℕ) → place_kind f (11 + j) ≡ or_unset (slice_get f.slots j)
slot_kind f j =
    let at : 11 + j - 11 ≡ j = omega arith in
    cond-false (nat_lt (11 + j) 11) (kind_at f (11 + j)) (or_unset (slice_get f.slots (11 + j - 11))) (le-ltb (11 + j) 11 (omega arith))
    ∙ ap (λ k. or_unset (slice_get f.slots k)) at

past : (ls : List Link) (p : ℕ) → length ls ≤ p → link_in ls p ≡ no_link
past [] p le = refl
past (l ∷ ls) zero le = absurd (omega (arith, le))
past (l ∷ ls) (suc p) le = past ls p (omega (arith, le))

module _ (f g : PlainFrame) (whole_f : IsWhole f) (whole_g : IsWhole g) (below : is_frame_below f g ≡ true) where
  at_place : (n : ℕ) → n < PLACES → (is_kind_below (place_kind f n) (place_kind g n) ≡ true) × (is_link_below (link_in f.links n) (link_in g.links n) ≡ true)
  at_place n lt = and_parts (is_kind_below (place_kind f n) (place_kind g n)) (is_link_below (link_in f.links n) (link_in g.links n)) (place_below f g PLACES below n lt)

  registers_above : (cs : List (Option Value)) → HoldsEach f.registers cs → HoldsEach g.registers cs
  registers_above cs h = each_above f.registers g.registers cs (whole_g.registers ∙ sym whole_f.registers)
      (λ n lt. let few : n < 11 = omega (arith, lt, whole_g.registers) in
      let here = at_place n (omega (arith, few)) in
      subst (λ x. is_kind_below x (kind_at g n) ≡ true) (register_kind f n few) (subst (λ y. is_kind_below (place_kind f n) y ≡ true) (register_kind g n few) here.0)) h

  slots_above : (vs : List (Option Value)) → HoldsEach f.slots vs → HoldsEach g.slots vs
  slots_above vs h = each_above f.slots g.slots vs (whole_g.slots ∙ sym whole_f.slots)
      (λ j lt. let few : j < 64 = omega (arith, lt, whole_g.slots) in
      let here = at_place (11 + j) (omega (arith, few)) in
      subst (λ x. is_kind_below x (or_unset (slice_get g.slots j)) ≡ true) (slot_kind f j) (subst (λ y. is_kind_below (place_kind f (11 + j)) y ≡ true) (slot_kind g j) here.0)) h

  link_above_at : (numbers : ℕ → ℕ) (n : ℕ) (c : Option Value) → HoldsLink numbers (link_in f.links n) c → HoldsLink numbers (link_in g.links n) c
  link_above_at numbers n c h = ⊎_elim
      (λ (lt : n < PLACES). let here = at_place n lt in link_above numbers (link_in f.links n) (link_in g.links n) c here.1 h)
      (λ (le : PLACES ≤ n). subst (λ l. HoldsLink numbers l c) (sym (past g.links n (omega (arith, le, whole_g.links)))) tt) (cases_lt n PLACES)

  links_above : (cs vs : List (Option Value)) → HoldsLinks f cs vs → HoldsLinks g cs vs
  links_above cs vs h =
      let numbers = h.0 in
      let are = h.1 in
      (numbers, record { registers = λ r few. link_above_at numbers r (value_at cs r) (are.registers r few); slots = λ j. link_above_at numbers (slot_place j) (value_at vs j) (are.slots j) })

pub greater_keeps : GreaterKeeps
greater_keeps f g whole_f whole_g below cs vs h = record {
  registers = registers_above f g whole_f whole_g below cs h.registers;
  slots = slots_above f g whole_f whole_g below vs h.slots;
  links = links_above f g whole_f whole_g below cs vs h.links;
}
