-- The truth of a frame's links: where names get their numbers, and where places get other links.
use Rattle.std.proofs.Common.{◌≡◌, ◌≢◌, ℕ, zero, suc, ◌+◌, ◌%◌, ◌^◌, ◌<◌, ◌≤◌, List, [], ◌∷◌, length, Option, Some, Bool, false, cond, refl, ap, ◌∙◌, sym, subst, arith, ⊎_elim}
use Rattle.std.specs.Prelude.{◌==◌, slice_set}
use Rattle.std.proofs.lemmas.Bool.{cases_eq, eq-eqb, ne_eqb, cond-true, cond-false, cond_both}
use Rattle.bpf_decode.specs.declared.value.Value.{Value}
use Rattle.bpf_decode.specs.declared.value.Value.TheVariants as values
use Rattle.abstract_regs.specs.declared.link.Link.{Link}
use Rattle.abstract_regs.specs.declared.link.LinkForm.TheVariants.{Unlinked, Whole}
use Rattle.abstract_regs.specs.Kind.{PlainKind, Unset, Num, Ptr, HoldsKind}
use Rattle.abstract_regs.specs.Link.{no_link, is_linked, link_in, HoldsForm, HoldsLink, NameBelow, unlinked}
use Rattle.abstract_regs.specs.Links.{slot_place, taken}
use Rattle.abstract_regs.specs.Frame.{HoldsEach}
use Rattle.abstract_regs.specs.Moves.{value_at, with_value, LinksAre}
use Rattle.abstract_regs.proofs.LinkLists.{link_set_other, link_set_same, link_unlinked}

-- ---- values

pub value_set_same : (cs : List (Option Value)) (d : ℕ) (v : Value) → d < length cs → value_at (slice_set cs d (Some v)) d ≡ Some v
value_set_same [] d v lt = absurd (omega (arith, lt))
value_set_same (c ∷ cs) zero v lt = refl
value_set_same (c ∷ cs) (suc d) v lt = value_set_same cs d v (omega (arith, lt))

pub value_set_other : (cs : List (Option Value)) (d r : ℕ) (x : Option Value) → r ≢ d → value_at (slice_set cs d x) r ≡ value_at cs r
value_set_other [] d r x ne = refl
value_set_other (c ∷ cs) zero zero x ne = absurd (ne refl)
value_set_other (c ∷ cs) zero (suc r) x ne = refl
value_set_other (c ∷ cs) (suc d) zero x ne = refl
value_set_other (c ∷ cs) (suc d) (suc r) x ne = value_set_other cs d r x (λ e. ne (ap suc e))

-- kinds are of no more places than values
pub long_values : (xs : List PlainKind) (cs : List (Option Value)) → HoldsEach xs cs → length xs ≤ length cs
long_values [] cs h = omega arith
long_values (x ∷ xs) [] h = absurd h
long_values (x ∷ xs) (c ∷ cs) h = let less = long_values xs cs h.1 in omega (arith, less)

-- ---- a link in a place

module _ (numbers : ℕ → ℕ) where
  link_here : (links : List Link) (t r : ℕ) (l : Link) (c : Option Value) → (r ≢ t → HoldsLink numbers (link_in links r) c) → (r ≡ t → HoldsLink numbers l c) → HoldsLink numbers (link_in (slice_set links t l) r) c
  link_here links t r l c other same = ⊎_elim
      (λ (e : r ≡ t). ⊎_elim
      (λ (is : link_in (slice_set links t l) t ≡ l). subst (λ m. HoldsLink numbers m c) (sym (ap (link_in (slice_set links t l)) e ∙ is)) (same e))
      (λ (is : link_in (slice_set links t l) t ≡ no_link). subst (λ m. HoldsLink numbers m c) (sym (ap (link_in (slice_set links t l)) e ∙ is)) tt) (link_set_same links t l))
      (λ (ne : r ≢ t). subst (λ m. HoldsLink numbers m c) (sym (link_set_other links t r l ne)) (other ne)) (cases_eq r t)

  register_or_slot : (d j : ℕ) → d ≤ 10 → slot_place j ≡ d → ⊥
  register_or_slot d j le e = omega (arith, le, e)

  slot_same : (i j : ℕ) → slot_place i ≡ slot_place j → i ≡ j
  slot_same i j e = omega (arith, e)

  -- a register gets a value, and a link that is true of it
  pub set_register : (links : List Link) (cs vs : List (Option Value)) (d : ℕ) (l : Link) (v : Value) → LinksAre links cs vs numbers → d ≤ 10 → d < length cs → HoldsLink numbers l (Some v) → LinksAre (slice_set links d l) (with_value cs d v) vs numbers
  set_register links cs vs d l v h le lt is = record {
    registers = λ r few. link_here links d r l (value_at (with_value cs d v) r)
        (λ ne. subst (HoldsLink numbers (link_in links r)) (sym (value_set_other cs d r (Some v) ne)) (h.registers r few))
        (λ e. subst (HoldsLink numbers l) (sym (ap (value_at (with_value cs d v)) e ∙ value_set_same cs d v lt)) is);
    slots = λ j. link_here links d (slot_place j) l (value_at vs j) (λ ne. h.slots j) (λ e. absurd (register_or_slot d j le e));
  }

  -- a place keeps its value, and gets another link that is true of it
  pub relink_register : (links : List Link) (cs vs : List (Option Value)) (s : ℕ) (l : Link) (v : Value) → LinksAre links cs vs numbers → s ≤ 10 → value_at cs s ≡ Some v → HoldsLink numbers l (Some v) → LinksAre (slice_set links s l) cs vs numbers
  relink_register links cs vs s l v h le at is = record {
    registers = λ r few. link_here links s r l (value_at cs r) (λ ne. h.registers r few)
        (λ e. subst (HoldsLink numbers l) (sym (ap (value_at cs) e ∙ at)) is);
    slots = λ j. link_here links s (slot_place j) l (value_at vs j) (λ ne. h.slots j) (λ e. absurd (register_or_slot s j le e));
  }

  pub relink_slot : (links : List Link) (cs vs : List (Option Value)) (j : ℕ) (l : Link) (v : Value) → LinksAre links cs vs numbers → value_at vs j ≡ Some v → HoldsLink numbers l (Some v) → LinksAre (slice_set links (slot_place j) l) cs vs numbers
  relink_slot links cs vs j l v h at is = record {
    registers = λ r few. link_here links (slot_place j) r l (value_at cs r) (λ ne. h.registers r few) (λ e. absurd (register_or_slot r j few (sym e)));
    slots = λ i. link_here links (slot_place j) (slot_place i) l (value_at vs i) (λ ne. h.slots i)
        (λ e. subst (HoldsLink numbers l) (sym (ap (value_at vs) (slot_same i j e) ∙ at)) is);
  }

  -- a slot gets a value, and a link that is true of it
  pub set_slot : (links : List Link) (cs vs ws : List (Option Value)) (j : ℕ) (l : Link) (v : Value) → LinksAre links cs vs numbers → value_at ws j ≡ Some v → ((i : ℕ) → i ≢ j → value_at ws i ≡ value_at vs i) → HoldsLink numbers l (Some v) → LinksAre (slice_set links (slot_place j) l) cs ws numbers
  set_slot links cs vs ws j l v h at others is = record {
    registers = λ r few. link_here links (slot_place j) r l (value_at cs r) (λ ne. h.registers r few) (λ e. absurd (register_or_slot r j few (sym e)));
    slots = λ i. link_here links (slot_place j) (slot_place i) l (value_at ws i)
        (λ ne. subst (HoldsLink numbers (link_in links (slot_place i))) (sym (others i (λ e. ne (ap slot_place e)))) (h.slots i))
        (λ e. subst (HoldsLink numbers l) (sym (ap (value_at ws) (slot_same i j e) ∙ at)) is);
  }

  -- places lose their links, and the others keep their values
  one_unlinked : (places : ℕ → Bool) (links : List Link) (p : ℕ) (c d : Option Value) → HoldsLink numbers (link_in links p) c → (places p ≡ false → d ≡ c) → HoldsLink numbers (link_in (unlinked places 0 links) p) d
  one_unlinked places links p c d h same =
      let here : 0 + p ≡ p = omega arith in
      subst (λ m. HoldsLink numbers m d) (sym (link_unlinked places 0 links p))
      (cond_both (places (0 + p)) no_link (link_in links p) (λ m. HoldsLink numbers m d) (λ _. tt)
      (λ out. subst (HoldsLink numbers (link_in links p)) (sym (same (sym (ap places here) ∙ out))) h))

  pub unlink_places : (places : ℕ → Bool) (links : List Link) (cs ds vs ws : List (Option Value)) → LinksAre links cs vs numbers → ((r : ℕ) → r ≤ 10 → places r ≡ false → value_at ds r ≡ value_at cs r) → ((j : ℕ) → places (slot_place j) ≡ false → value_at ws j ≡ value_at vs j) → LinksAre (unlinked places 0 links) ds ws numbers
  unlink_places places links cs ds vs ws h registers slots = record {
    registers = λ r few. one_unlinked places links r (value_at cs r) (value_at ds r) (h.registers r few) (registers r few);
    slots = λ j. one_unlinked places links (slot_place j) (value_at vs j) (value_at ws j) (h.slots j) (slots j);
  }

-- ---- a name gets its number

abbrev pub named : (ℕ → ℕ) → ℕ → ℕ → ℕ → ℕ
named numbers p n j = cond (j == p) n (numbers j)

-- links whose names are below it don't see it
form_named : (numbers : ℕ → ℕ) (p n : ℕ) (l : Link) (c : Option Value) → NameBelow p l → HoldsLink numbers l c → HoldsLink (named numbers p n) l c
form_named numbers p n l c below h = ⊎_elim
    (λ (none : l.form ≡ Unlinked). subst (λ form. HoldsForm form ((cond (l.name == p) n (numbers l.name) + l.distance) % 2 ^ 64) c) (sym none) tt)
    (λ (less : l.name < p). let ne : l.name ≢ p = λ e. omega (arith, less, e) in
    subst (λ m. HoldsForm l.form ((m + l.distance) % 2 ^ 64) c) (sym (cond-false (l.name == p) n (numbers l.name) (ne_eqb l.name p ne))) h) below

pub links_named : (numbers : ℕ → ℕ) (p n : ℕ) (links : List Link) (cs vs : List (Option Value)) → ((place : ℕ) → NameBelow p (link_in links place)) → LinksAre links cs vs numbers → LinksAre links cs vs (named numbers p n)
links_named numbers p n links cs vs below h = record {
  registers = λ r few. form_named numbers p n (link_in links r) (value_at cs r) (below r) (h.registers r few);
  slots = λ j. form_named numbers p n (link_in links (slot_place j)) (value_at vs j) (below (slot_place j)) (h.slots j);
}

-- the links are true, and so is one more of a value
pub record Takes (links : List Link) (cs vs : List (Option Value)) (l : Link) (v : Value) : Type 0 where
  pub numbers : ℕ → ℕ
  pub are : LinksAre links cs vs numbers
  pub is : HoldsLink numbers l (Some v)

-- the link that a copy takes of a value
pub takes : (numbers : ℕ → ℕ) (p : ℕ) (links : List Link) (cs vs : List (Option Value)) (x : PlainKind) (l : Link) (v : Value) → ((place : ℕ) → NameBelow p (link_in links place)) → LinksAre links cs vs numbers → HoldsKind x (Some v) → HoldsLink numbers l (Some v) → Takes links cs vs (taken p x l) v
takes numbers p links cs vs Unset l v below h k is = record { numbers = numbers; are = h; is = tt }
takes numbers p links cs vs (Ptr r k) l v below h held is = record { numbers = numbers; are = h; is = tt }
takes numbers p links cs vs (Num k) l (values.Ptr r at) below h held is = absurd held
takes numbers p links cs vs (Num k) l (values.Num n) below h held is =
    cond_both (is_linked l.form) l (record { distance = 0; name = p; form = Whole }) (λ m. Takes links cs vs m (values.Num n))
    (λ _. record { numbers = numbers; are = h; is = is })
    (λ _. record {
      numbers = named numbers p n;
      are = links_named numbers p n links cs vs below h;
      is = let small = held.fits in let same : n ≡ (n + 0) % 2 ^ 64 = omega (arith, small) in same ∙ ap (λ m. (m + 0) % 2 ^ 64) (sym (cond-true (p == p) n (numbers p) (eq-eqb p p refl)));
    })
