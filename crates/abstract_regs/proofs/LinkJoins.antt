-- The laws of the join of links.
use Rattle.std.proofs.Common.{◌≡◌, ◌≢◌, ℕ, zero, suc, List, [], ◌∷◌, Option, Bool, true, false, refl, inl, inr, ap, ◌∙◌, sym, subst, length, arith, ⊎_elim}
use Rattle.std.specs.Prelude.{◌⊎◌, ◌==◌, ◌&&◌, replicate}
use Rattle.std.proofs.lemmas.Bool.{false≢true, and_parts, eqb-true, eq-eqb, cond-true, cond-false}
use mathlib.Core.Path.{ap₂}
use Rattle.bpf_decode.specs.declared.value.Value.{Value}
use Rattle.abstract_regs.specs.declared.link.Link.{Link}
use Rattle.abstract_regs.specs.declared.link.LinkForm.{LinkForm}
use Rattle.abstract_regs.specs.declared.link.LinkForm.TheVariants.{Unlinked, Whole, Low, Up, Sign}
use Rattle.abstract_regs.specs.Link.{no_link, link_in, HoldsLink, NameBelow, form_number, same_link, join_link, join_links}
use Rattle.abstract_regs.specs.Links.{slot_place}
use Rattle.abstract_regs.specs.Frame.{PlainFrame, join}
use Rattle.abstract_regs.specs.Moves.{value_at, HoldsLinks}
use Rattle.abstract_regs.specs.Laws.{LinksCommute, LinksAssociate, LinksOfSame, LinksAreAbove, JoinsKeepLinks, JoinsKeepNames}

-- ---- one link

abbrev form_of : ℕ → LinkForm
form_of zero = Unlinked
form_of (suc zero) = Whole
form_of (suc (suc zero)) = Low
form_of (suc (suc (suc zero))) = Up
form_of (suc (suc (suc (suc n)))) = Sign

form_back : (form : LinkForm) → form_of (form_number form) ≡ form
form_back Unlinked = refl
form_back Whole = refl
form_back Low = refl
form_back Up = refl
form_back Sign = refl

same_is : (l m : Link) → same_link l m ≡ true → l ≡ m
same_is l m e =
    let one = and_parts (l.distance == m.distance) _ e in
    let two = and_parts (l.name == m.name) _ one.1 in
    let d : l.distance ≡ m.distance = eqb-true l.distance m.distance one.0 in
    let j : l.name ≡ m.name = eqb-true l.name m.name two.0 in
    let number : form_number l.form ≡ form_number m.form = eqb-true (form_number l.form) (form_number m.form) two.1 in
    let form : l.form ≡ m.form = sym (form_back l.form) ∙ ap form_of number ∙ form_back m.form in
    let of : ℕ → ℕ → LinkForm → Link = λ d j form. record { distance = d; name = j; form = form } in
    ap (λ x. of x l.name l.form) d ∙ ap (λ x. of m.distance x l.form) j ∙ ap (λ x. of m.distance m.name x) form

both_true : (a b : Bool) → a ≡ true → b ≡ true → (a && b) ≡ true
both_true true b e h = h
both_true false b e h = absurd (false≢true e)

same_self : (l : Link) → same_link l l ≡ true
same_self l = both_true (l.distance == l.distance) _ (eq-eqb l.distance l.distance refl) (both_true (l.name == l.name) _ (eq-eqb l.name l.name refl) (eq-eqb (form_number l.form) (form_number l.form) refl))

-- the link that both are, or none
pub joined : (l m : Link) → ((l ≡ m) × (join_link l m ≡ l)) ⊎ ((l ≢ m) × (join_link l m ≡ no_link))
joined l m = one (same_link l m) refl
  where
    one : (b : Bool) → b ≡ same_link l m → ((l ≡ m) × (join_link l m ≡ l)) ⊎ ((l ≢ m) × (join_link l m ≡ no_link))
    one true e = inl (same_is l m (sym e), cond-true (same_link l m) l no_link (sym e))
    one false e = inr ((λ same. false≢true (e ∙ sym (ap (same_link l) same) ∙ same_self l)), cond-false (same_link l m) l no_link (sym e))

with_none : (l : Link) → join_link l no_link ≡ no_link
with_none l = ⊎_elim (λ (h : (l ≡ no_link) × (join_link l no_link ≡ l)). h.1 ∙ h.0) (λ (h : (l ≢ no_link) × (join_link l no_link ≡ no_link)). h.1) (joined l no_link)

none_with : (l : Link) → join_link no_link l ≡ no_link
none_with l = ⊎_elim (λ (h : (no_link ≡ l) × (join_link no_link l ≡ no_link)). h.1) (λ (h : (no_link ≢ l) × (join_link no_link l ≡ no_link)). h.1) (joined no_link l)

link_same : (l : Link) → join_link l l ≡ l
link_same l = ⊎_elim (λ (h : (l ≡ l) × (join_link l l ≡ l)). h.1) (λ (h : (l ≢ l) × (join_link l l ≡ no_link)). absurd (h.0 refl)) (joined l l)

link_commutes : (l m : Link) → join_link l m ≡ join_link m l
link_commutes l m = ⊎_elim
    (λ (h : (l ≡ m) × (join_link l m ≡ l)). subst (λ x. join_link l x ≡ join_link x l) h.0 refl)
    (λ (h : (l ≢ m) × (join_link l m ≡ no_link)). h.1 ∙ sym (⊎_elim
    (λ (k : (m ≡ l) × (join_link m l ≡ m)). absurd (h.0 (sym k.0)))
    (λ (k : (m ≢ l) × (join_link m l ≡ no_link)). k.1) (joined m l))) (joined l m)

link_associates : (l m n : Link) → join_link (join_link l m) n ≡ join_link l (join_link m n)
link_associates l m n = ⊎_elim
    (λ (h : (m ≡ n) × (join_link m n ≡ m)).
    subst (λ x. join_link (join_link l m) x ≡ join_link l m) h.0 (twice l m) ∙ sym (ap (join_link l) h.1))
    (λ (h : (m ≢ n) × (join_link m n ≡ no_link)).
    ⊎_elim
    (λ (k : (l ≡ m) × (join_link l m ≡ l)). ap (λ x. join_link x n) (k.1 ∙ k.0) ∙ h.1)
    (λ (k : (l ≢ m) × (join_link l m ≡ no_link)). ap (λ x. join_link x n) k.1 ∙ none_with n) (joined l m)
    ∙ sym (ap (join_link l) h.1 ∙ with_none l)) (joined m n)
  where
    twice : (l m : Link) → join_link (join_link l m) m ≡ join_link l m
    twice l m = ⊎_elim
        (λ (k : (l ≡ m) × (join_link l m ≡ l)). ap (λ x. join_link x m) k.1)
        (λ (k : (l ≢ m) × (join_link l m ≡ no_link)). ap (λ x. join_link x m) k.1 ∙ none_with m ∙ sym k.1) (joined l m)

-- ---- lists

pub links_commute : LinksCommute
links_commute [] [] e = refl
links_commute [] (m ∷ ms) e = absurd (omega arith)
links_commute (l ∷ ls) [] e = absurd (omega arith)
links_commute (l ∷ ls) (m ∷ ms) e = ap₂ (λ x xs. x ∷ xs) (link_commutes l m) (links_commute ls ms (omega arith))

pub links_associate : LinksAssociate
links_associate [] [] [] e f = refl
links_associate [] [] (n ∷ ns) e f = absurd (omega arith)
links_associate [] (m ∷ ms) ns e f = absurd (omega arith)
links_associate (l ∷ ls) [] ns e f = absurd (omega arith)
links_associate (l ∷ ls) (m ∷ ms) [] e f = absurd (omega arith)
links_associate (l ∷ ls) (m ∷ ms) (n ∷ ns) e f = ap₂ (λ x xs. x ∷ xs) (link_associates l m n) (links_associate ls ms ns (omega arith) (omega arith))

pub links_of_same : LinksOfSame
links_of_same [] = refl
links_of_same (l ∷ ls) = ap₂ (λ x xs. x ∷ xs) (link_same l) (links_of_same ls)

link_above : (l m : Link) → (join_link l m ≡ no_link) ⊎ (l ≡ join_link l m)
link_above l m = ⊎_elim (λ (h : (l ≡ m) × (join_link l m ≡ l)). inr (sym h.1)) (λ (h : (l ≢ m) × (join_link l m ≡ no_link)). inl h.1) (joined l m)

pub links_above : LinksAreAbove
links_above [] [] e = tt
links_above [] (m ∷ ms) e = absurd (omega arith)
links_above (l ∷ ls) [] e = absurd (omega arith)
links_above (l ∷ ls) (m ∷ ms) e = (link_above l m, links_above ls ms (omega arith))

length_joined : (ls ms : List Link) → length ms ≡ length ls → length (join_links ls ms) ≡ length ls
length_joined [] ms e = refl
length_joined (l ∷ ls) [] e = absurd (omega (arith, e))
length_joined (l ∷ ls) (m ∷ ms) e = ap suc (length_joined ls ms (omega (arith, e)))

pub joins_keep_links : JoinsKeepLinks
joins_keep_links f g e = length_joined f.links g.links e

-- ---- places

-- a place has no link in the join, or the one that it has in both
place_joined : (ls ms : List Link) (p : ℕ) → (link_in (join_links ls ms) p ≡ no_link) ⊎ ((link_in (join_links ls ms) p ≡ link_in ls p) × (link_in (join_links ls ms) p ≡ link_in ms p))
place_joined [] ms p = inl refl
place_joined (l ∷ ls) [] p = inl refl
place_joined (l ∷ ls) (m ∷ ms) zero = ⊎_elim
    (λ (h : (l ≡ m) × (join_link l m ≡ l)). inr (h.1, h.1 ∙ h.0)) (λ (h : (l ≢ m) × (join_link l m ≡ no_link)). inl h.1) (joined l m)
place_joined (l ∷ ls) (m ∷ ms) (suc p) = place_joined ls ms p

abbrev Joined : List Link → List Link → ℕ → Type 0
Joined ls ms p = (link_in (join_links ls ms) p ≡ link_in ls p) × (link_in (join_links ls ms) p ≡ link_in ms p)

left_held : (numbers : ℕ → ℕ) (ls ms : List Link) (p : ℕ) (c : Option Value) → HoldsLink numbers (link_in ls p) c → HoldsLink numbers (link_in (join_links ls ms) p) c
left_held numbers ls ms p c h = ⊎_elim
    (λ (e : link_in (join_links ls ms) p ≡ no_link). subst (λ l. HoldsLink numbers l c) (sym e) tt)
    (λ (e : Joined ls ms p). subst (λ l. HoldsLink numbers l c) (sym e.0) h) (place_joined ls ms p)

right_held : (numbers : ℕ → ℕ) (ls ms : List Link) (p : ℕ) (c : Option Value) → HoldsLink numbers (link_in ms p) c → HoldsLink numbers (link_in (join_links ls ms) p) c
right_held numbers ls ms p c h = ⊎_elim
    (λ (e : link_in (join_links ls ms) p ≡ no_link). subst (λ l. HoldsLink numbers l c) (sym e) tt)
    (λ (e : Joined ls ms p). subst (λ l. HoldsLink numbers l c) (sym e.1) h) (place_joined ls ms p)

pub joins_left : (f g : PlainFrame) (cs vs : List (Option Value)) → HoldsLinks f cs vs → HoldsLinks (join f g) cs vs
joins_left f g cs vs h =
    let numbers = h.0 in
    let are = h.1 in (
      numbers,
      record {
        registers = λ r few. left_held numbers f.links g.links r (value_at cs r) (are.registers r few);
        slots = λ j. left_held numbers f.links g.links (slot_place j) (value_at vs j) (are.slots j);
      },
    )

pub joins_right : (f g : PlainFrame) (cs vs : List (Option Value)) → HoldsLinks g cs vs → HoldsLinks (join f g) cs vs
joins_right f g cs vs h =
    let numbers = h.0 in
    let are = h.1 in (
      numbers,
      record {
        registers = λ r few. right_held numbers f.links g.links r (value_at cs r) (are.registers r few);
        slots = λ j. right_held numbers f.links g.links (slot_place j) (value_at vs j) (are.slots j);
      },
    )

pub joins_keep_names : JoinsKeepNames
joins_keep_names f g p h place = ⊎_elim
    (λ (e : link_in (join_links f.links g.links) place ≡ no_link). subst (NameBelow p) (sym e) (inl refl))
    (λ (e : Joined f.links g.links place). subst (NameBelow p) (sym e.0) (h place)) (place_joined f.links g.links place)

-- ---- without links

pub none_in : (k p : ℕ) → link_in (replicate k no_link) p ≡ no_link
none_in zero p = refl
none_in (suc k) zero = refl
none_in (suc k) (suc p) = none_in k p
