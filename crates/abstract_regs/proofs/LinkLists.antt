-- Lists of links: places without theirs, and other links in their places.
use Rattle.std.proofs.Common.{◌≡◌, ◌≢◌, ℕ, zero, suc, ◌+◌, ◌<◌, ◌≤◌, List, [], ◌∷◌, length, Bool, true, false, cond, refl, inl, inr, ap, ◌∙◌, sym, arith, set}
use Rattle.std.specs.Prelude.{◌⊎◌, ◌&&◌, Some, None, ◌/◌, min, nat_lt, nat_le, slice_set}
use Rattle.std.proofs.lemmas.Bool.{cond_both}
use Rattle.std.proofs.lemmas.Bool.Decides.{nat_tests}
use Rattle.std.proofs.lemmas.List.{get_or-set_other}
use Rattle.abstract_regs.specs.declared.link.Link.{Link}
use Rattle.abstract_regs.specs.Link.{no_link, link_in, unlinked}
use Rattle.abstract_regs.specs.Slots.{Span}
use Rattle.abstract_regs.specs.Links.{is_touched}

-- ---- a link in a place

-- another place keeps its link
pub link_set_other : (ls : List Link) (d p : ℕ) (l : Link) → p ≢ d → link_in (slice_set ls d l) p ≡ link_in ls p
link_set_other ls d p l ne = get_or-set_other ls d p l no_link ne

-- the place gets the link, or has none
pub link_set_same : (ls : List Link) (d : ℕ) (l : Link) → (link_in (slice_set ls d l) d ≡ l) ⊎ (link_in (slice_set ls d l) d ≡ no_link)
link_set_same [] d l = inr refl
link_set_same (x ∷ ls) zero l = inl refl
link_set_same (x ∷ ls) (suc d) l = link_set_same ls d l

-- ---- places without links

pub link_unlinked : (places : ℕ → Bool) (at : ℕ) (ls : List Link) (i : ℕ) → link_in (unlinked places at ls) i ≡ cond (places (at + i)) no_link (link_in ls i)
link_unlinked places at [] i = sym (cond_both (places (at + i)) no_link no_link (λ l. l ≡ no_link) (λ _. refl) (λ _. refl))
link_unlinked places at (l ∷ ls) zero =
    let here : at + 0 ≡ at = omega arith in
    sym (ap (λ n. cond (places n) no_link l) here)
link_unlinked places at (l ∷ ls) (suc i) =
    let next : at + 1 + i ≡ at + suc i = omega arith in
    link_unlinked places (at + 1) ls i ∙ ap (λ n. cond (places n) no_link (link_in ls i)) next

pub length_unlinked : (places : ℕ → Bool) (at : ℕ) (ls : List Link) → length (unlinked places at ls) ≡ length ls
length_unlinked places at [] = refl
length_unlinked places at (l ∷ ls) = ap suc (length_unlinked places (at + 1) ls)

-- by the places alone that the list has
pub unlinked_same : (a b : ℕ → Bool) (at : ℕ) (ls : List Link) → ((i : ℕ) → i < length ls → a (at + i) ≡ b (at + i)) → unlinked a at ls ≡ unlinked b at ls
unlinked_same a b at [] h = refl
unlinked_same a b at (l ∷ ls) h =
    let here : at + 0 ≡ at = omega arith in
    let same : a at ≡ b at = sym (ap a here) ∙ h 0 (omega arith) ∙ ap b here in
    ap (λ t. cond t no_link l ∷ unlinked a (at + 1) ls) same
    ∙ ap (λ t. cond (b at) no_link l ∷ t) (unlinked_same a b (at + 1) ls (λ i lt. let next : at + suc i ≡ at + 1 + i = omega arith in sym (ap a next) ∙ h (suc i) (omega (arith, lt)) ∙ ap b next))

pub unlinked_none : (places : ℕ → Bool) (at : ℕ) (ls : List Link) → ((i : ℕ) → i < length ls → places (at + i) ≡ false) → unlinked places at ls ≡ ls
unlinked_none places at [] h = refl
unlinked_none places at (l ∷ ls) h =
    let here : at + 0 ≡ at = omega arith in
    let out : places at ≡ false = sym (ap places here) ∙ h 0 (omega arith) in
    ap (λ t. cond t no_link l ∷ unlinked places (at + 1) ls) out
    ∙ ap (λ t. l ∷ t) (unlinked_none places (at + 1) ls (λ i lt. let next : at + suc i ≡ at + 1 + i = omega arith in sym (ap places next) ∙ h (suc i) (omega (arith, lt))))

-- the places from the first to before n
abbrev pub span_to : ℕ → ℕ → ℕ → Bool
span_to first n place = nat_le first place && nat_lt place n

-- one place more
pub unlinked_more : (first n at i : ℕ) (ls : List Link) → n ≡ at + i → first ≤ n → i < length ls
    → set (unlinked (span_to first n) at ls) i no_link ≡ unlinked (span_to first (n + 1)) at ls
unlinked_more first n at i [] e le lt = absurd (omega (arith, lt))
unlinked_more first n at zero (l ∷ ls) e le lt =
    let here : n ≡ at = omega (arith, e) in
    let new : span_to first (n + 1) at ≡ true = grind (arith, nat_tests) in
    ap (λ t. no_link ∷ t) (unlinked_same (span_to first n) (span_to first (n + 1)) (at + 1) ls (λ k klt. let past : n < at + 1 + k = omega (arith, here) in later first n (at + 1 + k) past))
    ∙ sym (ap (λ t. cond t no_link l ∷ unlinked (span_to first (n + 1)) (at + 1) ls) new)
  where
    later : (first n p : ℕ) → n < p → span_to first n p ≡ span_to first (n + 1) p
    later first n p h = grind (arith, nat_tests)
unlinked_more first n at (suc i) (l ∷ ls) e le lt =
    let next : n ≡ at + 1 + i = omega (arith, e) in
    let same : span_to first n at ≡ span_to first (n + 1) at = grind (arith, nat_tests) in
    ap (λ t. cond (span_to first n at) no_link l ∷ t) (unlinked_more first n (at + 1) i ls next le (omega (arith, lt)))
    ∙ ap (λ t. cond t no_link l ∷ unlinked (span_to first (n + 1)) (at + 1) ls) same

-- ---- the slots that bytes may touch

pub unlinked_nowhere : (ls : List Link) → unlinked (is_touched None) 0 ls ≡ ls
unlinked_nowhere ls = unlinked_none (is_touched None) 0 ls (λ i lt. nowhere i)
  where
    nowhere : (i : ℕ) → (nat_le 11 (0 + i) && false) ≡ false
    nowhere i = grind (arith, nat_tests)

pub unlinked_span : (s : Span) (first end : ℕ) (ls : List Link) → first ≡ 11 + s.low / 8 → end ≡ 11 + min (length ls) ((s.high + 7) / 8) → unlinked (span_to first end) 0 ls ≡ unlinked (is_touched (Some s)) 0 ls
unlinked_span s first end ls a b = unlinked_same (span_to first end) (is_touched (Some s)) 0 ls (λ i lt. each i lt)
  where
    each : (i : ℕ) → i < length ls → span_to first end (0 + i) ≡ is_touched (Some s) (0 + i)
    each i lt = grind (arith, nat_tests)
