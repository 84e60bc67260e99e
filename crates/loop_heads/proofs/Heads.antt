-- Proofs: the tests say what the facts say, and loops are refused exactly where they are none.
use lib.Signed.{le_z}
use Rattle.std.proofs.Common.{◌≡◌, ◌↔◌, ◌≤◌, ◌≤ℤ◌, ℕ, ℤ, ◌+◌, List, [], ◌∷◌, Option, Some, None, length, arith, refl, ◌∙◌}
use Rattle.std.proofs.Common.{Bool, true, false, cond, ◌==◌, leb, not, ◌&&◌}
use Rattle.std.proofs.lemmas.Bool.{and_parts, and_from, cond-true, leb-true, le-leb, not-true, not_from_false, eqb-false, ne_eqb}
use Rattle.std.proofs.lemmas.Int.{ints}
use Rattle.std.specs.List.{AllByRecursion}
use Rattle.loop_heads.specs.declared.place.PlaceKind.{PlaceKind}
use Rattle.loop_heads.specs.declared.place.PlaceKind.TheVariants.{Unset, Any, Unsigned, Signed, Input, Output, Stack}
use Rattle.loop_heads.specs.declared.place.HeadPlace.{HeadPlace}
use Rattle.loop_heads.specs.declared.loops_error.LoopsError.{LoopsError}
use Rattle.loop_heads.specs.declared.loops_error.LoopsError.TheVariants.{Head}
use Rattle.loop_heads.specs.declared.limits.TheConstants.{HEAD_LIMIT, BUDGET_LIMIT, PLACE_LIMIT}
use Rattle.loop_heads.specs.Loops.{PlainHead, IsKind, IsPlace, PlacesRise, IsHead, SlotsRise, IsLoops}
use Rattle.loop_heads.specs.Loops.{is_kind, is_place, are_places, is_head, heads_refusal}

le_true : (a b : ℤ) → le_z a b ≡ true → a ≤ℤ b
le_true a b e = grind (arith, ints)

true_le : (a b : ℤ) → a ≤ℤ b → le_z a b ≡ true
true_le a b e = grind (arith, ints)

kind_of_test : (k : PlaceKind) → is_kind k ≡ true → IsKind k
kind_of_test Unset h = tt
kind_of_test Any h = tt
kind_of_test (Unsigned a b) h = leb-true a b h
kind_of_test (Signed a b) h = le_true a b h
kind_of_test (Input a b) h = leb-true a b h
kind_of_test (Output a b) h = leb-true a b h
kind_of_test (Stack a b) h = leb-true a b h

test_of_kind : (k : PlaceKind) → IsKind k → is_kind k ≡ true
test_of_kind Unset h = refl
test_of_kind Any h = refl
test_of_kind (Unsigned a b) h = le-leb a b h
test_of_kind (Signed a b) h = true_le a b h
test_of_kind (Input a b) h = le-leb a b h
test_of_kind (Output a b) h = le-leb a b h
test_of_kind (Stack a b) h = le-leb a b h

place_of_test : (p : HeadPlace) → is_place p ≡ true → IsPlace p
place_of_test p h =
    let a = and_parts (leb p.number PLACE_LIMIT) (not (p.number == 10) && is_kind p.kind) h in
    let b = and_parts (not (p.number == 10)) (is_kind p.kind) a.1 in
    record {
      known = leb-true p.number PLACE_LIMIT a.0;
      not_r10 = eqb-false p.number 10 (not-true (p.number == 10) b.0);
      kind = kind_of_test p.kind b.1;
    }

test_of_place : (p : HeadPlace) → IsPlace p → is_place p ≡ true
test_of_place p h =
    and_from (leb p.number PLACE_LIMIT) (not (p.number == 10) && is_kind p.kind) (le-leb p.number PLACE_LIMIT h.known)
    (and_from (not (p.number == 10)) (is_kind p.kind) (not_from_false (p.number == 10) (ne_eqb p.number 10 h.not_r10))
    (test_of_kind p.kind h.kind))

-- the parts of a test of places
parts : (least : ℕ) (p : HeadPlace) (ps : List HeadPlace) → are_places least (p ∷ ps) ≡ true →
    (least ≤ p.number) × IsPlace p × (are_places (p.number + 1) ps ≡ true)
parts least p ps h =
    let a = and_parts (leb least p.number && is_place p) (are_places (p.number + 1) ps) h in
    let b = and_parts (leb least p.number) (is_place p) a.0 in
    (leb-true least p.number b.0, place_of_test p b.1, a.1)

whole : (least : ℕ) (p : HeadPlace) (ps : List HeadPlace) → least ≤ p.number → IsPlace p →
    are_places (p.number + 1) ps ≡ true → are_places least (p ∷ ps) ≡ true
whole least p ps l i h =
    and_from (leb least p.number && is_place p) (are_places (p.number + 1) ps)
    (and_from (leb least p.number) (is_place p) (le-leb least p.number l) (test_of_place p i)) h

-- places after another one
after_test : (p : HeadPlace) (ps : List HeadPlace) → are_places (p.number + 1) ps ≡ true →
    AllByRecursion IsPlace ps × PlacesRise (p ∷ ps)
after_test p [] h = (tt, tt)
after_test p (q ∷ qs) h =
    let a = parts (p.number + 1) q qs h in
    let b = after_test q qs a.2 in
    ((a.1, b.0), (omega (arith, a.0), b.1))

test_after : (p : HeadPlace) (ps : List HeadPlace) → AllByRecursion IsPlace ps → PlacesRise (p ∷ ps) →
    are_places (p.number + 1) ps ≡ true
test_after p [] a r = refl
test_after p (q ∷ qs) a r = whole (p.number + 1) q qs (omega (arith, r.0)) a.0 (test_after q qs a.1 r.1)

places_of_test : (ps : List HeadPlace) → are_places 0 ps ≡ true → AllByRecursion IsPlace ps × PlacesRise ps
places_of_test [] h = (tt, tt)
places_of_test (p ∷ ps) h =
    let a = parts 0 p ps h in
    let b = after_test p ps a.2 in
    ((a.1, b.0), b.1)

test_of_places : (ps : List HeadPlace) → AllByRecursion IsPlace ps → PlacesRise ps → are_places 0 ps ≡ true
test_of_places [] a r = refl
test_of_places (p ∷ ps) a r = whole 0 p ps (omega arith) a.0 (test_after p ps a.1 r)

head_of_test : (h : PlainHead) → is_head h ≡ true → IsHead h
head_of_test h t = let a = places_of_test h.places t in record { places = a.0; rise = a.1 }

test_of_head : (h : PlainHead) → IsHead h → is_head h ≡ true
test_of_head h i = test_of_places h.places i.places i.rise

-- where nothing is refused, the test held
held : (b : Bool) (o : Option LoopsError) (e : LoopsError) → cond b o (Some e) ≡ None → (b ≡ true) × (o ≡ None)
held true o e h = (refl, h)
held false o e h = cc

-- the parts of heads that aren't refused
head_parts : (least : ℕ) (h : PlainHead) (hs : List PlainHead) → heads_refusal least (h ∷ hs) ≡ None →
    (least ≤ h.slot) × IsHead h × (heads_refusal (h.slot + 1) hs ≡ None)
head_parts least h hs e =
    let a = held (leb least h.slot && is_head h) (heads_refusal (h.slot + 1) hs) (Head h.slot) e in
    let b = and_parts (leb least h.slot) (is_head h) a.0 in
    (leb-true least h.slot b.0, head_of_test h b.1, a.1)

after_heads : (h : PlainHead) (hs : List PlainHead) → heads_refusal (h.slot + 1) hs ≡ None →
    AllByRecursion IsHead hs × SlotsRise (h ∷ hs)
after_heads h [] e = (tt, tt)
after_heads h (i ∷ is) e =
    let a = head_parts (h.slot + 1) i is e in
    let b = after_heads i is a.2 in
    ((a.1, b.0), (omega (arith, a.0), b.1))

heads_right : (hs : List PlainHead) → heads_refusal 0 hs ≡ None → AllByRecursion IsHead hs × SlotsRise hs
heads_right [] e = (tt, tt)
heads_right (h ∷ hs) e =
    let a = head_parts 0 h hs e in
    let b = after_heads h hs a.2 in
    ((a.1, b.0), b.1)

-- heads that are right aren't refused
whole_heads : (least : ℕ) (h : PlainHead) (hs : List PlainHead) → least ≤ h.slot → IsHead h →
    heads_refusal (h.slot + 1) hs ≡ None → heads_refusal least (h ∷ hs) ≡ None
whole_heads least h hs l i e =
    cond-true (leb least h.slot && is_head h) (heads_refusal (h.slot + 1) hs) (Some (Head h.slot))
    (and_from (leb least h.slot) (is_head h) (le-leb least h.slot l) (test_of_head h i)) ∙ e

right_after : (h : PlainHead) (hs : List PlainHead) → AllByRecursion IsHead hs → SlotsRise (h ∷ hs) →
    heads_refusal (h.slot + 1) hs ≡ None
right_after h [] a r = refl
right_after h (i ∷ is) a r = whole_heads (h.slot + 1) i is (omega (arith, r.0)) a.0 (right_after i is a.1 r.1)

right_heads : (hs : List PlainHead) → AllByRecursion IsHead hs → SlotsRise hs → heads_refusal 0 hs ≡ None
right_heads [] a r = refl
right_heads (h ∷ hs) a r = whole_heads 0 h hs (omega arith) a.0 (right_after h hs a.1 r)

pub loops_right : (budget : ℕ) (heads : List PlainHead) → 1 ≤ length heads → length heads ≤ HEAD_LIMIT →
    1 ≤ budget → budget ≤ BUDGET_LIMIT →
    (heads_refusal 0 heads ≡ None) ↔ IsLoops (record { budget = budget; heads = heads })
loops_right budget heads s f p b = (
  λ e. let r = heads_right heads e in record { some = s; few = f; paid = p; bounded = b; heads = r.0; rise = r.1 },
  λ l. right_heads heads l.heads l.rise,
)
