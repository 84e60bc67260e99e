-- Heads, and loops, are read exactly.
use Rattle.std.proofs.Common.{◌≡◌, ◌∙◌, ℕ, zero, suc, ◌+◌, ◌-◌, ◌^◌, ◌<◌, ◌≤◌, Bool, true, false, cond, List, [], ◌∷◌, ◌++◌, Option, Some, None, Result, Ok, Err, refl, ap, sym, subst, arith, length, append_assoc, drop, length-append, get_or, inl, inr}
use Rattle.std.specs.Prelude.{nat_le, not, ◌==◌, ◌&&◌, IfOk, if◌then◌else◌}
use Rattle.std.specs.List.{flat_map, AllByRecursion}
use Rattle.std.proofs.lemmas.Bool.{le-leb, leb-true, and_parts, and_from, ne_eqb, cond-true}
use Rattle.std.proofs.lemmas.List.{drop_at}
use Rattle.byteorder.specs.Endian.{little_bytes}
use Rattle.loop_heads.specs.declared.place.HeadPlace.{HeadPlace}
use Rattle.loop_heads.specs.declared.loops_error.LoopsError.{LoopsError}
use Rattle.loop_heads.specs.declared.loops_error.LoopsError.TheVariants as errors
use Rattle.loop_heads.specs.declared.limits.TheConstants.{HEAD_LIMIT, BUDGET_LIMIT, PLACE_LIMIT}
use Rattle.loop_heads.specs.Loops.{PlainHead, PlainLoops, is_kind, is_place, are_places, is_head, heads_refusal, are_within, loops_refusal}
use Rattle.loop_heads.proofs.Heads.{loops_right}
use Rattle.loop_bytes.specs.declared.heads_error.HeadsError.{HeadsError}
use Rattle.loop_bytes.specs.declared.reading.ReadLoops.{ReadLoops}
use Rattle.loop_bytes.specs.HeadBytes.{place_bytes, head_bytes, loops_bytes, KindFits, HeadFits, StartAt, AreLoopsOf, BeginsWith}
use Rattle.loop_bytes.specs.Reading.{◌>>=◌, number_from, count_from, budget_from, slot_from, place_from, after_place, places_from, head_from, after_head, heads_from, some_from, loops_from, Gives}
use Rattle.loop_bytes.proofs.Exact.{IsExact, came, done, ok_is, moved, AreBytes, are_left, joined, AreInTurn, turns}
use Rattle.loop_bytes.proofs.ExactFields.{number_exact, count_exact, is_budget, budget_exact, slot_exact, IsPlaceFrom, place_exact}

-- ---- places

abbrev BoundsFit : List HeadPlace → Type 0
BoundsFit = AllByRecursion (λ p. KindFits p.kind)

places_are : (least : ℕ) (ps : List HeadPlace) → AreInTurn IsPlaceFrom after_place least ps → (are_places least ps ≡ true) × BoundsFit ps
places_are least [] h = (refl, tt)
places_are least (p ∷ ps) h =
    let more = places_are (p.number + 1) ps h.1 in
    (and_from (nat_le least p.number && is_place p) (are_places (p.number + 1) ps) h.0.0 more.0, (h.0.1, more.1))

are_in_turn : (least : ℕ) (ps : List HeadPlace) → are_places least ps ≡ true → BoundsFit ps → AreInTurn IsPlaceFrom after_place least ps
are_in_turn least [] t f = tt
are_in_turn least (p ∷ ps) t f =
    let a = and_parts (nat_le least p.number && is_place p) (are_places (p.number + 1) ps) t in
    ((a.0, f.0), are_in_turn (p.number + 1) ps a.1 f.1)

places_exact : (slot n : ℕ) → IsExact (places_from slot n) (flat_map place_bytes) (λ ps. (length ps ≡ n) × AreInTurn IsPlaceFrom after_place 0 ps)
places_exact slot n = turns (place_from slot) after_place place_bytes IsPlaceFrom (place_exact slot) n 0

-- there are no more than the numbers from `least` to 74
few_from : (least : ℕ) (ps : List HeadPlace) → are_places least ps ≡ true → length ps ≤ 75 - least
few_from least [] t = omega arith
few_from least (p ∷ ps) t =
    let a = and_parts (nat_le least p.number && is_place p) (are_places (p.number + 1) ps) t in
    let b = and_parts (nat_le least p.number) (is_place p) a.0 in
    let c = and_parts (nat_le p.number PLACE_LIMIT) (not (p.number == 10) && is_kind p.kind) b.1 in
    let low = leb-true least p.number b.0 in
    let high = leb-true p.number PLACE_LIMIT c.0 in
    let more = few_from (p.number + 1) ps a.1 in
    omega (arith, low, high, more)

-- ---- a head

-- a head that may follow those at lower slots
abbrev pub IsHeadFrom : List Bool → ℕ → PlainHead → Type 0
IsHeadFrom starts least h = ((nat_le least h.slot && is_head h) ≡ true) × StartAt starts h.slot × HeadFits h

abbrev made : ℕ → List HeadPlace → PlainHead
made slot places = record { slot = slot; places = places }

abbrev Head_read : Type 0
Head_read = Result (PlainHead × List ℕ) HeadsError

abbrev after_slot : ℕ × List ℕ → Head_read
after_slot slot = number_from 1 slot.1 >>= λ count. places_from slot.0 count.0 count.1 >>= λ places. Ok (made slot.0 places.0, places.1)

abbrev after_count : ℕ → ℕ × List ℕ → Head_read
after_count slot count = places_from slot count.0 count.1 >>= λ places. Ok (made slot places.0, places.1)

abbrev after_places : ℕ → List HeadPlace × List ℕ → Head_read
after_places slot places = Ok (made slot places.0, places.1)

pub head_exact : (starts : List Bool) (least : ℕ) → IsExact (head_from starts least) head_bytes (IsHeadFrom starts least)
unfolding head_from
head_exact starts least = record {
  again = λ h rest is.
      let t = and_parts (nat_le least h.slot) (is_head h) is.0 in
      let n = length h.places in
      let all = flat_map place_bytes h.places in
      let few : n < 256 ^ 1 = omega (arith, few_from 0 h.places t.1) in
      ap (head_from starts least) (append_assoc (little_bytes 2 h.slot) (little_bytes 1 n ++ all) rest ∙ ap (λ (l : List ℕ). little_bytes 2 h.slot ++ l) (append_assoc (little_bytes 1 n) all rest))
      ∙ ap (λ (r : Result (ℕ × List ℕ) HeadsError). r >>= after_slot) ((slot_exact starts least).again h.slot (little_bytes 1 n ++ (all ++ rest)) (is.2.slot, and_from (nat_le least h.slot) (get_or starts h.slot false) t.0 is.1))
      ∙ ap (λ (r : Result (ℕ × List ℕ) HeadsError). r >>= after_count h.slot) ((number_exact 1).again n (all ++ rest) few)
      ∙ ap (λ (r : Result (List HeadPlace × List ℕ) HeadsError). r >>= after_places h.slot) ((places_exact h.slot n).again h.places rest (refl, are_in_turn 0 h.places t.1 is.2.bounds));
  exact = λ bytes h rest are r.
      let s = came (slot_from starts least bytes) after_slot (h, rest) r in
      let slot = s.0.0 in
      let c = came (number_from 1 s.0.1) (after_count slot) (h, rest) s.2 in
      let n = c.0.0 in
      let p = came (places_from slot n c.0.1) (after_places slot) (h, rest) c.2 in
      let first = (slot_exact starts least).exact bytes slot s.0.1 are s.1 in
      let left = are_left bytes (little_bytes 2 slot) s.0.1 are first.0 in
      let second = (number_exact 1).exact s.0.1 n c.0.1 left c.1 in
      let third = (places_exact slot n).exact c.0.1 p.0.0 p.0.1 (are_left s.0.1 (little_bytes 1 n) c.0.1 left second.0) p.1 in
      let places = places_are 0 p.0.0 third.1.1 in
      let t = and_parts (nat_le least slot) (get_or starts slot false) first.1.1 in
      let all = flat_map place_bytes p.0.0 in
      let behind : s.0.1 ≡ (little_bytes 1 (length p.0.0) ++ all) ++ p.0.1 =
      joined s.0.1 (little_bytes 1 n) c.0.1 all p.0.1 second.0 third.0 ∙ ap (λ (x : ℕ). (little_bytes 1 x ++ all) ++ p.0.1) (sym third.1.0) in
      let F : PlainHead × List ℕ → Type 0 = λ q. (bytes ≡ head_bytes q.0 ++ q.1) × IsHeadFrom starts least q.0 in
      moved F (made slot p.0.0, p.0.1) (h, rest) p.2 (
        joined bytes (little_bytes 2 slot) s.0.1 (little_bytes 1 (length p.0.0) ++ all) p.0.1 first.0 behind,
        (and_from (nat_le least slot) (are_places 0 p.0.0) t.0 places.0, t.1, record { slot = first.1.0; bounds = places.1 }),
      );
}

-- ---- heads

-- where nothing is refused, the test held
held : (b : Bool) (o : Option LoopsError) (e : LoopsError) → cond b o (Some e) ≡ None → (b ≡ true) × (o ≡ None)
held true o e h = (refl, h)
held false o e h = absurd cc

-- each at an instruction
abbrev Start : List Bool → List PlainHead → Type 0
Start starts hs = AllByRecursion (λ h. StartAt starts h.slot) hs

heads_are : (starts : List Bool) (least : ℕ) (hs : List PlainHead) → AreInTurn (IsHeadFrom starts) after_head least hs → (heads_refusal least hs ≡ None) × Start starts hs × AllByRecursion HeadFits hs
heads_are starts least [] h = (refl, tt, tt)
heads_are starts least (x ∷ xs) h =
    let more = heads_are starts (x.slot + 1) xs h.1 in
    (cond-true (nat_le least x.slot && is_head x) (heads_refusal (x.slot + 1) xs) (Some (errors.Head x.slot)) h.0.0 ∙ more.0, (h.0.1, more.1), (h.0.2, more.2))

heads_in_turn : (starts : List Bool) (least : ℕ) (hs : List PlainHead) → heads_refusal least hs ≡ None → Start starts hs → AllByRecursion HeadFits hs → AreInTurn (IsHeadFrom starts) after_head least hs
heads_in_turn starts least [] t a f = tt
heads_in_turn starts least (x ∷ xs) t a f =
    let b = held (nat_le least x.slot && is_head x) (heads_refusal (x.slot + 1) xs) (errors.Head x.slot) t in
    ((b.0, a.0, f.0), heads_in_turn starts (x.slot + 1) xs b.1 a.1 f.1)

heads_exact : (starts : List Bool) (n : ℕ) → IsExact (heads_from starts n) (flat_map head_bytes) (λ hs. (length hs ≡ n) × AreInTurn (IsHeadFrom starts) after_head 0 hs)
heads_exact starts n = turns (head_from starts) after_head head_bytes (IsHeadFrom starts) (head_exact starts) n 0

-- ---- loops

abbrev whole : ℕ → List PlainHead → PlainLoops
whole budget heads = record { budget = budget; heads = heads }

-- the budget, and the heads
abbrev some_bytes : PlainLoops → List ℕ
some_bytes l = little_bytes 4 l.budget ++ flat_map head_bytes l.heads

-- what was read after the number of heads
pub record Read (begin : List Bool) (n : ℕ) (bytes : List ℕ) (budget : ℕ) (heads : List PlainHead) (rest : List ℕ) : Type 0 where
  pub spelled : bytes ≡ (little_bytes 4 budget ++ flat_map head_bytes heads) ++ rest
  pub count : length heads ≡ n
  pub paid : is_budget budget ≡ true
  pub kept : heads_refusal 0 heads ≡ None
  pub start : Start begin heads
  pub fit : AllByRecursion HeadFits heads

-- the same by its two readings, as code does them
pub read_parts : (starts : List Bool) (n : ℕ) (bytes : List ℕ) (budget : ℕ) (more : List ℕ) (heads : List PlainHead) (rest : List ℕ) → AreBytes bytes → budget_from bytes ≡ Ok (budget, more) → heads_from starts n more ≡ Ok (heads, rest) → Read starts n bytes budget heads rest
read_parts starts n bytes budget more heads rest are b h =
    let first = budget_exact.exact bytes budget more are b in
    let second = (heads_exact starts n).exact more heads rest (are_left bytes (little_bytes 4 budget) more are first.0) h in
    let known = heads_are starts 0 heads second.1.1 in
    record {
      spelled = joined bytes (little_bytes 4 budget) more (flat_map head_bytes heads) rest first.0 second.0;
      count = second.1.0;
      paid = first.1.1;
      kept = known.0;
      start = known.1;
      fit = known.2;
    }

-- loops whose parts were tested aren't refused
pub not_refused : (n budget : ℕ) (heads : List PlainHead) → 1 ≤ n → n ≤ HEAD_LIMIT → length heads ≡ n → is_budget budget ≡ true → heads_refusal 0 heads ≡ None → loops_refusal budget heads ≡ None
not_refused n budget heads some few count paid kept =
    let counted = and_from (nat_le 1 (length heads)) (nat_le (length heads) HEAD_LIMIT) (le-leb 1 (length heads) (omega (arith, some, count))) (le-leb (length heads) HEAD_LIMIT (omega (arith, few, count))) in
    cond-true (are_within budget (length heads)) (heads_refusal 0 heads) (Some errors.Limit) (and_from (nat_le 1 (length heads) && nat_le (length heads) HEAD_LIMIT) (is_budget budget) counted paid) ∙ kept

are_loops : (starts : List Bool) (n : ℕ) (bytes : List ℕ) (budget : ℕ) (heads : List PlainHead) (rest : List ℕ) → 1 ≤ n → n ≤ HEAD_LIMIT → Read starts n bytes budget heads rest → AreLoopsOf starts (Some (whole budget heads))
are_loops starts n bytes budget heads rest some few r =
    let paid = and_parts (nat_le 1 budget) (nat_le budget BUDGET_LIMIT) r.paid in
    let right = loops_right budget heads (omega (arith, some, r.count)) (omega (arith, few, r.count)) (leb-true 1 budget paid.0) (leb-true budget BUDGET_LIMIT paid.1) in
    (right.0 r.kept, r.start, r.fit)

abbrev SomeRead : Type 0
SomeRead = Result (Option PlainLoops × List ℕ) HeadsError

some_again : (starts : List Bool) (l : PlainLoops) (rest : List ℕ) → AreLoopsOf starts (Some l) → some_from starts (length l.heads) (some_bytes l ++ rest) ≡ Ok (Some l, rest)
unfolding some_from
some_again starts l rest h =
    let n = length l.heads in
    let right = loops_right l.budget l.heads h.0.some h.0.few h.0.paid h.0.bounded in
    let paid : is_budget l.budget ≡ true = and_from (nat_le 1 l.budget) (nat_le l.budget BUDGET_LIMIT) (le-leb 1 l.budget h.0.paid) (le-leb l.budget BUDGET_LIMIT h.0.bounded) in
    let small : l.budget < 256 ^ 4 = omega (arith, h.0.bounded) in
    let heads : List ℕ = flat_map head_bytes l.heads in
    ap (some_from starts n) (append_assoc (little_bytes 4 l.budget) heads rest)
    ∙ ap (λ (r : Result (ℕ × List ℕ) HeadsError). r >>= λ budget. heads_from starts n budget.1 >>= λ hs. Ok (Some (whole budget.0 hs.0), hs.1)) (budget_exact.again l.budget (heads ++ rest) (small, paid))
    ∙ ap (λ (r : Result (List PlainHead × List ℕ) HeadsError). r >>= λ hs. Ok (Some (whole l.budget hs.0), hs.1)) ((heads_exact starts n).again l.heads rest (refl, heads_in_turn starts 0 l.heads (right.1 h.0) h.1 h.2))

-- what is read after a number of heads that isn't 0
record SomeIs (starts : List Bool) (n : ℕ) (bytes : List ℕ) (o : Option PlainLoops) (rest : List ℕ) : Type 0 where
  budget : ℕ
  heads : List PlainHead
  is : Some (whole budget heads) ≡ o
  read : Read starts n bytes budget heads rest

some_take : (starts : List Bool) (n : ℕ) (bytes : List ℕ) (o : Option PlainLoops) (rest : List ℕ) → AreBytes bytes → some_from starts n bytes ≡ Ok (o, rest) → SomeIs starts n bytes o rest
unfolding some_from
some_take starts n bytes o rest are e =
    let b = came (budget_from bytes) (λ budget. heads_from starts n budget.1 >>= λ hs. Ok (Some (whole budget.0 hs.0), hs.1)) (o, rest) e in
    let h = came (heads_from starts n b.0.1) (λ hs. Ok (Some (whole b.0.0 hs.0), hs.1)) (o, rest) b.2 in
    let F : Option PlainLoops × List ℕ → Type 0 = λ q. SomeIs starts n bytes q.0 q.1 in
    moved F (Some (whole b.0.0 h.0.0), h.0.1) (o, rest) h.2 (record {
      budget = b.0.0;
      heads = h.0.0;
      is = refl;
      read = read_parts starts n bytes b.0.0 b.0.1 h.0.0 h.0.1 are b.1 h.1;
    })

abbrev by_count : List Bool → ℕ × List ℕ → SomeRead
by_count starts count = if count.0 == 0 then Ok (None, count.1) else some_from starts count.0 count.1

not_zero : (n : ℕ) → 1 ≤ n → (n == 0) ≡ false
not_zero n h = ne_eqb n 0 (λ e. omega (arith, e, h))

loops_again : (starts : List Bool) (loops : Option PlainLoops) (rest : List ℕ) → AreLoopsOf starts loops → loops_from starts (loops_bytes loops ++ rest) ≡ Ok (loops, rest)
unfolding loops_from
loops_again starts None rest h = ap (λ (r : Result (ℕ × List ℕ) HeadsError). r >>= by_count starts) (count_exact.again 0 rest (omega arith, refl))
loops_again starts (Some l) rest h =
    let n = length l.heads in
    let fits : nat_le n HEAD_LIMIT ≡ true = le-leb n HEAD_LIMIT h.0.few in
    let small : n < 256 ^ 2 = omega (arith, h.0.few) in
    ap (loops_from starts) (append_assoc (little_bytes 2 n) (some_bytes l) rest)
    ∙ ap (λ (r : Result (ℕ × List ℕ) HeadsError). r >>= by_count starts) (count_exact.again n (some_bytes l ++ rest) (small, fits))
    ∙ ap (λ (b : Bool). cond b (Ok (None, some_bytes l ++ rest)) (some_from starts n (some_bytes l ++ rest))) (not_zero n h.0.some)
    ∙ some_again starts l rest h

abbrev Took : List Bool → List ℕ → Option PlainLoops × List ℕ → Type 0
Took starts bytes q = (bytes ≡ loops_bytes q.0 ++ q.1) × AreLoopsOf starts q.0

-- by the number of heads
counted : (starts : List Bool) (n : ℕ) (bytes more : List ℕ) (o : Option PlainLoops) (rest : List ℕ) → AreBytes more → bytes ≡ little_bytes 2 n ++ more → n ≤ HEAD_LIMIT → by_count starts (n, more) ≡ Ok (o, rest) → Took starts bytes (o, rest)
counted starts zero bytes more o rest are front few e = moved (Took starts bytes) (None, more) (o, rest) e (front, tt)
counted starts (suc n) bytes more o rest are front few e =
    let some : by_count starts (suc n, more) ≡ some_from starts (suc n) more = ap (λ (b : Bool). cond b (Ok (None, more)) (some_from starts (suc n) more)) (not_zero (suc n) (omega arith)) in
    let s = some_take starts (suc n) more o rest are (sym some ∙ e) in
    let known = are_loops starts (suc n) more s.budget s.heads rest (omega arith) few s.read in
    let l = whole s.budget s.heads in
    let spelled : bytes ≡ loops_bytes (Some l) ++ rest =
    joined bytes (little_bytes 2 (suc n)) more (some_bytes l) rest front s.read.spelled ∙ ap (λ (k : ℕ). (little_bytes 2 k ++ some_bytes l) ++ rest) (sym s.read.count) in
    subst (λ (x : Option PlainLoops). Took starts bytes (x, rest)) s.is (spelled, known)

loops_take : (starts : List Bool) (bytes : List ℕ) (o : Option PlainLoops) (rest : List ℕ) → AreBytes bytes → loops_from starts bytes ≡ Ok (o, rest) → Took starts bytes (o, rest)
unfolding loops_from
loops_take starts bytes o rest are e =
    let c = came (count_from bytes) (by_count starts) (o, rest) e in
    let p = count_exact.exact bytes c.0.0 c.0.1 are c.1 in
    counted starts c.0.0 bytes c.0.1 o rest (are_left bytes (little_bytes 2 c.0.0) c.0.1 are p.0) p.0 (leb-true c.0.0 HEAD_LIMIT p.1.1) c.2

pub loops_exact : (starts : List Bool) → IsExact (loops_from starts) loops_bytes (AreLoopsOf starts)
loops_exact starts = record { again = loops_again starts; exact = loops_take starts }

-- ---- for the callers

-- how many bytes were read is what isn't left
left_is : (bytes front rest : List ℕ) → bytes ≡ front ++ rest → length bytes - length rest ≡ length front
left_is bytes front rest e = omega (arith, ap length e, length-append front rest)

rest_of : (bytes front rest : List ℕ) → bytes ≡ front ++ rest → drop (length bytes - length rest) bytes ≡ rest
rest_of bytes front rest e =
    ap (λ (l : List ℕ). drop (length bytes - length rest) l) e ∙ drop_at front rest (length bytes - length rest) (sym (left_is bytes front rest e))

pub rest_fits : (starts : List Bool) (bytes : List ℕ) (o : Option PlainLoops) (rest : List ℕ) → AreBytes bytes → loops_from starts bytes ≡ Ok (o, rest) → length rest ≤ length bytes
rest_fits starts bytes o rest are e =
    let p = loops_take starts bytes o rest are e in
    omega (arith, ap length p.0, length-append (loops_bytes o) rest)

pub rest_is : (starts : List Bool) (bytes : List ℕ) (o : Option PlainLoops) (rest : List ℕ) → AreBytes bytes → loops_from starts bytes ≡ Ok (o, rest) → loops_from starts bytes ≡ Ok (o, drop (length bytes - length rest) bytes)
rest_is starts bytes o rest are e =
    let p = loops_take starts bytes o rest are e in
    e ∙ ap (λ (l : List ℕ). done (o, l)) (sym (rest_of bytes (loops_bytes o) rest p.0))

pub begins_with : (starts : List Bool) (bytes : List ℕ) (o : Option PlainLoops) (rest : List ℕ) → AreBytes bytes → loops_from starts bytes ≡ Ok (o, rest) → BeginsWith starts bytes o (length bytes - length rest)
begins_with starts bytes o rest are e =
    let p = loops_take starts bytes o rest are e in
    record {
      spelled = p.0 ∙ ap (λ (l : List ℕ). loops_bytes o ++ l) (sym (rest_of bytes (loops_bytes o) rest p.0));
      long = left_is bytes (loops_bytes o) rest p.0;
      may = p.1;
    }

pub one_beginning : (starts : List Bool) (l m : Option PlainLoops) (x y : List ℕ) → AreLoopsOf starts l → AreLoopsOf starts m → loops_bytes l ++ x ≡ loops_bytes m ++ y → (l ≡ m) × (x ≡ y)
one_beginning starts l m x y p q e =
    let both : Option PlainLoops × List ℕ = (l, x) in
    let same = ok_is both (m, y) (sym (loops_again starts l x p) ∙ ap (loops_from starts) e ∙ loops_again starts m y q) in
    (ap (λ (z : Option PlainLoops × List ℕ). z.0) same, ap (λ (z : Option PlainLoops × List ℕ). z.1) same)

ok_not_err : {A : Type 0} (x : A) (e : HeadsError) → done x ≡ Err e → ⊥
ok_not_err x e h = cc

-- where a spelling stands at the front, nothing else was read
pub read_only : (starts : List Bool) (bytes : List ℕ) (loops : Option PlainLoops) (rest : List ℕ) (r : Result ReadLoops HeadsError) → AreLoopsOf starts loops → bytes ≡ loops_bytes loops ++ rest
    → Gives (λ r. (r.loops, drop r.length bytes)) r (loops_from starts bytes) → IfOk r (λ r. BeginsWith starts bytes r.loops r.length) → Gives {Y = Option PlainLoops × ℕ} (λ r. (r.loops, r.length)) r (Ok (loops, length (loops_bytes loops)))
read_only starts bytes loops rest (Ok r) may spelled exact found =
    let again = ap (loops_from starts) spelled ∙ loops_again starts loops rest may in
    let both : Option PlainLoops × List ℕ = (loops, rest) in
    let same = ok_is both (r.loops, drop r.length bytes) (sym again ∙ exact) in
    let is = ap (λ (z : Option PlainLoops × List ℕ). z.0) same in
    ap (λ (o : Option PlainLoops). done (o, length (loops_bytes loops))) is
    ∙ ap (λ (n : ℕ). done (r.loops, n)) (ap (λ (o : Option PlainLoops). length (loops_bytes o)) is ∙ sym found.long)
read_only starts bytes loops rest (Err e) may spelled exact found =
    let again = ap (loops_from starts) spelled ∙ loops_again starts loops rest may in
    elim exact [
      | inl none ↦ inl none
      | inr h ↦ absurd (ok_not_err (loops, rest) e (sym again ∙ h))
    ]
