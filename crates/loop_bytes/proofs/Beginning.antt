-- How many bytes a reading looks at: those behind them change nothing of what is read.
use Rattle.std.proofs.Common.{◌≡◌, ◌∙◌, ℕ, zero, suc, ◌+◌, ◌*◌, ◌-◌, ◌≤◌, Bool, true, false, List, [], ◌∷◌, ◌++◌, Option, Some, None, Result, Ok, Err, refl, ap, sym, subst, arith, length, take, drop, length-append, inl, inr}
use Rattle.std.specs.Prelude.{⊤, nat_le, not, ◌==◌, ◌&&◌, get_or, if◌then◌else◌}
use Rattle.std.proofs.lemmas.Bool.{cases_lt, leb-true, le-leb, and_parts}
use Rattle.std.proofs.lemmas.List.{take-append-le, drop-append-le, length-drop}
use Rattle.byteorder.specs.Endian.{little_number, little_from}
use Rattle.byteorder.specs.Numbers.{little_from-take}
use Rattle.loop_heads.specs.declared.place.PlaceKind.{PlaceKind}
use Rattle.loop_heads.specs.declared.place.PlaceKind.TheVariants.{Unset, Any}
use Rattle.loop_heads.specs.declared.place.HeadPlace.{HeadPlace}
use Rattle.loop_heads.specs.declared.limits.TheConstants.{HEAD_LIMIT, BUDGET_LIMIT, PLACE_LIMIT}
use Rattle.loop_heads.specs.Loops.{PlainHead, PlainLoops, is_kind}
use Rattle.loop_bytes.specs.declared.heads_error.HeadsError.{HeadsError}
use Rattle.loop_bytes.specs.declared.heads_error.HeadsError.TheVariants.{Truncated, Limit, Head}
use Rattle.loop_bytes.specs.declared.reading.TheConstants.{LOOPS_LIMIT}
use Rattle.loop_bytes.specs.Reading.{◌>>=◌, checked, Reading, in_turn, number_from, count_from, budget_from, slot_from, bounded_kind, bounds_from, kind_from, is_numbered, place_from, after_place, places_from, head_from, after_head, heads_from, some_from, loops_from}
use Rattle.loop_bytes.proofs.Exact.{came, was_checked}

-- what was read, with more bytes after what is left
abbrev pub longer : {A E : Type 0} → List ℕ → Result (A × List ℕ) E → Result (A × List ℕ) E
longer more (Ok x) = Ok (x.0, x.1 ++ more)
longer more (Err e) = Err e

-- at most k of the bytes were read
abbrev pub Leaves : {A E : Type 0} → ℕ → List ℕ → Result (A × List ℕ) E → Type 0
Leaves k bytes (Ok x) = length bytes ≤ length x.1 + k
Leaves k bytes (Err e) = ⊤

-- it reads at most k bytes, and so of k bytes and more what it reads of those alone
pub record Local {A E : Type 0} (k : ℕ) (read : List ℕ → Result (A × List ℕ) E) : Type 0 where
  pub same : (front more : List ℕ) → k ≤ length front → read (front ++ more) ≡ longer more (read front)
  pub few : (front : List ℕ) → Leaves k front (read front)

Leaves-more : {A E : Type 0} (j k : ℕ) (bytes : List ℕ) (r : Result (A × List ℕ) E) → j ≤ k → Leaves j bytes r → Leaves k bytes r
Leaves-more j k bytes (Ok x) h l = omega (arith, h, l)
Leaves-more j k bytes (Err e) h l = tt

pub Local-more : {A E : Type 0} (j k : ℕ) (read : List ℕ → Result (A × List ℕ) E) → j ≤ k → Local j read → Local k read
Local-more j k read h l = record {
  same = λ front more long. l.same front more (omega (arith, h, long));
  few = λ front. Leaves-more j k front (read front) h (l.few front);
}

-- ---- one step after another

module _ {A B E : Type 0} (P : A → Type 0) (j k : ℕ) (f : A × List ℕ → Result (B × List ℕ) E) (p : (x : A) → P x → Local k (λ rest. f (x, rest))) where
  then_same : (front more : List ℕ) → j + k ≤ length front → (read whole : Result (A × List ℕ) E) → ((x : A × List ℕ) → read ≡ Ok x → P x.0) → whole ≡ longer more read → Leaves j front read → (whole >>= f) ≡ longer more (read >>= f)
  then_same front more long (Ok x) whole is e l = rw e ((p x.0 (is x refl)).same x.1 more (omega (arith, long, l)))
  then_same front more long (Err d) whole is e l = rw e refl

  then_few : (front rest : List ℕ) (r : Result (B × List ℕ) E) → length front ≤ length rest + j → Leaves k rest r → Leaves (j + k) front r
  then_few front rest (Ok y) h l = omega (arith, h, l)
  then_few front rest (Err d) h l = tt

  then_leaves : (front : List ℕ) (read : Result (A × List ℕ) E) → ((x : A × List ℕ) → read ≡ Ok x → P x.0) → Leaves j front read → Leaves (j + k) front (read >>= f)
  then_leaves front (Ok x) is l = then_few front x.1 (f x) l ((p x.0 (is x refl)).few x.1)
  then_leaves front (Err d) is l = tt

  -- where more is known of what was read
  pub Local-then_known : (read : List ℕ → Result (A × List ℕ) E) → Local j read → ((bytes : List ℕ) (x : A × List ℕ) → read bytes ≡ Ok x → P x.0) → Local (j + k) (λ bytes. read bytes >>= f)
  Local-then_known read l is = record {
    same = λ front more long. then_same front more long (read front) (read (front ++ more)) (is front) (l.same front more (omega (arith, long))) (l.few front);
    few = λ front. then_leaves front (read front) (is front) (l.few front);
  }

pub Local-then : {A B E : Type 0} (j k : ℕ) (read : List ℕ → Result (A × List ℕ) E) (f : A × List ℕ → Result (B × List ℕ) E) → Local j read → ((x : A) → Local k (λ rest. f (x, rest))) → Local (j + k) (λ bytes. read bytes >>= f)
Local-then j k read f l p = Local-then_known (λ x. ⊤) j k f (λ x _. p x) read l (λ bytes x e. tt)

abbrev kept : {A E : Type 0} → Bool → E → A → List ℕ → Result (A × List ℕ) E
kept b e x rest = checked b e (x, rest)

-- a test of what was read, before more is
pub Local-checked : {A B E : Type 0} (k : ℕ) (b : Bool) (e : E) (x : A) (f : List ℕ → Result (B × List ℕ) E) → (b ≡ true → Local k f) → Local k (λ rest. kept b e x rest >>= λ _. f rest)
Local-checked k true e x f p = p refl
Local-checked k false e x f p = record { same = λ front more long. refl; few = λ front. tt }

-- and at the end
pub Local-tested : {A E : Type 0} (b : Bool) (e : E) (x : A) → Local 0 (λ rest. checked b e (x, rest))
Local-tested true e x = record { same = λ front more long. refl; few = λ front. omega arith }
Local-tested false e x = record { same = λ front more long. refl; few = λ front. tt }

-- a value made of what was read
pub Local-made : {A B E : Type 0} (r : Result A E) (f : A → B) → Local 0 (λ rest. r >>= λ y. Ok (f y, rest))
Local-made (Ok y) f = record { same = λ front more long. refl; few = λ front. omega arith }
Local-made (Err e) f = record { same = λ front more long. refl; few = λ front. tt }

pub Local-ok : {A E : Type 0} (x : A) → Local {E = E} 0 (λ rest. Ok (x, rest))
Local-ok x = record { same = λ front more long. refl; few = λ front. omega arith }

-- one of two readings
pub Local-either : {A E : Type 0} (k : ℕ) (b : Bool) (f g : List ℕ → Result (A × List ℕ) E) → (b ≡ true → Local k f) → (b ≡ false → Local k g) → Local k (λ bytes. if b then f bytes else g bytes)
Local-either k true f g p q = p refl
Local-either k false f g p q = q refl

-- ---- the fields

number_same : (n : ℕ) (front more : List ℕ) → n ≤ length front → number_from n (front ++ more) ≡ longer more (number_from n front)
number_same n front more long =
    let number : little_number n (front ++ more) ≡ little_number n front =
    sym (little_from-take 0 n n (front ++ more) (omega arith)) ∙ ap (little_from 0 n) (take-append-le n front more long) ∙ little_from-take 0 n n front (omega arith) in
    rw (le-leb n (length front) long, le-leb n (length (front ++ more)) (omega (arith, long, length-append front more)), number, drop-append-le n front more long) refl

number_few : (n : ℕ) (front : List ℕ) (x : ℕ) (b : Bool) → (b ≡ true → n ≤ length front) → Leaves n front (checked b Truncated (x, drop n front))
number_few n front x true h = omega (arith, h refl, length-drop n front)
number_few n front x false h = tt

number_local : (n : ℕ) → Local n (number_from n)
number_local n = record {
  same = number_same n;
  few = λ front. number_few n front (little_number n front) (nat_le n (length front)) (leb-true n (length front));
}

count_local : Local 2 count_from
unfolding count_from
count_local = Local-then 2 0 (number_from 2) (λ n. checked (nat_le n.0 HEAD_LIMIT) Limit n) (number_local 2) (λ n. Local-tested (nat_le n HEAD_LIMIT) Limit n)

budget_local : Local 4 budget_from
unfolding budget_from
budget_local = Local-then 4 0 (number_from 4) (λ n. checked (nat_le 1 n.0 && nat_le n.0 BUDGET_LIMIT) Limit n) (number_local 4) (λ n. Local-tested (nat_le 1 n && nat_le n BUDGET_LIMIT) Limit n)

slot_local : (starts : List Bool) (least : ℕ) → Local 2 (slot_from starts least)
unfolding slot_from
slot_local starts least =
    Local-then 2 0 (number_from 2) (λ n. checked (nat_le least n.0 && get_or starts n.0 false) (Head n.0) n) (number_local 2) (λ n. Local-tested (nat_le least n && get_or starts n false) (Head n) n)

bounds_local : (slot code : ℕ) → Local 16 (bounds_from slot code)
unfolding bounds_from
bounds_local slot code =
    Local-then 8 8 (number_from 8) (λ a. number_from 8 a.1 >>= λ b. checked (is_kind (bounded_kind code a.0 b.0)) (Head slot) (bounded_kind code a.0 b.0, b.1)) (number_local 8) (λ a.
    Local-then 8 0 (number_from 8) (λ b. checked (is_kind (bounded_kind code a b.0)) (Head slot) (bounded_kind code a b.0, b.1)) (number_local 8) (λ b.
    Local-tested (is_kind (bounded_kind code a b)) (Head slot) (bounded_kind code a b)))

none_local : (kind : PlaceKind) → Local {E = HeadsError} 16 (λ bytes. Ok (kind, bytes))
none_local kind = Local-more 0 16 (λ bytes. Ok (kind, bytes)) (omega arith) (Local-ok kind)

kind_local : (slot code : ℕ) → Local 16 (kind_from slot code)
unfolding kind_from
kind_local slot code =
    Local-either 16 (code == 0) (λ bytes. Ok (Unset, bytes)) (λ bytes. if code == 1 then Ok (Any, bytes) else bounds_from slot code bytes) (λ _. none_local Unset) (λ _.
    Local-either 16 (code == 1) (λ bytes. Ok (Any, bytes)) (bounds_from slot code) (λ _. none_local Any) (λ _. bounds_local slot code))

-- ---- a place

abbrev place_made : ℕ → PlaceKind → HeadPlace
place_made number kind = record { number = number; kind = kind }

abbrev after_code : ℕ → ℕ → ℕ → ℕ → List ℕ → Result (HeadPlace × List ℕ) HeadsError
after_code slot least number code rest =
    kept (is_numbered least number code) (Head slot) code rest >>= λ known. kind_from slot code rest >>= λ kind. Ok (place_made number kind.0, kind.1)

after_code_local : (slot least number code : ℕ) → Local 16 (after_code slot least number code)
after_code_local slot least number code =
    Local-checked 16 (is_numbered least number code) (Head slot) code (λ rest. kind_from slot code rest >>= λ kind. Ok (place_made number kind.0, kind.1)) (λ _.
    Local-then 16 0 (kind_from slot code) (λ kind. Ok (place_made number kind.0, kind.1)) (kind_local slot code) (λ kind. Local-ok (place_made number kind)))

place_local : (slot least : ℕ) → Local 18 (place_from slot least)
unfolding place_from
place_local slot least =
    Local-then 1 17 (number_from 1) (λ number. number_from 1 number.1 >>= λ code. after_code slot least number.0 code.0 code.1) (number_local 1) (λ number.
    Local-then 1 16 (number_from 1) (λ code. after_code slot least number code.0 code.1) (number_local 1) (λ code. after_code_local slot least number code))

-- a place's number is one that it may have
abbrev Numbered : ℕ → HeadPlace → Type 0
Numbered least p = (least ≤ p.number) × (p.number ≤ PLACE_LIMIT)

numbered : (least number code : ℕ) → is_numbered least number code ≡ true → (least ≤ number) × (number ≤ PLACE_LIMIT)
numbered least number code e =
    let a = and_parts (nat_le least number) (nat_le number PLACE_LIMIT && (not (number == 10) && nat_le code 6)) e in
    let b = and_parts (nat_le number PLACE_LIMIT) (not (number == 10) && nat_le code 6) a.1 in
    (leb-true least number a.0, leb-true number PLACE_LIMIT b.0)

ok_place : (x y : HeadPlace × List ℕ) → (r : Result (HeadPlace × List ℕ) HeadsError) → r ≡ Ok x → r ≡ Ok y → x ≡ y
ok_place x y (Ok z) e f = cc
ok_place x y (Err d) e f = absurd cc

place_numbered : (slot least : ℕ) (bytes : List ℕ) (x : HeadPlace × List ℕ) → place_from slot least bytes ≡ Ok x → Numbered least x.0
unfolding place_from
place_numbered slot least bytes x e =
    let a = came (number_from 1 bytes) (λ number. number_from 1 number.1 >>= λ code. after_code slot least number.0 code.0 code.1) x e in
    let b = came (number_from 1 a.0.1) (λ code. after_code slot least a.0.0 code.0 code.1) x a.2 in
    let c = came (checked (is_numbered least a.0.0 b.0.0) (Head slot) b.0) (λ known. kind_from slot b.0.0 b.0.1 >>= λ kind. Ok (place_made a.0.0 kind.0, kind.1)) x b.2 in
    let d = came (kind_from slot b.0.0 b.0.1) (λ kind. Ok (place_made a.0.0 kind.0, kind.1)) x c.2 in
    let test = (was_checked (is_numbered least a.0.0 b.0.0) (Head slot) b.0 c.0 c.1).0 in
    let n = numbered least a.0.0 b.0.0 test in
    let same : (place_made a.0.0 d.0.0, d.0.1) ≡ x = ok_place (place_made a.0.0 d.0.0, d.0.1) x (Ok (place_made a.0.0 d.0.0, d.0.1)) refl d.2 in
    subst (λ (y : HeadPlace × List ℕ). Numbered least y.0) same n

-- once the numbers are used up no place is read
none_left : (least number code : ℕ) (b : Bool) → PLACE_LIMIT + 1 ≤ least → is_numbered least number code ≡ b → b ≡ false
none_left least number code false h e = refl
none_left least number code true h e = let n = numbered least number code e in absurd (omega (arith, h, n.0, n.1))

refused_code : (slot least number code : ℕ) → PLACE_LIMIT + 1 ≤ least → Local 0 (after_code slot least number code)
refused_code slot least number code h =
    let no = none_left least number code (is_numbered least number code) h refl in
    record {
      same = λ front more long. rw no refl;
      few = λ front. rw no tt;
    }

no_place_local : (slot least : ℕ) → PLACE_LIMIT + 1 ≤ least → Local 2 (place_from slot least)
unfolding place_from
no_place_local slot least h =
    Local-then 1 1 (number_from 1) (λ number. number_from 1 number.1 >>= λ code. after_code slot least number.0 code.0 code.1) (number_local 1) (λ number.
    Local-then 1 0 (number_from 1) (λ code. after_code slot least number code.0 code.1) (number_local 1) (λ code. refused_code slot least number code h))

-- ---- places

abbrev places_most : ℕ → ℕ
places_most least = 18 * (PLACE_LIMIT + 1 - least) + 2

abbrev more_places : ℕ → ℕ → HeadPlace × List ℕ → Result (List HeadPlace × List ℕ) HeadsError
more_places slot n x = in_turn (place_from slot) after_place (after_place x.0) n x.1 >>= λ xs. Ok (x.0 ∷ xs.0, xs.1)

no_more : (slot n least : ℕ) → PLACE_LIMIT + 1 ≤ least → Local 2 (λ bytes. place_from slot least bytes >>= more_places slot n)
no_more slot n least h =
    Local-then_known (λ x. ⊥) 2 0 (more_places slot n) (λ x no. absurd no) (place_from slot least) (no_place_local slot least h) (λ bytes x e.
    let m = place_numbered slot least bytes x e in absurd (omega (arith, h, m.0, m.1)))

turns_of_places : (slot n least : ℕ) → Local (places_most least) (in_turn (place_from slot) after_place least n)
unfolding in_turn
turns_of_places slot zero least = Local-more 0 (places_most least) (λ bytes. Ok ([], bytes)) (omega arith) (Local-ok [])
turns_of_places slot (suc n) least =
    elim (cases_lt least (PLACE_LIMIT + 1)) [
      | inl low ↦ Local-more (18 + (places_most (least + 1) + 0)) (places_most least) (λ bytes. place_from slot least bytes >>= more_places slot n) (omega (arith, low))
          (Local-then_known (Numbered least) 18 (places_most (least + 1) + 0) (more_places slot n) (λ x m.
          Local-then (places_most (least + 1)) 0 (in_turn (place_from slot) after_place (after_place x) n) (λ xs. Ok (x ∷ xs.0, xs.1))
          (Local-more (places_most (x.number + 1)) (places_most (least + 1)) (in_turn (place_from slot) after_place (after_place x) n) (omega (arith, m.0)) (turns_of_places slot n (x.number + 1)))
          (λ xs. Local-ok (x ∷ xs))) (place_from slot least) (place_local slot least) (place_numbered slot least))
      | inr high ↦ Local-more 2 (places_most least) (λ bytes. place_from slot least bytes >>= more_places slot n) (omega arith) (no_more slot n least high)
    ]

-- ---- a head, and heads

abbrev head_most : ℕ
head_most = 2 + (1 + (places_most 0 + 0))

abbrev head_made : ℕ → List HeadPlace → PlainHead
head_made slot places = record { slot = slot; places = places }

head_local : (starts : List Bool) (least : ℕ) → Local head_most (head_from starts least)
unfolding head_from
head_local starts least =
    Local-then 2 (1 + (places_most 0 + 0)) (slot_from starts least) (λ slot. number_from 1 slot.1 >>= λ count. places_from slot.0 count.0 count.1 >>= λ places. Ok (head_made slot.0 places.0, places.1)) (slot_local starts least) (λ slot.
    Local-then 1 (places_most 0 + 0) (number_from 1) (λ count. places_from slot count.0 count.1 >>= λ places. Ok (head_made slot places.0, places.1)) (number_local 1) (λ count.
    Local-then (places_most 0) 0 (places_from slot count) (λ places. Ok (head_made slot places.0, places.1)) (turns_of_places slot count 0) (λ places. Local-ok (head_made slot places))))

turns_of_heads : (starts : List Bool) (n least : ℕ) → Local (n * head_most) (in_turn (head_from starts) after_head least n)
unfolding in_turn
turns_of_heads starts zero least = Local-ok []
turns_of_heads starts (suc n) least =
    Local-more (head_most + (n * head_most + 0)) (suc n * head_most) (λ bytes. head_from starts least bytes >>= λ x. in_turn (head_from starts) after_head (after_head x.0) n x.1 >>= λ xs. Ok (x.0 ∷ xs.0, xs.1)) (omega arith)
    (Local-then head_most (n * head_most + 0) (head_from starts least) (λ x. in_turn (head_from starts) after_head (after_head x.0) n x.1 >>= λ xs. Ok (x.0 ∷ xs.0, xs.1)) (head_local starts least) (λ x.
    Local-then (n * head_most) 0 (in_turn (head_from starts) after_head (after_head x) n) (λ xs. Ok (x ∷ xs.0, xs.1)) (turns_of_heads starts n (after_head x)) (λ xs. Local-ok (x ∷ xs))))

-- ---- loops

abbrev loops_made : ℕ → List PlainHead → Option PlainLoops
loops_made budget heads = Some (record { budget = budget; heads = heads })

some_local : (starts : List Bool) (n : ℕ) → Local (4 + (n * head_most + 0)) (some_from starts n)
unfolding some_from
some_local starts n =
    Local-then 4 (n * head_most + 0) budget_from (λ budget. heads_from starts n budget.1 >>= λ heads. Ok (loops_made budget.0 heads.0, heads.1)) budget_local (λ budget.
    Local-then (n * head_most) 0 (heads_from starts n) (λ heads. Ok (loops_made budget heads.0, heads.1)) (turns_of_heads starts n 0) (λ heads. Local-ok (loops_made budget heads)))

few_heads : (bytes : List ℕ) (x : ℕ × List ℕ) → count_from bytes ≡ Ok x → x.0 ≤ HEAD_LIMIT
unfolding count_from
few_heads bytes x e =
    let a = came (number_from 2 bytes) (λ n. checked (nat_le n.0 HEAD_LIMIT) Limit n) x e in
    let b = was_checked (nat_le a.0.0 HEAD_LIMIT) Limit a.0 x a.2 in
    omega (arith, leb-true a.0.0 HEAD_LIMIT b.0, ap (λ (p : ℕ × List ℕ). p.0) b.1)

pub loops_local : (starts : List Bool) → Local LOOPS_LIMIT (loops_from starts)
unfolding loops_from
loops_local starts =
    Local-then_known (λ n. n ≤ HEAD_LIMIT) 2 (4 + HEAD_LIMIT * head_most) (λ count. if count.0 == 0 then Ok (None, count.1) else some_from starts count.0 count.1) (λ n few.
    Local-either (4 + HEAD_LIMIT * head_most) (n == 0) (λ rest. Ok (None, rest)) (some_from starts n)
    (λ _. Local-more 0 (4 + HEAD_LIMIT * head_most) (λ rest. Ok (None, rest)) (omega arith) (Local-ok None))
    (λ _. Local-more (4 + (n * head_most + 0)) (4 + HEAD_LIMIT * head_most) (some_from starts n) (omega (arith, few)) (some_local starts n)))
    count_from count_local few_heads
