-- Heads that were read are right: their slots rise, and their places may be declared.
use Rattle.std.proofs.Common.{◌≡◌, ◌≢◌, ℕ, ◌+◌, ◌<◌, ◌≤◌, ◌==◌, Bool, true, false, ◌||◌, ◌&&◌, cond, leb, nat_le, nat_lt, List, [], ◌∷◌, ◌++◌, length, is_some, Option, Some, None, Result, Ok, Err, refl, ap, sym, ◌∙◌, arith}
use Rattle.std.proofs.lemmas.Bool.{and_parts, and_from, cond-true, eqb-false, le-leb, leb-true, ltb-true, or_parts, leb-false}
use Rattle.std.proofs.lemmas.List.Sums.{sum_by-append}
use Rattle.std.proofs.lemmas.Bool.Decides.{nat_tests}
use Rattle.std.specs.List.{slice_split, count_by}
use Rattle.bpf_decode.specs.declared.limits.TheConstants.{SLOT_LIMIT}
use Rattle.asm_lines.specs.declared.fault.AsmFault.{AsmFault}
use Rattle.asm_lines.specs.declared.fault.AsmFault.TheVariants as faults
use Rattle.asm_lines.specs.declared.fault.AsmError.{AsmError}
use Rattle.loop_heads.specs.declared.place.HeadPlace.{HeadPlace}
use Rattle.loop_heads.specs.declared.loops_error.LoopsError.{LoopsError}
use Rattle.loop_heads.specs.declared.loops_error.LoopsError.TheVariants.{Head}
use Rattle.loop_heads.specs.declared.limits.TheConstants.{HEAD_LIMIT, BUDGET_LIMIT}
use Rattle.loop_heads.specs.Loops.{PlainHead, head_at, are_places, is_head as is_right_head, heads_refusal, loops_refusal}
use Rattle.loop_lines.specs.Reading.{◌>>=◌, checked, at_end, unsigned_64, budget_of, places_of}
use Rattle.loop_lines.proofs.Right.{right_of}
use Rattle.asm_lines.specs.Texts.{first_word, after_word}
use Rattle.bpf_asm.specs.Bodies.{line_slots}
use Rattle.loop_asm.specs.Reading.{on_line, is_head, is_budget, has_head, other, instruction_follows, placed, head_of, heads_from}

-- ---- a budget

within_tests : (t u : Bool) (n b : ℕ) → t ≡ (nat_le 1 n && nat_le n BUDGET_LIMIT) → (checked t faults.Range n >>= λ k. checked u faults.Operand k) ≡ Ok b → (1 ≤ b) × (b ≤ BUDGET_LIMIT)
within_tests false u n b e h = absurd cc
within_tests true false n b e h = absurd cc
within_tests true true n b e h =
    let same : n ≡ b = cc in
    let tests = and_parts (nat_le 1 n) (nat_le n BUDGET_LIMIT) (sym e) in
    (rw same at (leb-true 1 n tests.0), rw same at (leb-true n BUDGET_LIMIT tests.1))

within_value : (r : Result ℕ AsmFault) (rest : List ℕ) (b : ℕ) → (r >>= λ n. checked (nat_le 1 n && nat_le n BUDGET_LIMIT) faults.Range n >>= λ k. at_end rest k) ≡ Ok b → (1 ≤ b) × (b ≤ BUDGET_LIMIT)
within_value (Ok n) rest b h = within_tests (nat_le 1 n && nat_le n BUDGET_LIMIT) (length rest == 0) n b refl h
within_value (Err e) rest b h = absurd cc

-- a budget that was read is within its range
pub budget_within : (text : List ℕ) (b : ℕ) → budget_of text ≡ Ok b → (1 ≤ b) × (b ≤ BUDGET_LIMIT)
unfolding budget_of
budget_within text b h = within_value (unsigned_64 (first_word text)) (after_word text) b h

-- ---- places

either_places : (t : Bool) (r : Result (List HeadPlace) AsmFault) (ps : List HeadPlace) → (r ≡ Ok ps → are_places 0 ps ≡ true) → cond t (Ok []) r ≡ Ok ps → are_places 0 ps ≡ true
either_places true r ps f h = let none : [] ≡ ps = cc in ap (are_places 0) (sym none)
either_places false r ps f h = f h

places_right : (text : List ℕ) (ps : List HeadPlace) → places_of text ≡ Ok ps → are_places 0 ps ≡ true
unfolding places_of
places_right text ps h = either_places (length text == 0) _ ps (right_of (slice_split (λ c. c == 44) text) ps) h

-- ---- heads

-- no slot is above that one
abbrev pub UpTo : ℕ → List PlainHead → Type 0
UpTo slot [] = Unit {0}
UpTo slot (h ∷ hs) = (h.slot ≤ slot) × UpTo slot hs

-- heads that were read above a slot
pub record AreRead (slot : ℕ) (hs : List PlainHead) : Type 0 where
  pub right : heads_refusal 0 hs ≡ None
  pub up_to : UpTo slot hs
  pub few : length hs ≤ HEAD_LIMIT

up_more : (a b : ℕ) (hs : List PlainHead) → a ≤ b → UpTo a hs → UpTo b hs
up_more a b [] l u = tt
up_more a b (h ∷ hs) l u = (omega (arith, u.0), up_more a b hs l u.1)

up_push : (slot : ℕ) (hs : List PlainHead) (h : PlainHead) → UpTo slot hs → h.slot ≤ slot → UpTo slot (hs ++ (h ∷ []))
up_push slot [] h u l = (l, tt)
up_push slot (x ∷ xs) h u l = (u.0, up_push slot xs h u.1 l)

length_push : (hs : List PlainHead) (h : PlainHead) → length (hs ++ (h ∷ [])) ≡ length hs + 1
length_push [] h = refl
length_push (x ∷ xs) h = omega (arith, length_push xs h)

-- where nothing is refused, the test held
held : (b : Bool) (o : Option LoopsError) (e : LoopsError) → cond b o (Some e) ≡ None → (b ≡ true) × (o ≡ None)
held true o e h = (refl, h)
held false o e h = cc

-- a slot that has no head isn't that of the first, nor of another
free : (b : Bool) (ps : List HeadPlace) (o : Option (List HeadPlace)) → is_some (cond b (Some ps) o) ≡ false → (b ≡ false) × (is_some o ≡ false)
free true ps o h = absurd cc
free false ps o h = (refl, h)

-- a head above others, at a slot that has none
pushed : (least slot : ℕ) (ps : List HeadPlace) (hs : List PlainHead) → heads_refusal least hs ≡ None → UpTo slot hs → is_some (head_at hs slot) ≡ false → least ≤ slot → are_places 0 ps ≡ true
    → heads_refusal least (hs ++ (record { slot = slot; places = ps } ∷ [])) ≡ None
pushed least slot ps [] h u f l a =
    ap (λ t. cond t None (Some (Head slot))) (and_from (leb least slot) (are_places 0 ps) (le-leb least slot l) a)
pushed least slot ps (x ∷ xs) h u f l a =
    let parts = held (leb least x.slot && is_right_head x) (heads_refusal (x.slot + 1) xs) (Head x.slot) h in
    let none = free (x.slot == slot) x.places (head_at xs slot) f in
    let other : x.slot ≢ slot = eqb-false x.slot slot none.0 in
    let next : x.slot + 1 ≤ slot = omega (arith, u.0) in
    ap (λ t. cond t (heads_refusal (x.slot + 1) (xs ++ (record { slot = slot; places = ps } ∷ []))) (Some (Head x.slot))) parts.0
    ∙ pushed (x.slot + 1) slot ps xs parts.1 u.1 none.1 next a

-- what was tested of a head that was placed
pub record IsPlaced (done : List PlainHead) (slot : ℕ) (h : PlainHead) : Type 0 where
  pub at : h.slot ≡ slot
  pub places : are_places 0 h.places ≡ true
  pub room : length done < HEAD_LIMIT
  pub within : slot ≤ SLOT_LIMIT
  pub free : is_some (head_at done slot) ≡ false

by_tests : (full used : Bool) (done : List PlainHead) (slot : ℕ) (ps : List HeadPlace) (h : PlainHead) → full ≡ (nat_le HEAD_LIMIT (length done) || nat_lt SLOT_LIMIT slot) → used ≡ is_some (head_at done slot) → are_places 0 ps ≡ true
    → cond full (Err faults.Range) (cond used (Err faults.Label) (Ok (record { slot = slot; places = ps }))) ≡ Ok h → IsPlaced done slot h
by_tests true used done slot ps h e f a r = absurd cc
by_tests false true done slot ps h e f a r = absurd cc
by_tests false false done slot ps h e f a r =
    let same : record { slot = slot; places = ps } ≡ h = cc in
    let tests = or_parts (nat_le HEAD_LIMIT (length done)) (nat_lt SLOT_LIMIT slot) (sym e) in
    record {
      at = sym (ap (λ (x : PlainHead). x.slot) same);
      places = ap (λ (x : PlainHead). are_places 0 x.places) (sym same) ∙ a;
      room = leb-false HEAD_LIMIT (length done) tests.0;
      within = grind (arith, nat_tests);
      free = sym f;
    }

placed_right : (done : List PlainHead) (slot : ℕ) (r : Result (List HeadPlace) AsmFault) (h : PlainHead) → ((ps : List HeadPlace) → r ≡ Ok ps → are_places 0 ps ≡ true) → placed done slot r ≡ Ok h → IsPlaced done slot h
placed_right done slot (Err e) h f k = absurd cc
placed_right done slot (Ok ps) h f k =
    by_tests (nat_le HEAD_LIMIT (length done) || nat_lt SLOT_LIMIT slot) (is_some (head_at done slot)) done slot ps h refl refl (f ps refl) k

if_follows : (b : Bool) (r : Result PlainHead AsmFault) (h : PlainHead) → cond b r (Err faults.Word) ≡ Ok h → r ≡ Ok h
if_follows true r h k = k
if_follows false r h k = absurd cc

-- a head that was read is right
pub head_right : (done : List PlainHead) (slot : ℕ) (rest : List (List ℕ)) (text : List ℕ) (h : PlainHead) → head_of done slot rest text ≡ Ok h → IsPlaced done slot h
head_right done slot rest text h k =
    placed_right done slot (places_of (after_word text)) h (λ ps e. places_right (after_word text) ps e) (if_follows (instruction_follows rest) (placed done slot (places_of (after_word text))) h k)

-- it stands above those before it
read_more : (done : List PlainHead) (slot : ℕ) (h : PlainHead) → AreRead slot done → IsPlaced done slot h → AreRead slot (done ++ (h ∷ []))
read_more done slot h a p =
    let same : record { slot = slot; places = h.places } ≡ h = ap (λ (s : ℕ). record { slot = s; places = h.places }) (sym p.at) in
    record {
      right = ap (λ (x : PlainHead). heads_refusal 0 (done ++ (x ∷ []))) (sym same) ∙ pushed 0 slot h.places done a.right a.up_to p.free (omega arith) p.places;
      up_to = up_push slot done h a.up_to (omega (arith, p.at));
      few = omega (arith, length_push done h, p.room);
    }

later : (a b : ℕ) (hs : List PlainHead) → a ≤ b → AreRead a hs → AreRead b hs
later a b hs l r = record { right = r.right; up_to = up_more a b hs l r.up_to; few = r.few }

-- ---- the heads of lines

-- right heads, some of them where a head's line stands
pub record AreHeads (least : ℕ) (hs : List PlainHead) : Type 0 where
  pub right : heads_refusal 0 hs ≡ None
  pub few : length hs ≤ HEAD_LIMIT
  pub some : least ≤ length hs

pub on_head : (line : ℕ) (r : Result PlainHead AsmFault) (f : PlainHead → Result (List PlainHead) AsmError) (hs : List PlainHead) (P : Type 0) → ((h : PlainHead) → r ≡ Ok h → f h ≡ Ok hs → P) → on_line line r f ≡ Ok hs → P
on_head line (Ok h) f hs P k e = k h refl e
on_head line (Err fault) f hs P k e = absurd cc

pub turn : (t u : Bool) (e : AsmError) (x z : Result (List PlainHead) AsmError) (hs : List PlainHead) (P : Type 0) → (t ≡ true → x ≡ Ok hs → P) → (t ≡ false → z ≡ Ok hs → P) → cond t x (cond u (Err e) z) ≡ Ok hs → P
turn true u e x z hs P f g h = f refl h
turn false true e x z hs P f g h = absurd cc
turn false false e x z hs P f g h = g refl h

pub counted : {X : Type 0} (p : X → Bool) (x : X) (xs : List X) → cond (p x) 1 0 + count_by p xs ≡ count_by p (x ∷ xs)
counted p x xs = omega (arith, sum_by-append (λ y. cond (p y) 1 0) (x ∷ []) xs)

pub count_first : {X : Type 0} (p : X → Bool) (x : X) (xs : List X) (b : Bool) → p x ≡ b → count_by p (x ∷ xs) ≡ cond b 1 0 + count_by p xs
count_first p x xs b e = sym (counted p x xs) ∙ ap (λ (c : Bool). cond c 1 0 + count_by p xs) e

all_right : (line slot : ℕ) (done hs : List PlainHead) (texts : List (List ℕ)) → AreRead slot done → heads_from line slot done texts ≡ Ok hs → AreHeads (length done + count_by is_head texts) hs
unfolding heads_from
all_right line slot done hs [] a h =
    let same : done ≡ hs = cc in
    record {
      right = ap (heads_refusal 0) (sym same) ∙ a.right;
      few = rw same at a.few;
      some = omega (arith, ap (λ (xs : List PlainHead). length xs) same);
    }
all_right line slot done hs (t ∷ ts) a h =
    let next = slot + line_slots (other t) in
    turn (is_head t) (is_budget t) _ _ _ hs (AreHeads (length done + count_by is_head (t ∷ ts)) hs)
    (λ yes e. on_head line (head_of done slot ts t) (λ x. heads_from (line + 1) slot (done ++ (x ∷ [])) ts) hs (AreHeads (length done + count_by is_head (t ∷ ts)) hs)
    (λ x read rest. let others = all_right (line + 1) slot (done ++ (x ∷ [])) hs ts (read_more done slot x a (head_right done slot ts t x read)) rest in
    record { right = others.right; few = others.few; some = omega (arith, others.some, length_push done x, count_first is_head t ts true yes) }) e)
    (λ no e. let others = all_right (line + 1) next done hs ts (later slot next done (omega arith) a) e in
    record { right = others.right; few = others.few; some = omega (arith, others.some, count_first is_head t ts false no) })
    h

-- heads that were read of lines, one of which is a head's, and a budget make loops
pub loops_made : (line budget : ℕ) (texts : List (List ℕ)) (hs : List PlainHead) → 1 ≤ budget → budget ≤ BUDGET_LIMIT → has_head texts ≡ true → heads_from line 0 [] texts ≡ Ok hs → loops_refusal budget hs ≡ None
loops_made line budget texts hs paid bounded some h =
    let are = all_right line 0 [] hs texts (record { right = refl; up_to = tt; few = omega arith }) h in
    let one : 1 ≤ count_by is_head texts = ltb-true 0 (count_by is_head texts) some in
    let all : 1 ≤ length hs = omega (arith, are.some) in
    let within = and_from (nat_le 1 (length hs) && nat_le (length hs) HEAD_LIMIT) (nat_le 1 budget && nat_le budget BUDGET_LIMIT)
    (and_from (nat_le 1 (length hs)) (nat_le (length hs) HEAD_LIMIT) (le-leb 1 (length hs) all) (le-leb (length hs) HEAD_LIMIT are.few))
    (and_from (nat_le 1 budget) (nat_le budget BUDGET_LIMIT) (le-leb 1 budget paid) (le-leb budget BUDGET_LIMIT bounded)) in
    cond-true _ (heads_refusal 0 hs) _ within ∙ are.right
