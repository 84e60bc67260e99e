-- What is read is what the relations say.
use Rattle.std.proofs.Common.{◌≡◌, ◌∙◌, ℕ, ◌==◌, ◌&&◌, ◌+◌, ◌≤◌, Bool, true, false, cond, List, [], ◌∷◌, length, nat_le, Some, None, Option, Result, Ok, Err, refl, sym, ap, subst, arith, codes}
use Rattle.std.specs.Prelude.{IfOk}
use Rattle.std.specs.List.{slice_split}
use Rattle.std.specs.Str.{bytes_eq}
use Rattle.std.proofs.lemmas.Bool.{and_parts}
use Rattle.std.proofs.lemmas.Bool.Decides.{nat_tests}
use Rattle.std.proofs.lemmas.Slice.Eq.{bytes_eq-Decides}
use Rattle.asm_lines.specs.declared.fault.AsmFault.{AsmFault}
use Rattle.asm_lines.specs.declared.fault.AsmFault.TheVariants.{Operand, Range}
use Rattle.asm_lines.specs.Texts.{trim_start, first_word, after_word}
use Rattle.asm_lines.specs.Numbers.{decimal_number, natural, plus_within, plain_within}
use Rattle.asm_lines.specs.Operands.{unsigned_of}
use Rattle.loop_heads.specs.declared.place.PlaceKind.{PlaceKind}
use Rattle.loop_heads.specs.declared.place.PlaceKind.TheVariants.{Unset, Any, Unsigned, Signed, Input, Output, Stack}
use Rattle.loop_heads.specs.declared.place.HeadPlace.{HeadPlace}
use Rattle.loop_heads.specs.declared.limits.TheConstants.{BUDGET_LIMIT}
use Rattle.loop_heads.specs.Loops.{is_kind, is_place, are_places}
use Rattle.loop_lines.specs.Reading.{◌>>=◌, checked, at_end, unsigned_64, signed_64, budget_of, place_named, number_from, pair_of, bounded, bounds_of, offsets_of, kind_of, place_of, places_from, places_of}
use Rattle.loop_lines.specs.Grammar.{HasWords, HasBounds, IsKindText, IsPlaceText, ArePlaceTexts, IsHeadText, IsBudgetText}
use Rattle.loop_lines.proofs.Right.{tested, right_of}

-- ---- what is read is in the grammar

then_is : {A B : Type 0} (r : Result A AsmFault) (f : A → Result B AsmFault) (Q : B → Type 0) → ((x : A) → r ≡ Ok x → IfOk (f x) Q) → IfOk (r >>= f) Q
then_is (Ok x) f Q h = h x refl
then_is (Err e) f Q h = tt

came : {A B : Type 0} (r : Result A AsmFault) (f : A → Result B AsmFault) (y : B) → (r >>= f) ≡ Ok y → (x : A) × (r ≡ Ok x) × (f x ≡ Ok y)
came (Ok x) f y e = (x, refl, e)
came (Err d) f y e = absurd cc

tests_of : {A : Type 0} (b : Bool) (d : AsmFault) (x y : A) → checked b d x ≡ Ok y → (b ≡ true) × (x ≡ y)
tests_of true d x y e = (refl, cc)
tests_of false d x y e = absurd cc

was_checked : {A : Type 0} (b : Bool) (d : AsmFault) (x y : A) → checked b d x ≡ Ok y → x ≡ y
was_checked b d x y e = (tests_of b d x y e).1

abbrev done : {A : Type 0} → A → Result A AsmFault
done x = Ok x

ok_is : {A : Type 0} (x y : A) → done x ≡ done y → x ≡ y
ok_is x y e = cc

when : (b : Bool) (r s : Result PlaceKind AsmFault) (P : PlaceKind → Type 0) → (b ≡ true → IfOk r P) → IfOk s P → IfOk (cond b r s) P
when true r s P h k = h refl
when false r s P h k = k

nothing : (rest : List ℕ) → (length rest == 0) ≡ true → rest ≡ []
nothing [] h = refl
nothing (x ∷ xs) h = absurd (grind (arith, nat_tests))

is_word : (text word : List ℕ) → bytes_eq (first_word text) word ≡ true → first_word text ≡ word
is_word text word h = (bytes_eq-Decides (first_word text) word).0 h

alone_says : (k : PlaceKind) (text word : List ℕ) (P : PlaceKind → Type 0) → (HasWords text (word ∷ []) → P k) → bytes_eq (first_word text) word ≡ true → IfOk (at_end (after_word text) k) P
alone_says k text word P h e = tested (length (after_word text) == 0) Operand k P (λ z. h (is_word text word e, nothing (after_word text) z))

bounds_say : {N : Type 0} (read : List ℕ → Result N AsmFault) (kind : N → N → PlaceKind) (text : List ℕ) (P : PlaceKind → Type 0) → ((a b : N) → HasBounds read a b text → P (kind a b)) → IfOk (bounds_of read kind text) P
bounds_say {N} read kind text P h =
    let left = first_word text in
    let right = first_word (after_word text) in
    let rest = after_word (after_word text) in
    let pair : N → Result (N × N) AsmFault = λ a. read right >>= λ b. Ok (a, b) in
    then_is (pair_of read text) (λ p. bounded (kind p.0 p.1) text) P (λ p e.
    let a = came (read left) pair p e in
    let b = came (read right) (λ b. Ok (a.0, b)) p a.2 in
    let same : (a.0, b.0) ≡ p = ok_is (a.0, b.0) p b.2 in
    then_is (checked (is_kind (kind p.0 p.1)) Range (kind p.0 p.1)) (λ o. at_end rest o) P (λ o f.
    let is = was_checked (is_kind (kind p.0 p.1)) Range (kind p.0 p.1) o f in
    tested (length rest == 0) Operand o P (λ z.
    subst P (ap (λ (q : N × N). kind q.0 q.1) same ∙ is) (h a.0 b.0 (record { first = left; second = right; words = (refl, (refl, nothing rest z)); is_first = a.1; is_second = b.1 })))))

abbrev Says : List ℕ → PlaceKind → Type 0
Says text k = IsKindText k text

kind_says : (text : List ℕ) → IfOk (kind_of text) (Says text)
unfolding kind_of
kind_says text =
    let P : PlaceKind → Type 0 = Says text in
    let is : List ℕ → Bool = λ w. bytes_eq (first_word text) w in
    let rest = after_word text in
    let stack : Result PlaceKind AsmFault = cond (is (codes "stack")) (offsets_of Stack rest) (offsets_of Unsigned text) in
    let out : Result PlaceKind AsmFault = cond (is (codes "out")) (offsets_of Output rest) stack in
    let input : Result PlaceKind AsmFault = cond (is (codes "in")) (offsets_of Input rest) out in
    let signed : Result PlaceKind AsmFault = cond (is (codes "signed")) (bounds_of signed_64 Signed rest) input in
    let any : Result PlaceKind AsmFault = cond (is (codes "any")) (at_end rest Any) signed in
    when (is (codes "unset")) (at_end rest Unset) any P (alone_says Unset text (codes "unset") P (λ h. h))
    (when (is (codes "any")) (at_end rest Any) signed P (alone_says Any text (codes "any") P (λ h. h))
    (when (is (codes "signed")) (bounds_of signed_64 Signed rest) input P (λ e. bounds_say signed_64 Signed rest P (λ a b h. (is_word text (codes "signed") e, h)))
    (when (is (codes "in")) (offsets_of Input rest) out P (λ e. bounds_say unsigned_64 Input rest P (λ a b h. (is_word text (codes "in") e, h)))
    (when (is (codes "out")) (offsets_of Output rest) stack P (λ e. bounds_say unsigned_64 Output rest P (λ a b h. (is_word text (codes "out") e, h)))
    (when (is (codes "stack")) (offsets_of Stack rest) (offsets_of Unsigned text) P (λ e. bounds_say unsigned_64 Stack rest P (λ a b h. (is_word text (codes "stack") e, h)))
    (bounds_say unsigned_64 Unsigned text P (λ a b h. h)))))))

was_numbered : (least : ℕ) (o : Option ℕ) (n : ℕ) → number_from least o ≡ Ok n → o ≡ Some n
was_numbered least None n h = absurd cc
was_numbered least (Some m) n h = ap (λ k. Some k) (was_checked (nat_le least m) Operand m n h)

place_says : (least : ℕ) (text : List ℕ) → IfOk (place_of least text) (λ p. IsPlaceText p text)
unfolding place_of
place_says least text =
    let with_kind : ℕ → PlaceKind → Result HeadPlace AsmFault = λ n k. Ok (record { number = n; kind = k }) in
    let named = place_named (first_word text) in
    let kind = kind_of (after_word text) in
    then_is (number_from least named) (λ n. kind >>= with_kind n) (λ p. IsPlaceText p text) (λ n e.
    then_is kind (with_kind n) (λ p. IsPlaceText p text) (λ k f.
    record { name = was_numbered least named n e; kind = subst (λ (r : Result PlaceKind AsmFault). IfOk r (Says (after_word text))) f (kind_says (after_word text)) }))

all_say : (least : ℕ) (ts : List (List ℕ)) → IfOk (places_from least ts) (λ ps. ArePlaceTexts ps ts)
unfolding places_from
all_say least [] = tt
all_say least (t ∷ ts) =
    let more : HeadPlace → List HeadPlace → Result (List HeadPlace) AsmFault = λ p ps. Ok (p ∷ ps) in
    let P : List HeadPlace → Type 0 = λ ps. ArePlaceTexts ps (t ∷ ts) in
    then_is (place_of least (trim_start t)) (λ p. places_from (p.number + 1) ts >>= more p) P (λ p e.
    then_is (places_from (p.number + 1) ts) (more p) P (λ ps f.
    (subst (λ (r : Result HeadPlace AsmFault). IfOk r (λ q. IsPlaceText q (trim_start t))) e (place_says least (trim_start t)), subst (λ (r : Result (List HeadPlace) AsmFault). IfOk r (λ qs. ArePlaceTexts qs ts)) f (all_say (p.number + 1) ts))))

pub head_says : (text : List ℕ) (ps : List HeadPlace) → places_of text ≡ Ok ps → IsHeadText ps text
unfolding places_of
head_says [] ps h =
    let none : [] ≡ ps = ok_is [] ps h in
    record { says = sym none; right = subst (λ (qs : List HeadPlace). are_places 0 qs ≡ true) none refl }
head_says (c ∷ cs) ps h =
    let ts = slice_split (λ b. b == 44) (c ∷ cs) in
    let some : (length (c ∷ cs) == 0) ≡ false = grind (arith, nat_tests) in
    let e : places_from 0 ts ≡ Ok ps = ap (λ (b : Bool). cond b (Ok []) (places_from 0 ts)) (sym some) ∙ h in
    record { says = subst (λ (r : Result (List HeadPlace) AsmFault). IfOk r (λ qs. ArePlaceTexts qs ts)) e (all_say 0 ts); right = right_of ts ps e }

-- ---- what is in the grammar is read

bounds_are : {N : Type 0} (read : List ℕ → Result N AsmFault) (kind : N → N → PlaceKind) (a b : N) (text : List ℕ) → HasBounds read a b text → is_kind (kind a b) ≡ true → bounds_of read kind text ≡ Ok (kind a b)
bounds_are read kind a b text h o =
    rw (h.words.0, h.words.1.0, h.words.1.1, h.is_first, h.is_second, o) refl

-- a word that is no number
not_by : (word other : List ℕ) (n : ℕ) (b : Bool) → bytes_eq word other ≡ b → unsigned_64 other ≡ Err Operand → unsigned_64 word ≡ Ok n → b ≡ false
not_by word other n false e none h = refl
not_by word other n true e none h =
    let same : word ≡ other = (bytes_eq-Decides word other).0 e in
    let wrong : Err Operand ≡ Ok n = sym none ∙ ap unsigned_64 (sym same) ∙ h in
    absurd cc

no_number : (word other : List ℕ) (n : ℕ) → unsigned_64 other ≡ Err Operand → unsigned_64 word ≡ Ok n → bytes_eq word other ≡ false
no_number word other n none h = not_by word other n (bytes_eq word other) refl none h

unset_none : unsigned_64 (codes "unset") ≡ Err Operand
unfolding unsigned_of plain_within plus_within natural decimal_number
unset_none = refl

any_none : unsigned_64 (codes "any") ≡ Err Operand
unfolding unsigned_of plain_within plus_within natural decimal_number
any_none = refl

signed_none : unsigned_64 (codes "signed") ≡ Err Operand
unfolding unsigned_of plain_within plus_within natural decimal_number
signed_none = refl

in_none : unsigned_64 (codes "in") ≡ Err Operand
unfolding unsigned_of plain_within plus_within natural decimal_number
in_none = refl

out_none : unsigned_64 (codes "out") ≡ Err Operand
unfolding unsigned_of plain_within plus_within natural decimal_number
out_none = refl

stack_none : unsigned_64 (codes "stack") ≡ Err Operand
unfolding unsigned_of plain_within plus_within natural decimal_number
stack_none = refl

kind_is : (k : PlaceKind) (text : List ℕ) → IsKindText k text → is_kind k ≡ true → kind_of text ≡ Ok k
unfolding kind_of
kind_is Unset text h o = rw (h.0, h.1) refl
kind_is Any text h o = rw (h.0, h.1) refl
kind_is (Unsigned a b) text h o =
    let w = first_word text in
    let n : unsigned_64 w ≡ Ok a = ap unsigned_64 h.words.0 ∙ h.is_first in
    rw (no_number w (codes "unset") a unset_none n, no_number w (codes "any") a any_none n, no_number w (codes "signed") a signed_none n, no_number w (codes "in") a in_none n, no_number w (codes "out") a out_none n, no_number w (codes "stack") a stack_none n) (bounds_are unsigned_64 Unsigned a b text h o)
kind_is (Signed a b) text h o = rw h.0 (bounds_are signed_64 Signed a b (after_word text) h.1 o)
kind_is (Input a b) text h o = rw h.0 (bounds_are unsigned_64 Input a b (after_word text) h.1 o)
kind_is (Output a b) text h o = rw h.0 (bounds_are unsigned_64 Output a b (after_word text) h.1 o)
kind_is (Stack a b) text h o = rw h.0 (bounds_are unsigned_64 Stack a b (after_word text) h.1 o)

place_is : (least : ℕ) (p : HeadPlace) (text : List ℕ) → IsPlaceText p text → (nat_le least p.number && is_place p) ≡ true → place_of least text ≡ Ok p
unfolding place_of
place_is least p text h r =
    let a = and_parts (nat_le least p.number) (is_place p) r in
    let b = and_parts (nat_le p.number 74) _ a.1 in
    let c = and_parts _ (is_kind p.kind) b.1 in
    rw (h.name, a.0, kind_is p.kind (after_word text) h.kind c.1) refl

all_are : (least : ℕ) (ps : List HeadPlace) (ts : List (List ℕ)) → ArePlaceTexts ps ts → are_places least ps ≡ true → places_from least ts ≡ Ok ps
unfolding places_from
all_are least [] [] h r = refl
all_are least [] (t ∷ ts) h r = absurd h
all_are least (p ∷ ps) [] h r = absurd h
all_are least (p ∷ ps) (t ∷ ts) h r =
    let c = and_parts (nat_le least p.number && is_place p) (are_places (p.number + 1) ps) r in
    rw (place_is least p (trim_start t) h.0 c.0, all_are (p.number + 1) ps ts h.1 c.1) refl

pub head_is : (text : List ℕ) (ps : List HeadPlace) → IsHeadText ps text → places_of text ≡ Ok ps
unfolding places_of
head_is [] ps h = ap (λ (qs : List HeadPlace). Ok qs) (sym h.says)
head_is (c ∷ cs) ps h =
    let some : (length (c ∷ cs) == 0) ≡ false = grind (arith, nat_tests) in
    rw some (all_are 0 ps (slice_split (λ b. b == 44) (c ∷ cs)) h.says h.right)

-- ---- budgets

pub budget_says : (text : List ℕ) (n : ℕ) → budget_of text ≡ Ok n → IsBudgetText n text
unfolding budget_of
budget_says text n h =
    let known : ℕ → Bool = λ m. nat_le 1 m && nat_le m BUDGET_LIMIT in
    let rest = after_word text in
    let a = came (unsigned_64 (first_word text)) (λ m. checked (known m) Range m >>= λ k. at_end rest k) n h in
    let b = came (checked (known a.0) Range a.0) (λ k. at_end rest k) n a.2 in
    let c = tests_of (known a.0) Range a.0 b.0 b.1 in
    let d = tests_of (length rest == 0) Operand b.0 n b.2 in
    let same : a.0 ≡ n = c.1 ∙ d.1 in
    let within = and_parts (nat_le 1 a.0) (nat_le a.0 BUDGET_LIMIT) c.0 in
    let low = within.0 in
    let high = within.1 in
    let some : 1 ≤ n = grind (arith, nat_tests) in
    let most : n ≤ BUDGET_LIMIT = grind (arith, nat_tests) in
    record { word = first_word text; words = (refl, nothing rest d.0); spelled = a.1 ∙ ap (λ k. Ok k) same; some = some; most = most }

pub budget_is : (text : List ℕ) (n : ℕ) → IsBudgetText n text → budget_of text ≡ Ok n
unfolding budget_of
budget_is text n h =
    let low = h.some in
    let high = h.most in
    let test : (nat_le 1 n && nat_le n BUDGET_LIMIT) ≡ true = grind (arith, nat_tests) in
    rw (h.words.0, h.words.1, h.spelled, test) refl
