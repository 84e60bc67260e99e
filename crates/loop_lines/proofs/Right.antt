-- What is read are places that may be declared.
use Rattle.std.proofs.Common.{◌≡◌, ℕ, ◌==◌, ◌&&◌, ◌+◌, ◌≤◌, not, Bool, true, false, cond, List, [], ◌∷◌, drop, nat_le, Option, Some, None, Result, Ok, Err, refl, subst, arith, slice_index, codes}
use Rattle.std.specs.Prelude.{IfOk, IfSome}
use Rattle.std.specs.Option.{option_map}
use Rattle.std.specs.Str.{bytes_eq}
use Rattle.std.specs.Str.Parse.{digits_value}
use Rattle.std.proofs.lemmas.Bool.{and_from}
use Rattle.std.proofs.lemmas.Bool.Decides.{nat_tests}
use Rattle.text_digits.specs.Digits.{is_decimal}
use Rattle.asm_lines.specs.declared.fault.AsmFault.{AsmFault}
use Rattle.asm_lines.specs.declared.fault.AsmFault.TheVariants.{Operand, Range}
use Rattle.asm_lines.specs.Texts.{trim_start, first_word, after_word}
use Rattle.loop_heads.specs.declared.place.PlaceKind.{PlaceKind}
use Rattle.loop_heads.specs.declared.place.PlaceKind.TheVariants.{Unset, Any, Unsigned, Signed, Input, Output, Stack}
use Rattle.loop_heads.specs.declared.place.HeadPlace.{HeadPlace}
use Rattle.loop_heads.specs.Loops.{is_kind, is_place, are_places}
use Rattle.loop_lines.specs.Reading.{◌>>=◌, checked, at_end, unsigned_64, signed_64, decimal_within, place_named, number_from, pair_of, bounded, bounds_of, offsets_of, kind_of, place_of, places_from}

then_ok : {A B : Type 0} (r : Result A AsmFault) (f : A → Result B AsmFault) (P : A → Type 0) (Q : B → Type 0) → IfOk r P → ((x : A) → P x → IfOk (f x) Q) → IfOk (r >>= f) Q
then_ok (Ok x) f P Q h k = k x h
then_ok (Err e) f P Q h k = tt

either_ok : {A : Type 0} (b : Bool) (r s : Result A AsmFault) (P : A → Type 0) → IfOk r P → IfOk s P → IfOk (cond b r s) P
either_ok true r s P h k = h
either_ok false r s P h k = k

either_some : (b : Bool) (r s : Option ℕ) (P : ℕ → Type 0) → IfSome r P → IfSome s P → IfSome (cond b r s) P
either_some true r s P h k = h
either_some false r s P h k = k

pub tested : {A : Type 0} (b : Bool) (e : AsmFault) (x : A) (P : A → Type 0) → (b ≡ true → P x) → IfOk (checked b e x) P
tested true e x P h = h refl
tested false e x P h = tt

-- ---- kinds

abbrev Ordered : Result PlaceKind AsmFault → Type 0
Ordered r = IfOk r (λ k. is_kind k ≡ true)

bounded_right : (k : PlaceKind) (text : List ℕ) → Ordered (bounded k text)
bounded_right k text =
    then_ok (checked (is_kind k) Range k) (λ o. at_end (after_word (after_word text)) o) (λ o. is_kind o ≡ true) (λ o. is_kind o ≡ true) (tested (is_kind k) Range k (λ o. is_kind o ≡ true) (λ h. h))
    (λ o h. tested _ Operand o (λ o. is_kind o ≡ true) (λ e. h))

bounds_right : {N : Type 0} (read : List ℕ → Result N AsmFault) (kind : N → N → PlaceKind) (text : List ℕ) (r : Result (N × N) AsmFault) → Ordered (r >>= λ p. bounded (kind p.0 p.1) text)
bounds_right read kind text (Ok p) = bounded_right (kind p.0 p.1) text
bounds_right read kind text (Err e) = tt

alone_right : (k : PlaceKind) (rest : List ℕ) → is_kind k ≡ true → Ordered (at_end rest k)
alone_right k rest h = tested _ Operand k (λ o. is_kind o ≡ true) (λ e. h)

kind_right : (text : List ℕ) → Ordered (kind_of text)
unfolding kind_of
kind_right text =
    let P : PlaceKind → Type 0 = λ k. is_kind k ≡ true in
    let is : List ℕ → Bool = λ w. bytes_eq (first_word text) w in
    let rest = after_word text in
    let stack : Result PlaceKind AsmFault = cond (is (codes "stack")) (offsets_of Stack rest) (offsets_of Unsigned text) in
    let out : Result PlaceKind AsmFault = cond (is (codes "out")) (offsets_of Output rest) stack in
    let input : Result PlaceKind AsmFault = cond (is (codes "in")) (offsets_of Input rest) out in
    let signed : Result PlaceKind AsmFault = cond (is (codes "signed")) (bounds_of signed_64 Signed rest) input in
    let any : Result PlaceKind AsmFault = cond (is (codes "any")) (at_end rest Any) signed in
    either_ok (is (codes "unset")) (at_end rest Unset) any P (alone_right Unset rest refl)
    (either_ok (is (codes "any")) (at_end rest Any) signed P (alone_right Any rest refl)
    (either_ok (is (codes "signed")) (bounds_of signed_64 Signed rest) input P (bounds_right signed_64 Signed rest (pair_of signed_64 rest))
    (either_ok (is (codes "in")) (offsets_of Input rest) out P (bounds_right unsigned_64 Input rest (pair_of unsigned_64 rest))
    (either_ok (is (codes "out")) (offsets_of Output rest) stack P (bounds_right unsigned_64 Output rest (pair_of unsigned_64 rest))
    (either_ok (is (codes "stack")) (offsets_of Stack rest) (offsets_of Unsigned text) P (bounds_right unsigned_64 Stack rest (pair_of unsigned_64 rest))
    (bounds_right unsigned_64 Unsigned text (pair_of unsigned_64 text)))))))

-- ---- names

within_some : (most v : ℕ) (b : Bool) → nat_le v most ≡ b → IfSome (cond b (Some v) None) (λ n. n ≤ most)
within_some most v true e = grind (arith, nat_tests)
within_some most v false e = tt

decimal_some : (most : ℕ) (ds : List ℕ) → IfSome (decimal_within most ds) (λ n. n ≤ most)
decimal_some most ds =
    either_some (is_decimal ds) _ None (λ n. n ≤ most) (within_some most (digits_value 10 ds) (nat_le (digits_value 10 ds) most) refl) tt

-- the number of a place
abbrev is_number : ℕ → Bool
is_number n = nat_le n 74 && not (n == 10)

low_number : (n : ℕ) → n ≤ 9 → is_number n ≡ true
low_number n h = grind (arith, nat_tests)

high_number : (n : ℕ) → n ≤ 63 → is_number (n + 11) ≡ true
high_number n h = grind (arith, nat_tests)

low_some : (o : Option ℕ) → IfSome o (λ n. n ≤ 9) → IfSome o (λ n. is_number n ≡ true)
low_some None h = tt
low_some (Some n) h = low_number n h

high_some : (o : Option ℕ) → IfSome o (λ n. n ≤ 63) → IfSome (option_map (λ n. n + 11) o) (λ n. is_number n ≡ true)
high_some None h = tt
high_some (Some n) h = high_number n h

named_right : (word : List ℕ) → IfSome (place_named word) (λ n. is_number n ≡ true)
unfolding place_named
named_right word =
    let ds = drop 1 word in
    let slot = option_map (λ n. n + 11) (decimal_within 63 ds) in
    either_some (slice_index word 0 == 114) (decimal_within 9 ds) (cond (slice_index word 0 == 115) slot None) (λ n. is_number n ≡ true) (low_some (decimal_within 9 ds) (decimal_some 9 ds))
    (either_some (slice_index word 0 == 115) slot None (λ n. is_number n ≡ true) (high_some (decimal_within 63 ds) (decimal_some 63 ds)) tt)

-- ---- places

number_right : (least : ℕ) (o : Option ℕ) → IfSome o (λ n. is_number n ≡ true) → IfOk (number_from least o) (λ n. (nat_le least n ≡ true) × (is_number n ≡ true))
number_right least None h = tt
number_right least (Some n) h = tested (nat_le least n) Operand n (λ n. (nat_le least n ≡ true) × (is_number n ≡ true)) (λ e. (e, h))

abbrev IsNext : ℕ → HeadPlace → Type 0
IsNext least p = (nat_le least p.number && is_place p) ≡ true

joined : (a b c : Bool) → (a && b) ≡ true → c ≡ true → (a && (b && c)) ≡ true
joined true true c h k = k
joined true false c h k = h
joined false b c h k = h

place_right : (least : ℕ) (text : List ℕ) → IfOk (place_of least text) (IsNext least)
unfolding place_of
place_right least text =
    let with_kind : ℕ → PlaceKind → Result HeadPlace AsmFault = λ n k. Ok (record { number = n; kind = k }) in
    let kind = kind_of (after_word text) in
    then_ok (number_from least (place_named (first_word text))) (λ n. kind >>= with_kind n) (λ n. (nat_le least n ≡ true) × (is_number n ≡ true)) (IsNext least)
    (number_right least (place_named (first_word text)) (named_right (first_word text)))
    (λ n h. then_ok kind (with_kind n) (λ k. is_kind k ≡ true) (IsNext least) (kind_right (after_word text))
    (λ k o. and_from (nat_le least n) (nat_le n 74 && (not (n == 10) && is_kind k)) h.0 (joined (nat_le n 74) (not (n == 10)) (is_kind k) h.1 o)))

abbrev Are : ℕ → List HeadPlace → Type 0
Are least ps = are_places least ps ≡ true

all_right : (least : ℕ) (ts : List (List ℕ)) → IfOk (places_from least ts) (Are least)
unfolding places_from
all_right least [] = refl
all_right least (t ∷ ts) =
    let more : HeadPlace → List HeadPlace → Result (List HeadPlace) AsmFault = λ p ps. Ok (p ∷ ps) in
    then_ok (place_of least (trim_start t)) (λ p. places_from (p.number + 1) ts >>= more p) (IsNext least) (Are least) (place_right least (trim_start t))
    (λ p h. then_ok (places_from (p.number + 1) ts) (more p) (Are (p.number + 1)) (Are least) (all_right (p.number + 1) ts)
    (λ ps k. and_from (nat_le least p.number && is_place p) (are_places (p.number + 1) ps) h k))

pub right_of : (ts : List (List ℕ)) (ps : List HeadPlace) → places_from 0 ts ≡ Ok ps → are_places 0 ps ≡ true
right_of ts ps e = subst (λ (r : Result (List HeadPlace) AsmFault). IfOk r (Are 0)) e (all_right 0 ts)
