-- Numbers are read exactly where the relations hold.
use Rattle.std.proofs.Common.{◌≡◌, ◌⊎◌, inl, inr, ℕ, ℤ, pos, negsuc, ◌==◌, ◌||◌, ◌&&◌, ◌≤◌, ◌<◌, not, zero, suc, Bool, true, false, cond, List, [], ◌∷◌, ◌++◌, length, drop, slice_index, nat_le, Option, Some, None, Result, Ok, Err, refl, sym, ap, ◌∙◌, subst, arith, lit<, codes}
use Rattle.std.specs.List.{list_all}
use Rattle.std.specs.Char.{digit_value, is_digit}
use Rattle.std.specs.Str.Parse.{AllDigits, digits_value}
use Rattle.std.proofs.lemmas.Bool.Decides.{nat_tests}
use Rattle.asm_lines.specs.declared.fault.AsmFault.{AsmFault}
use Rattle.asm_lines.specs.declared.fault.AsmFault.TheVariants.{Operand, Range}
use Rattle.asm_lines.specs.declared.number.Number.{Number}
use Rattle.text_digits.specs.Digits.{all_digits}
use Rattle.asm_lines.specs.Numbers.{decimal_number, hex_number, natural, natural_within, as_negative, as_nonnegative, minus_within, plus_within, plain_within, signed_within, value_of}
use Rattle.asm_lines.specs.Operands.{filled, immediate_of, offset_of, distance_of, unsigned_of}
use Rattle.bpf_asm.specs.Syntax.{IsDecimal, IsHexadecimal, IsNatural, IsBehind, IsImmediate, IsOffset, IsDistance, IsUnsigned}
use Rattle.bpf_asm.proofs.PlainBytes.{and_left, and_right}
use Rattle.bpf_asm.proofs.CutRelations.{same_byte}
use Rattle.bpf_asm.proofs.NumberTexts.{at_range, not_at}

-- ---- numbers without a sign

digit_below : (c : ℕ) → is_digit c 10 ≡ true → digit_value c < 10
digit_below c h = grind (arith, nat_tests)

passed_digits : (ds : List ℕ) → list_all (λ c. is_digit c 10) ds ≡ true → AllDigits 10 ds
passed_digits [] h = tt
passed_digits (c ∷ cs) h =
    (digit_below c (and_left (is_digit c 10) (list_all (λ d. is_digit d 10) cs) h), passed_digits cs (and_right (is_digit c 10) (list_all (λ d. is_digit d 10) cs) h))

some_pass : (b x : Bool) → cond b false x ≡ true → x ≡ true
some_pass true x h = absurd cc
some_pass false x h = h

pub decimal_digits : (text : List ℕ) (n : ℕ) → IsDecimal text n → AllDigits 10 text
decimal_digits text n h = passed_digits text (some_pass (length text == 0) (list_all (λ c. is_digit c 10) text) h.digits)

-- a byte that is no digit stands nowhere in a decimal text
decimal_without : (text : List ℕ) (n : ℕ) → IsDecimal text n → (k b : ℕ) → 0 < b → (b < 48) ⊎ (57 < b) → (slice_index text k == b) ≡ false
decimal_without text n h k b some out = not_at (slice_index text k) b (at_range text (decimal_digits text n h) k) some out

when_true : (b : Bool) (m n : ℕ) → cond b (Some m) None ≡ Some n → (b ≡ true) × (m ≡ n)
when_true true m n h = (refl, cc)
when_true false m n h = absurd cc

pub decimal_is : (text : List ℕ) (n : ℕ) → decimal_number text ≡ Some n → IsDecimal text n
unfolding decimal_number
decimal_is text n h =
    let lead = length text == 1 || not (slice_index text 0 == 48) in
    let p = when_true (all_digits 10 text && lead) (digits_value 10 text) n h in
    record { digits = and_left (all_digits 10 text) lead p.0; lead = and_right (all_digits 10 text) lead p.0; value = p.1 }

if_both : (a b : Bool) (m n : ℕ) → a ≡ true → b ≡ true → m ≡ n → cond (a && b) (Some m) None ≡ Some n
if_both a b m n ha hb e = rw (ha, hb, e) refl

pub is_decimal : (text : List ℕ) (n : ℕ) → IsDecimal text n → decimal_number text ≡ Some n
unfolding decimal_number
is_decimal text n h = if_both (all_digits 10 text) (length text == 1 || not (slice_index text 0 == 48)) (digits_value 10 text) n h.digits h.lead h.value

hex_is : (hex : List ℕ) (n : ℕ) → hex_number hex ≡ Some n → IsHexadecimal (codes "0x" ++ hex) n
unfolding hex_number
hex_is hex n h =
    let p = when_true (all_digits 16 hex && nat_le (length hex) 16) (digits_value 16 hex) n h in
    let few = and_right (all_digits 16 hex) (nat_le (length hex) 16) p.0 in
    let most : length hex ≤ 16 = grind (arith, nat_tests) in
    record { hex = hex; whole = refl; digits = and_left (all_digits 16 hex) (nat_le (length hex) 16) p.0; most = most; value = p.1 }

is_hex : (hex : List ℕ) (n : ℕ) → all_digits 16 hex ≡ true → length hex ≤ 16 → digits_value 16 hex ≡ n → hex_number hex ≡ Some n
unfolding hex_number
is_hex hex n digits most value =
    let few : nat_le (length hex) 16 ≡ true = grind (arith, nat_tests) in
    if_both (all_digits 16 hex) (nat_le (length hex) 16) (digits_value 16 hex) n digits few value

-- a text that begins with `0x`
marked : (text : List ℕ) → (slice_index text 0 == 48 && slice_index text 1 == 120) ≡ true → text ≡ codes "0x" ++ drop 2 text
marked [] h = absurd cc
marked (c ∷ []) h = let never = and_right (c == 48) false h in absurd cc
marked (c ∷ d ∷ cs) h =
    rw (same_byte c 48 (and_left (c == 48) (d == 120) h), same_byte d 120 (and_right (c == 48) (d == 120) h)) refl

natural_by : (text : List ℕ) (n : ℕ) (b : Bool) → (slice_index text 0 == 48 && slice_index text 1 == 120) ≡ b → cond b (hex_number (drop 2 text)) (decimal_number text) ≡ Some n → IsNatural text n
natural_by text n true e h = inr (subst (λ (v : List ℕ). IsHexadecimal v n) (sym (marked text e)) (hex_is (drop 2 text) n h))
natural_by text n false e h = inl (decimal_is text n h)

pub natural_is : (text : List ℕ) (n : ℕ) → natural text ≡ Some n → IsNatural text n
unfolding natural
natural_is text n h = natural_by text n (slice_index text 0 == 48 && slice_index text 1 == 120) refl h

never_and : (a b : Bool) → b ≡ false → (a && b) ≡ false
never_and true b h = h
never_and false b h = refl

pub is_natural : (text : List ℕ) (n : ℕ) → IsNatural text n → natural text ≡ Some n
unfolding natural
is_natural text n (inl h) =
    rw (never_and (slice_index text 0 == 48) (slice_index text 1 == 120) (decimal_without text n h 1 120 (lit< tt) (inr (lit< tt)))) (is_decimal text n h)
is_natural text n (inr h) = ap natural h.whole ∙ is_hex h.hex n h.digits h.most h.value

-- a number without a sign begins with a digit
pub natural_first : (text : List ℕ) (n : ℕ) → IsNatural text n → (b : ℕ) → 0 < b → (b < 48) ⊎ (57 < b) → (slice_index text 0 == b) ≡ false
natural_first text n (inl h) b some out = decimal_without text n h 0 b some out
natural_first text n (inr h) b some out = rw h.whole (not_at 48 b (inr (omega arith, omega arith)) some out)

-- ---- numbers in a range

within_by : (most m n : ℕ) (b : Bool) → nat_le m most ≡ b → cond b (Ok m) (Err Range) ≡ Ok n → (Some m ≡ Some n) × (n ≤ most)
within_by most m n false e h = absurd cc
within_by most m n true e h =
    let same : m ≡ n = cc in
    let low : m ≤ most = grind (arith, nat_tests) in
    (ap (λ v. Some v) same, omega arith)

pub within_is : (most : ℕ) (o : Option ℕ) (n : ℕ) → natural_within most o ≡ Ok n → (o ≡ Some n) × (n ≤ most)
within_is most None n h = absurd cc
within_is most (Some m) n h = within_by most m n (nat_le m most) refl h

pub is_within_most : (most : ℕ) (o : Option ℕ) (n : ℕ) → o ≡ Some n → n ≤ most → natural_within most o ≡ Ok n
is_within_most most o n h low =
    let test : nat_le n most ≡ true = grind (arith, nat_tests) in
    rw (h, test) refl

-- a number that is not negative
record IsUp (above : ℕ) (text : List ℕ) (v : Number) : Type 0 where
  nonnegative : v.negative ≡ false
  natural : IsNatural text v.magnitude
  most : v.magnitude ≤ above

-- a number below zero, without its `-`
record IsDown (below : ℕ) (text : List ℕ) (v : Number) : Type 0 where
  negative : v.negative ≡ true
  some : 1 ≤ v.magnitude
  natural : IsNatural text v.magnitude
  most : v.magnitude ≤ below

nonnegative_is : (r : Result ℕ AsmFault) (v : Number) → as_nonnegative r ≡ Ok v → (v.negative ≡ false) × (r ≡ Ok v.magnitude)
nonnegative_is (Err f) v h = absurd cc
nonnegative_is (Ok n) v h =
    let same : record { negative = false; magnitude = n } ≡ v = cc in
    (sym (ap (λ (w : Number). w.negative) same), ap (λ (w : Number). Ok w.magnitude) same)

negative_by : (n : ℕ) (v : Number) (b : Bool) → (n == 0) ≡ b → cond b (Err Operand) (Ok (record { negative = true; magnitude = n })) ≡ Ok v → (v.negative ≡ true) × (1 ≤ v.magnitude) × (n ≡ v.magnitude)
negative_by n v true e h = absurd cc
negative_by n v false e h =
    let same : record { negative = true; magnitude = n } ≡ v = cc in
    let magnitude : n ≡ v.magnitude = ap (λ (w : Number). w.magnitude) same in
    let some : 1 ≤ n = grind (arith, nat_tests) in
    (sym (ap (λ (w : Number). w.negative) same), omega arith, magnitude)

negative_is : (r : Result ℕ AsmFault) (v : Number) → as_negative r ≡ Ok v → (v.negative ≡ true) × (1 ≤ v.magnitude) × (r ≡ Ok v.magnitude)
negative_is (Err f) v h = absurd cc
negative_is (Ok n) v h = let p = negative_by n v (n == 0) refl h in (p.0, p.1, ap (λ k. Ok k) p.2)

plus_is : (above : ℕ) (text : List ℕ) (v : Number) → plus_within above text ≡ Ok v → IsUp above text v
unfolding plus_within
plus_is above text v h =
    let p = nonnegative_is (natural_within above (natural text)) v h in
    let q = within_is above (natural text) v.magnitude p.1 in
    record { nonnegative = p.0; natural = natural_is text v.magnitude q.0; most = q.1 }

minus_is : (below : ℕ) (text : List ℕ) (v : Number) → minus_within below text ≡ Ok v → IsDown below text v
unfolding minus_within
minus_is below text v h =
    let p = negative_is (natural_within below (natural text)) v h in
    let q = within_is below (natural text) v.magnitude p.2 in
    record { negative = p.0; some = p.1; natural = natural_is text v.magnitude q.0; most = q.1 }

is_plus : (above : ℕ) (text : List ℕ) (n : ℕ) → IsNatural text n → n ≤ above → plus_within above text ≡ Ok (record { negative = false; magnitude = n })
unfolding plus_within
is_plus above text n h low = ap as_nonnegative (is_within_most above (natural text) n (is_natural text n h) low)

is_minus : (below : ℕ) (text : List ℕ) (n : ℕ) → IsNatural text (suc n) → suc n ≤ below → minus_within below text ≡ Ok (record { negative = true; magnitude = suc n })
unfolding minus_within
is_minus below text n h low =
    let other : (suc n == 0) ≡ false = grind (arith, nat_tests) in
    rw (is_within_most below (natural text) (suc n) (is_natural text (suc n) h) low, other) refl

-- ---- numbers with a sign

-- a text that begins with this byte, which is not 0
pub behind : (b : ℕ) (text : List ℕ) → 0 < b → (slice_index text 0 == b) ≡ true → text ≡ b ∷ drop 1 text
behind b [] some h = absurd (grind (arith, nat_tests))
behind b (c ∷ cs) some h = rw (same_byte c b h) refl

plain_by : (below above : ℕ) (text : List ℕ) (v : Number) (b : Bool) → (slice_index text 0 == 45) ≡ b → cond b (minus_within below (drop 1 text)) (plus_within above text) ≡ Ok v → ((text ≡ 45 ∷ drop 1 text) × IsDown below (drop 1 text) v) ⊎ IsUp above text v
plain_by below above text v true e h = inl (behind 45 text (lit< tt) e, minus_is below (drop 1 text) v h)
plain_by below above text v false e h = inr (plus_is above text v h)

plain_is : (below above : ℕ) (text : List ℕ) (v : Number) → plain_within below above text ≡ Ok v → ((text ≡ 45 ∷ drop 1 text) × IsDown below (drop 1 text) v) ⊎ IsUp above text v
unfolding plain_within
plain_is below above text v h = plain_by below above text v (slice_index text 0 == 45) refl h

plus_by : (above : ℕ) (text : List ℕ) (v : Number) (b : Bool) → (slice_index text 0 == 43) ≡ b → cond b (plus_within above (drop 1 text)) (Err Operand) ≡ Ok v → (text ≡ 43 ∷ drop 1 text) × IsUp above (drop 1 text) v
plus_by above text v true e h = (behind 43 text (lit< tt) e, plus_is above (drop 1 text) v h)
plus_by above text v false e h = absurd cc

signed_by : (below above : ℕ) (text : List ℕ) (v : Number) (b : Bool) → (slice_index text 0 == 45) ≡ b → cond b (minus_within below (drop 1 text)) (cond (slice_index text 0 == 43) (plus_within above (drop 1 text)) (Err Operand)) ≡ Ok v → ((text ≡ 45 ∷ drop 1 text) × IsDown below (drop 1 text) v) ⊎ ((text ≡ 43 ∷ drop 1 text) × IsUp above (drop 1 text) v)
signed_by below above text v true e h = inl (behind 45 text (lit< tt) e, minus_is below (drop 1 text) v h)
signed_by below above text v false e h = inr (plus_by above text v (slice_index text 0 == 43) refl h)

signed_is : (below above : ℕ) (text : List ℕ) (v : Number) → signed_within below above text ≡ Ok v → ((text ≡ 45 ∷ drop 1 text) × IsDown below (drop 1 text) v) ⊎ ((text ≡ 43 ∷ drop 1 text) × IsUp above (drop 1 text) v)
unfolding signed_within
signed_is below above text v h = signed_by below above text v (slice_index text 0 == 45) refl h

-- the value of what was read
pub record FilledBy {A B : Type 0} (f : A → B) (r : Result A AsmFault) (b : B) : Type 0 where
  pub from : A
  pub read : r ≡ Ok from
  pub is : f from ≡ b

pub filled_is : {A B : Type 0} (f : A → B) (r : Result A AsmFault) (b : B) → filled f r ≡ Ok b → FilledBy f r b
filled_is f (Err e) b h = absurd cc
filled_is f (Ok a) b h = record { from = a; read = refl; is = cc }

up_value : (v : Number) → v.negative ≡ false → value_of v ≡ pos v.magnitude
up_value v h = rw h refl

down_value : (v : Number) (k : ℕ) → v.negative ≡ true → v.magnitude ≡ suc k → value_of v ≡ negsuc k
down_value v k h e = rw (h, e) refl

record Before (n : ℕ) : Type 0 where
  number : ℕ
  is : n ≡ suc number

before : (n : ℕ) → 1 ≤ n → Before n
before zero h = absurd (omega arith)
before (suc k) h = record { number = k; is = refl }

-- what is read lies in the relation, for a relation on signed numbers
meet_up : (P : ℤ → Type 0) (v : Number) (z : ℤ) → v.negative ≡ false → value_of v ≡ z → P (pos v.magnitude) → P z
meet_up P v z h e p = subst P (sym (up_value v h) ∙ e) p

meet_down : (P : ℤ → Type 0) (v : Number) (z : ℤ) → v.negative ≡ true → 1 ≤ v.magnitude → value_of v ≡ z → ((k : ℕ) → v.magnitude ≡ suc k → P (negsuc k)) → P z
meet_down P v z h some e p =
    let b = before v.magnitude some in
    subst P (sym (down_value v b.number h b.is) ∙ e) (p b.number b.is)

down_behind : (below : ℕ) (text : List ℕ) (v : Number) (k : ℕ) → text ≡ 45 ∷ drop 1 text → IsDown below (drop 1 text) v → v.magnitude ≡ suc k → IsBehind 45 text (suc k) × (suc k ≤ below)
down_behind below text v k whole d e =
    let most = d.most in
    (record { number = drop 1 text; whole = whole; natural = subst (λ (n : ℕ). IsNatural (drop 1 text) n) e d.natural }, omega arith)

immediate_by : (text : List ℕ) (v : Number) (z : ℤ) → value_of v ≡ z → ((text ≡ 45 ∷ drop 1 text) × IsDown 2147483648 (drop 1 text) v) ⊎ IsUp 2147483647 text v → IsImmediate text z
immediate_by text v z e (inl d) =
    meet_down (λ y. IsImmediate text y) v z d.1.negative d.1.some e (λ k s. let p = down_behind 2147483648 text v k d.0 d.1 s in let low = p.1 in (p.0, omega arith))
immediate_by text v z e (inr u) = let most = u.most in meet_up (λ y. IsImmediate text y) v z u.nonnegative e (u.natural, omega arith)

pub immediate_is : (text : List ℕ) (z : ℤ) → immediate_of text ≡ Ok z → IsImmediate text z
unfolding immediate_of
immediate_is text z h =
    let f = filled_is value_of (plain_within 2147483648 2147483647 text) z h in
    immediate_by text f.from z f.is (plain_is 2147483648 2147483647 text f.from f.read)

is_up : (below above : ℕ) (text : List ℕ) (n : ℕ) → IsNatural text n → n ≤ above → plain_within below above text ≡ Ok (record { negative = false; magnitude = n })
unfolding plain_within
is_up below above text n h low = rw (natural_first text n h 45 (lit< tt) (inl (lit< tt))) (is_plus above text n h low)

is_down : (below above : ℕ) (text : List ℕ) (k : ℕ) → IsBehind 45 text (suc k) → suc k ≤ below → plain_within below above text ≡ Ok (record { negative = true; magnitude = suc k })
unfolding plain_within
is_down below above text k h low = rw h.whole (is_minus below h.number k h.natural low)

is_signed_up : (below above : ℕ) (text : List ℕ) (n : ℕ) → IsBehind 43 text n → n ≤ above → signed_within below above text ≡ Ok (record { negative = false; magnitude = n })
unfolding signed_within
is_signed_up below above text n h low = rw h.whole (is_plus above h.number n h.natural low)

is_signed_down : (below above : ℕ) (text : List ℕ) (k : ℕ) → IsBehind 45 text (suc k) → suc k ≤ below → signed_within below above text ≡ Ok (record { negative = true; magnitude = suc k })
unfolding signed_within
is_signed_down below above text k h low = rw h.whole (is_minus below h.number k h.natural low)

pub is_immediate : (text : List ℕ) (z : ℤ) → IsImmediate text z → immediate_of text ≡ Ok z
unfolding immediate_of
is_immediate text (pos n) h = let fits = h.1 in ap (filled value_of) (is_up 2147483648 2147483647 text n h.0 (omega arith))
is_immediate text (negsuc k) h = let fits = h.1 in ap (filled value_of) (is_down 2147483648 2147483647 text k h.0 (omega arith))

-- ---- offsets and distances

up_behind : (above : ℕ) (text : List ℕ) (v : Number) → text ≡ 43 ∷ drop 1 text → IsUp above (drop 1 text) v → IsBehind 43 text v.magnitude
up_behind above text v whole u = record { number = drop 1 text; whole = whole; natural = u.natural }

offset_by : (text : List ℕ) (v : Number) (z : ℤ) → value_of v ≡ z → ((text ≡ 45 ∷ drop 1 text) × IsDown 32768 (drop 1 text) v) ⊎ ((text ≡ 43 ∷ drop 1 text) × IsUp 32767 (drop 1 text) v) → IsOffset text z
offset_by text v z e (inl d) =
    meet_down (λ y. IsOffset text y) v z d.1.negative d.1.some e (λ k s. let p = down_behind 32768 text v k d.0 d.1 s in let low = p.1 in (p.0, omega arith))
offset_by text v z e (inr u) = let most = u.1.most in meet_up (λ y. IsOffset text y) v z u.1.nonnegative e (up_behind 32767 text v u.0 u.1, omega arith)

pub offset_is : (text : List ℕ) (z : ℤ) → offset_of text ≡ Ok z → IsOffset text z
unfolding offset_of
offset_is text z h =
    let f = filled_is value_of (signed_within 32768 32767 text) z h in
    offset_by text f.from z f.is (signed_is 32768 32767 text f.from f.read)

pub is_offset : (text : List ℕ) (z : ℤ) → IsOffset text z → offset_of text ≡ Ok z
unfolding offset_of
is_offset text (pos n) h = let fits = h.1 in ap (filled value_of) (is_signed_up 32768 32767 text n h.0 (omega arith))
is_offset text (negsuc k) h = let fits = h.1 in ap (filled value_of) (is_signed_down 32768 32767 text k h.0 (omega arith))

distance_by : (text : List ℕ) (v : Number) (z : ℤ) → value_of v ≡ z → ((text ≡ 45 ∷ drop 1 text) × IsDown 2147483648 (drop 1 text) v) ⊎ ((text ≡ 43 ∷ drop 1 text) × IsUp 2147483647 (drop 1 text) v) → IsDistance text z
distance_by text v z e (inl d) =
    meet_down (λ y. IsDistance text y) v z d.1.negative d.1.some e (λ k s. let p = down_behind 2147483648 text v k d.0 d.1 s in let low = p.1 in (p.0, omega arith))
distance_by text v z e (inr u) = let most = u.1.most in meet_up (λ y. IsDistance text y) v z u.1.nonnegative e (up_behind 2147483647 text v u.0 u.1, omega arith)

pub distance_is : (text : List ℕ) (z : ℤ) → distance_of text ≡ Ok z → IsDistance text z
unfolding distance_of
distance_is text z h =
    let f = filled_is value_of (signed_within 2147483648 2147483647 text) z h in
    distance_by text f.from z f.is (signed_is 2147483648 2147483647 text f.from f.read)

pub is_distance : (text : List ℕ) (z : ℤ) → IsDistance text z → distance_of text ≡ Ok z
unfolding distance_of
is_distance text (pos n) h = let fits = h.1 in ap (filled value_of) (is_signed_up 2147483648 2147483647 text n h.0 (omega arith))
is_distance text (negsuc k) h = let fits = h.1 in ap (filled value_of) (is_signed_down 2147483648 2147483647 text k h.0 (omega arith))

-- ---- numbers from 0 to a bound

unsigned_by : (most : ℕ) (text : List ℕ) (v : Number) (n : ℕ) → v.magnitude ≡ n → ((text ≡ 45 ∷ drop 1 text) × IsDown 0 (drop 1 text) v) ⊎ IsUp most text v → IsUnsigned most text n
unsigned_by most text v n e (inl d) = let some = d.1.some in let none = d.1.most in absurd (omega arith)
unsigned_by most text v n e (inr u) = subst (λ (m : ℕ). IsUnsigned most text m) e (u.natural, u.most)

pub unsigned_is : (most : ℕ) (text : List ℕ) (n : ℕ) → unsigned_of most text ≡ Ok n → IsUnsigned most text n
unfolding unsigned_of
unsigned_is most text n h =
    let f = filled_is (λ (v : Number). v.magnitude) (plain_within 0 most text) n h in
    unsigned_by most text f.from n f.is (plain_is 0 most text f.from f.read)

pub is_unsigned : (most : ℕ) (text : List ℕ) (n : ℕ) → IsUnsigned most text n → unsigned_of most text ≡ Ok n
unfolding unsigned_of
is_unsigned most text n h = ap (filled (λ (v : Number). v.magnitude)) (is_up 0 most text n h.0 h.1)
