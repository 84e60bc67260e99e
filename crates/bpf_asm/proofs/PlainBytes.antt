-- Bytes that cut no line: neither blank nor one of `,`, `:`, `;` and the line feed.
use Rattle.std.proofs.Common.{◌≡◌, ℕ, ◌==◌, ◌||◌, ◌&&◌, ◌+◌, ◌≤◌, ◌<◌, not, suc, Bool, true, false, List, [], ◌∷◌, ◌++◌, length, take, drop, Some, None, refl, ap, ◌∙◌, arith, add-one, nat_lt, length-append}
use Rattle.std.specs.List.{list_all, position_or_len, before_first}
use Rattle.std.proofs.Math.Seq.{take-length, take-append_seam}
use Rattle.std.proofs.lemmas.Bool.Decides.{nat_tests}
use Rattle.asm_lines.specs.Texts.{is_blank, onto_trimmed, trim_start, trim_end, trim, cut, lone, pair, triple}

abbrev pub is_plain : ℕ → Bool
is_plain c = not (is_blank c || c == 44 || c == 58 || c == 59 || c == 10)

-- bytes that end no line, and are no label's end
abbrev pub is_quiet : ℕ → Bool
is_quiet c = not (c == 58 || c == 59 || c == 10)

-- p fails at each byte
abbrev pub Free : {X : Type 0} → (X → Bool) → List X → Type 0
Free p [] = Unit {0}
Free p (x ∷ xs) = (p x ≡ false) × Free p xs

pub and_left : (a b : Bool) → (a && b) ≡ true → a ≡ true
and_left true b h = refl
and_left false b h = absurd cc

pub and_right : (a b : Bool) → (a && b) ≡ true → b ≡ true
and_right true b h = h
and_right false b h = absurd cc

pub free_where : (p q : ℕ → Bool) → ((c : ℕ) → q c ≡ true → p c ≡ false) → (xs : List ℕ) → list_all q xs ≡ true → Free p xs
free_where p q f [] h = tt
free_where p q f (x ∷ xs) h = (f x (and_left (q x) (list_all q xs) h), free_where p q f xs (and_right (q x) (list_all q xs) h))

pub plain_blank : (c : ℕ) → is_plain c ≡ true → is_blank c ≡ false
plain_blank c h = grind (arith, nat_tests)

plain_comma : (c : ℕ) → is_plain c ≡ true → (c == 44) ≡ false
plain_comma c h = grind (arith, nat_tests)

plain_quiet : (c : ℕ) → is_plain c ≡ true → is_quiet c ≡ true
plain_quiet c h = grind (arith, nat_tests)

pub quiet_comment : (c : ℕ) → is_quiet c ≡ true → (c == 59) ≡ false
quiet_comment c h = grind (arith, nat_tests)

pub quiet_colon : (c : ℕ) → is_quiet c ≡ true → (c == 58) ≡ false
quiet_colon c h = grind (arith, nat_tests)

pub quiet_feed : (c : ℕ) → is_quiet c ≡ true → (c == 10) ≡ false
quiet_feed c h = grind (arith, nat_tests)

pub place_at : {X : Type 0} (p : X → Bool) (xs : List X) (y : X) (ys : List X) → Free p xs → p y ≡ true → position_or_len p (xs ++ (y ∷ ys)) ≡ length xs
place_at p [] y ys f h = rw h refl
place_at p (x ∷ xs) y ys f h = rw f.0 (omega (arith, place_at p xs y ys f.1 h))

pub place_none : {X : Type 0} (p : X → Bool) (xs : List X) → Free p xs → position_or_len p xs ≡ length xs
place_none p [] f = refl
place_none p (x ∷ xs) f = rw f.0 (omega (arith, place_none p xs f.1))

pub before_at : {X : Type 0} (p : X → Bool) (xs : List X) (y : X) (ys : List X) → Free p xs → p y ≡ true → before_first p (xs ++ (y ∷ ys)) ≡ xs
before_at p xs y ys f h = ap (λ n. take n (xs ++ (y ∷ ys))) (place_at p xs y ys f h) ∙ take-append_seam xs (y ∷ ys)

pub before_none : {X : Type 0} (p : X → Bool) (xs : List X) → Free p xs → before_first p xs ≡ xs
before_none p xs f = ap (λ n. take n xs) (place_none p xs f) ∙ take-length xs

pub drop_seam : (xs ys : List ℕ) → drop (length xs) (xs ++ ys) ≡ ys
drop_seam [] ys = refl
drop_seam (x ∷ xs) ys = drop_seam xs ys

drop_suc : (xs : List ℕ) (y : ℕ) (ys : List ℕ) → drop (suc (length xs)) (xs ++ (y ∷ ys)) ≡ ys
drop_suc [] y ys = refl
drop_suc (x ∷ xs) y ys = drop_suc xs y ys

drop_past : (xs : List ℕ) (y : ℕ) (ys : List ℕ) → drop (length xs + 1) (xs ++ (y ∷ ys)) ≡ ys
drop_past xs y ys = rw add-one (drop_suc xs y ys)

onto_free : (x : ℕ) (xs : List ℕ) → is_blank x ≡ false → onto_trimmed x xs ≡ x ∷ xs
onto_free x [] h = rw h refl
onto_free x (y ∷ ys) h = refl

pub trim_end_free : (xs : List ℕ) → Free is_blank xs → trim_end xs ≡ xs
unfolding trim_end
trim_end_free [] f = refl
trim_end_free (x ∷ xs) f = rw (trim_end_free xs f.1) (onto_free x xs f.0)

onto_behind : (x : ℕ) (xs : List ℕ) (y : ℕ) (ys : List ℕ) → onto_trimmed x (xs ++ (y ∷ ys)) ≡ x ∷ (xs ++ (y ∷ ys))
onto_behind x [] y ys = refl
onto_behind x (z ∷ zs) y ys = refl

-- a text whose end is solid keeps it after others
pub trim_end_behind : (xs : List ℕ) (y : ℕ) (ys : List ℕ) → trim_end (y ∷ ys) ≡ y ∷ ys → trim_end (xs ++ (y ∷ ys)) ≡ xs ++ (y ∷ ys)
unfolding trim_end
trim_end_behind [] y ys h = h
trim_end_behind (x ∷ xs) y ys h = rw (trim_end_behind xs y ys h) (onto_behind x xs y ys)

pub trim_start_stays : (x : ℕ) (xs : List ℕ) → is_blank x ≡ false → trim_start (x ∷ xs) ≡ x ∷ xs
unfolding trim_start
trim_start_stays x xs h = rw h refl

pub trim_start_space : (xs : List ℕ) → trim_start (32 ∷ xs) ≡ trim_start xs
unfolding trim_start
trim_start_space xs = refl

-- a piece of a line: plain bytes, and one at least
pub record IsPiece (xs : List ℕ) : Type 0 where
  pub some : 1 ≤ length xs
  pub plain : list_all is_plain xs ≡ true

pub blanks_free : (xs : List ℕ) → list_all is_plain xs ≡ true → Free is_blank xs
blanks_free xs h = free_where is_blank is_plain plain_blank xs h

pub commas_free : (xs : List ℕ) → list_all is_plain xs ≡ true → Free (λ c. c == 44) xs
commas_free xs h = free_where (λ c. c == 44) is_plain plain_comma xs h

pub quiet_where : (xs : List ℕ) → list_all is_plain xs ≡ true → list_all is_quiet xs ≡ true
quiet_where [] h = refl
quiet_where (x ∷ xs) h =
    rw (plain_quiet x (and_left (is_plain x) (list_all is_plain xs) h), quiet_where xs (and_right (is_plain x) (list_all is_plain xs) h)) refl

trim_nil : trim [] ≡ []
unfolding trim trim_end trim_start
trim_nil = refl

-- a piece has no blanks to cut off
pub trim_piece : (xs : List ℕ) → list_all is_plain xs ≡ true → trim xs ≡ xs
unfolding trim
trim_piece [] h = trim_nil
trim_piece (x ∷ xs) h =
    ap trim_end (trim_start_stays x xs (plain_blank x (and_left (is_plain x) (list_all is_plain xs) h))) ∙ trim_end_free (x ∷ xs) (blanks_free (x ∷ xs) h)

pub trim_space : (xs : List ℕ) → list_all is_plain xs ≡ true → trim (32 ∷ xs) ≡ xs
unfolding trim
trim_space xs h = ap trim_end (trim_start_space xs) ∙ trim_piece xs h

pub all_append : (q : ℕ → Bool) (xs ys : List ℕ) → list_all q xs ≡ true → list_all q ys ≡ true → list_all q (xs ++ ys) ≡ true
all_append q [] ys h k = k
all_append q (x ∷ xs) ys h k =
    rw (and_left (q x) (list_all q xs) h, all_append q xs ys (and_right (q x) (list_all q xs) h) k) refl

-- one comma and a space between two operands
pub cut_at : (a b : List ℕ) → Free (λ c. c == 44) a → cut (a ++ (44 ∷ b)) ≡ Some (a, b)
unfolding cut
cut_at a b free =
    let place = place_at (λ c. c == 44) a 44 b free refl in
    let inside : length a < length (a ++ (44 ∷ b)) = omega (arith, length-append a (44 ∷ b)) in
    let test : nat_lt (length a) (length (a ++ (44 ∷ b))) ≡ true = grind (arith, nat_tests) in
    rw (place, test, take-append_seam a (44 ∷ b), drop_past a 44 b) refl

pub cut_none : (a : List ℕ) → Free (λ c. c == 44) a → cut a ≡ None
unfolding cut
cut_none a free =
    let test : nat_lt (length a) (length a) ≡ false = grind (arith, nat_tests) in
    rw (place_none (λ c. c == 44) a free, test) refl

pub lone_piece : (a : List ℕ) → list_all is_plain a ≡ true → lone a ≡ Some a
unfolding lone
lone_piece a h = rw (cut_none a (commas_free a h), trim_piece a h) refl

pub lone_space : (a : List ℕ) → list_all is_plain a ≡ true → lone (32 ∷ a) ≡ Some a
unfolding lone
lone_space a h =
    let free : Free (λ c. c == 44) (32 ∷ a) = (refl, commas_free a h) in
    rw (cut_none (32 ∷ a) free, trim_space a h) refl

pub pair_pieces : (a b : List ℕ) → list_all is_plain a ≡ true → list_all is_plain b ≡ true → pair (a ++ (44 ∷ 32 ∷ b)) ≡ Some (a, b)
unfolding pair
pair_pieces a b h k = rw (cut_at a (32 ∷ b) (commas_free a h), lone_space b k, trim_piece a h) refl

pub pair_space : (a b : List ℕ) → list_all is_plain a ≡ true → list_all is_plain b ≡ true → pair (32 ∷ (a ++ (44 ∷ 32 ∷ b))) ≡ Some (a, b)
unfolding pair
pair_space a b h k =
    let free : Free (λ c. c == 44) (32 ∷ a) = (refl, commas_free a h) in
    rw (cut_at (32 ∷ a) (32 ∷ b) free, lone_space b k, trim_space a h) refl

pub triple_pieces : (a b c : List ℕ) → list_all is_plain a ≡ true → list_all is_plain b ≡ true → list_all is_plain c ≡ true → triple (a ++ (44 ∷ 32 ∷ (b ++ (44 ∷ 32 ∷ c)))) ≡ Some (a, b, c)
unfolding triple
triple_pieces a b c h k l = rw (cut_at a (32 ∷ (b ++ (44 ∷ 32 ∷ c))) (commas_free a h), pair_space b c k l, trim_piece a h) refl
