-- Texts are cut into the words and pieces that they were put together of.
use Rattle.std.proofs.Common.{◌≡◌, ℕ, ◌==◌, ◌||◌, ◌<◌, not, Bool, true, false, List, [], ◌∷◌, ◌++◌, length, take, drop, slice_index, refl, ap, ◌∙◌, arith}
use Rattle.std.specs.List.{list_all, position_or_len, before_first, slice_split, onto_first}
use Rattle.std.proofs.Math.Seq.{take-length, take-append_seam}
use Rattle.std.proofs.lemmas.Bool.{and_parts}
use Rattle.std.proofs.lemmas.Bool.Decides.{nat_tests}
use Rattle.std.proofs.lemmas.List.Splits.{slice_split-cons_yes, slice_split-cons_no}
use Rattle.asm_lines.specs.Texts.{is_blank, onto_trimmed, trim_start, trim_end, trim, content, first_word, after_word}

-- p fails at each byte
abbrev pub Free : (ℕ → Bool) → List ℕ → Type 0
Free p [] = Unit {0}
Free p (x ∷ xs) = (p x ≡ false) × Free p xs

not_true : (b : Bool) → not b ≡ true → b ≡ false
not_true true h = absurd cc
not_true false h = refl

pub free_of : (p : ℕ → Bool) (xs : List ℕ) → list_all (λ c. not (p c)) xs ≡ true → Free p xs
free_of p [] h = tt
free_of p (x ∷ xs) h =
    let both = and_parts (not (p x)) (list_all (λ c. not (p c)) xs) h in
    (not_true (p x) both.0, free_of p xs both.1)

pub free_append : (p : ℕ → Bool) (xs ys : List ℕ) → Free p xs → Free p ys → Free p (xs ++ ys)
free_append p [] ys f g = g
free_append p (x ∷ xs) ys f g = (f.0, free_append p xs ys f.1 g)

abbrev pub is_comma : ℕ → Bool
is_comma c = c == 44

-- what ends a line or what is read of it: a line feed or a `;`
abbrev pub is_end : ℕ → Bool
is_end c = c == 10 || c == 59

abbrev pub is_cut : ℕ → Bool
is_cut c = is_comma c || is_end c

cut_comma : (c : ℕ) → is_cut c ≡ false → is_comma c ≡ false
cut_comma c h = grind (arith, nat_tests)

cut_end : (c : ℕ) → is_cut c ≡ false → is_end c ≡ false
cut_end c h = grind (arith, nat_tests)

pub free_comma : (xs : List ℕ) → Free is_cut xs → Free is_comma xs
free_comma [] f = tt
free_comma (x ∷ xs) f = (cut_comma x f.0, free_comma xs f.1)

pub free_end : (xs : List ℕ) → Free is_cut xs → Free is_end xs
free_end [] f = tt
free_end (x ∷ xs) f = (cut_end x f.0, free_end xs f.1)

-- ---- words

-- bytes that cut nothing, and one at least
pub record IsWord (w : List ℕ) : Type 0 where
  pub some : 0 < length w
  pub blank : Free is_blank w
  pub cut : Free is_cut w

pub word_begins : (w : List ℕ) → IsWord w → is_blank (slice_index w 0) ≡ false
word_begins [] h = absurd (omega (arith, h.some))
word_begins (x ∷ xs) h = h.blank.0

pub word_start : (w ys : List ℕ) → IsWord w → is_blank (slice_index (w ++ ys) 0) ≡ false
word_start [] ys h = absurd (omega (arith, h.some))
word_start (x ∷ xs) ys h = h.blank.0

place_at : (p : ℕ → Bool) (xs : List ℕ) (y : ℕ) (ys : List ℕ) → Free p xs → p y ≡ true → position_or_len p (xs ++ (y ∷ ys)) ≡ length xs
place_at p [] y ys f h = rw h refl
place_at p (x ∷ xs) y ys f h = rw f.0 (omega (arith, place_at p xs y ys f.1 h))

place_none : (p : ℕ → Bool) (xs : List ℕ) → Free p xs → position_or_len p xs ≡ length xs
place_none p [] f = refl
place_none p (x ∷ xs) f = rw f.0 (omega (arith, place_none p xs f.1))

before_at : (xs ys : List ℕ) → Free is_blank xs → before_first is_blank (xs ++ (32 ∷ ys)) ≡ xs
before_at xs ys f = ap (λ n. take n (xs ++ (32 ∷ ys))) (place_at is_blank xs 32 ys f refl) ∙ take-append_seam xs (32 ∷ ys)

before_none : (xs : List ℕ) → Free is_blank xs → before_first is_blank xs ≡ xs
before_none xs f = ap (λ n. take n xs) (place_none is_blank xs f) ∙ take-length xs

drop_seam : (xs ys : List ℕ) → drop (length xs) (xs ++ ys) ≡ ys
drop_seam [] ys = refl
drop_seam (x ∷ xs) ys = drop_seam xs ys

drop_all : (xs : List ℕ) → drop (length xs) xs ≡ []
drop_all [] = refl
drop_all (x ∷ xs) = drop_all xs

trim_nil : trim_start [] ≡ []
unfolding trim_start
trim_nil = refl

-- a text that begins with no blank
pub solid_start : (xs : List ℕ) → is_blank (slice_index xs 0) ≡ false → trim_start xs ≡ xs
unfolding trim_start
solid_start [] h = refl
solid_start (x ∷ xs) h = rw h refl

pub space_start : (xs : List ℕ) → trim_start (32 ∷ xs) ≡ trim_start xs
unfolding trim_start
space_start xs = refl

pub word_first : (w xs : List ℕ) → Free is_blank w → first_word (w ++ (32 ∷ xs)) ≡ w
unfolding first_word
word_first w xs f = before_at w xs f

pub word_rest : (w xs : List ℕ) → Free is_blank w → is_blank (slice_index xs 0) ≡ false → after_word (w ++ (32 ∷ xs)) ≡ xs
unfolding after_word
word_rest w xs f h = rw (before_at w xs f) (ap trim_start (drop_seam w (32 ∷ xs)) ∙ space_start xs ∙ solid_start xs h)

pub last_first : (w : List ℕ) → Free is_blank w → first_word w ≡ w
unfolding first_word
last_first w f = before_none w f

pub last_rest : (w : List ℕ) → Free is_blank w → after_word w ≡ []
unfolding after_word
last_rest w f = rw (before_none w f) (ap trim_start (drop_all w) ∙ trim_nil)

-- ---- pieces

pub pieces_at : (xs ys : List ℕ) → Free is_comma xs → slice_split is_comma (xs ++ (44 ∷ ys)) ≡ xs ∷ slice_split is_comma ys
pieces_at [] ys f = slice_split-cons_yes is_comma 44 ys refl
pieces_at (x ∷ xs) ys f = slice_split-cons_no is_comma x (xs ++ (44 ∷ ys)) f.0 ∙ ap (onto_first x) (pieces_at xs ys f.1)

pub one_piece : (xs : List ℕ) → Free is_comma xs → slice_split is_comma xs ≡ xs ∷ []
one_piece [] f = refl
one_piece (x ∷ xs) f = slice_split-cons_no is_comma x xs f.0 ∙ ap (onto_first x) (one_piece xs f.1)

-- ---- contents

onto_free : (x : ℕ) (xs : List ℕ) → is_blank x ≡ false → onto_trimmed x xs ≡ x ∷ xs
onto_free x [] h = rw h refl
onto_free x (y ∷ ys) h = refl

-- a text that ends with no blank
pub free_ends : (xs : List ℕ) → Free is_blank xs → trim_end xs ≡ xs
unfolding trim_end
free_ends [] f = refl
free_ends (x ∷ xs) f = rw (free_ends xs f.1) (onto_free x xs f.0)

onto_some : (x : ℕ) (xs ys : List ℕ) → 0 < length ys → onto_trimmed x (xs ++ ys) ≡ x ∷ (xs ++ ys)
onto_some x [] [] h = absurd (omega arith)
onto_some x [] (y ∷ ys) h = refl
onto_some x (z ∷ zs) ys h = refl

pub ends_behind : (xs ys : List ℕ) → 0 < length ys → trim_end ys ≡ ys → trim_end (xs ++ ys) ≡ xs ++ ys
unfolding trim_end
ends_behind [] ys h e = e
ends_behind (x ∷ xs) ys h e = rw (ends_behind xs ys h e) (onto_some x xs ys h)

end_semicolon : (c : ℕ) → is_end c ≡ false → (c == 59) ≡ false
end_semicolon c h = grind (arith, nat_tests)

no_semicolon : (xs : List ℕ) → Free is_end xs → Free (λ c. c == 59) xs
no_semicolon [] f = tt
no_semicolon (x ∷ xs) f = (end_semicolon x f.0, no_semicolon xs f.1)

pub same_content : (line : List ℕ) → Free is_end line → is_blank (slice_index line 0) ≡ false → trim_end line ≡ line → content line ≡ line
unfolding content trim
same_content line f s e =
    let is_semicolon : ℕ → Bool = λ c. c == 59 in
    let all : before_first is_semicolon line ≡ line = ap (λ n. take n line) (place_none is_semicolon line (no_semicolon line f)) ∙ take-length line in
    ap (λ t. trim_end (trim_start t)) all ∙ ap trim_end (solid_start line s) ∙ e

end_feed : (c : ℕ) → is_end c ≡ false → not (c == 10) ≡ true
end_feed c h = grind (arith, nat_tests)

pub no_feed : (xs : List ℕ) → Free is_end xs → list_all (λ c. not (c == 10)) xs ≡ true
no_feed [] f = refl
no_feed (x ∷ xs) f = rw (end_feed x f.0, no_feed xs f.1) refl
