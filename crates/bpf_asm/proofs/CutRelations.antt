-- Lines are cut exactly where the relations hold.
use Rattle.std.proofs.Common.{◌≡◌, ◌⊎◌, inl, inr, ℕ, ◌==◌, ◌-◌, ◌≤◌, not, suc, Bool, true, false, List, [], ◌∷◌, ◌++◌, length, slice_index, refl, sym, ap, subst, ◌∙◌, arith}
use Rattle.std.specs.List.{list_all, before_first}
use Rattle.std.proofs.lemmas.Bool.Decides.{nat_tests}
use Rattle.std.proofs.lemmas.List.{append-nil}
use Rattle.asm_lines.specs.Texts.{is_blank, onto_trimmed, trim_start, trim_end, trim, content, first_word, after_word}
use Rattle.bpf_asm.specs.Syntax.{AreBlanks, NoBlanks, Without, IsSolid, IsPadded, IsComment, HasContent, HasWord}
use Rattle.bpf_asm.proofs.PlainBytes.{Free, free_where, before_at, before_none, drop_seam, trim_start_stays, and_left, and_right}
use Rattle.bpf_asm.proofs.TextLemmas.{trim_end_same}

-- ---- blanks at the start

blank_first : (x : ℕ) (xs : List ℕ) → AreBlanks (x ∷ xs) → is_blank x ≡ true
blank_first x xs h = and_left (is_blank x) (list_all is_blank xs) h

blank_rest : (x : ℕ) (xs : List ℕ) → AreBlanks (x ∷ xs) → AreBlanks xs
blank_rest x xs h = and_right (is_blank x) (list_all is_blank xs) h

start_blank : (x : ℕ) (xs : List ℕ) → is_blank x ≡ true → trim_start (x ∷ xs) ≡ trim_start xs
unfolding trim_start
start_blank x xs h = rw h refl

start_nil : trim_start [] ≡ []
unfolding trim_start
start_nil = refl

start_blanks : (before text : List ℕ) → AreBlanks before → trim_start (before ++ text) ≡ trim_start text
start_blanks [] text h = refl
start_blanks (x ∷ xs) text h = start_blank x (xs ++ text) (blank_first x xs h) ∙ start_blanks xs text (blank_rest x xs h)

start_none : (text : List ℕ) → AreBlanks text → trim_start text ≡ []
start_none [] h = start_nil
start_none (x ∷ xs) h = start_blank x xs (blank_first x xs h) ∙ start_none xs (blank_rest x xs h)

start_solid : (text : List ℕ) → is_blank (slice_index text 0) ≡ false → trim_start text ≡ text
start_solid [] h = start_nil
start_solid (x ∷ xs) h = trim_start_stays x xs h

-- what is cut off at the start
record Started (text rest : List ℕ) : Type 0 where
  before : List ℕ
  whole : text ≡ before ++ rest
  blanks : AreBlanks before
  solid : is_blank (slice_index rest 0) ≡ false

started_at : (x : ℕ) (xs : List ℕ) (b : Bool) → is_blank x ≡ b → Started xs (trim_start xs) → Started (x ∷ xs) (trim_start (x ∷ xs))
started_at x xs true e s =
    let blanks : AreBlanks (x ∷ s.before) = rw (e, s.blanks) refl in
    let all : Started (x ∷ xs) (trim_start xs) = record { before = x ∷ s.before; whole = ap (λ v. x ∷ v) s.whole; blanks = blanks; solid = s.solid } in
    subst (λ v. Started (x ∷ xs) v) (sym (start_blank x xs e)) all
started_at x xs false e s =
    let all : Started (x ∷ xs) (x ∷ xs) = record { before = []; whole = refl; blanks = refl; solid = e } in
    subst (λ v. Started (x ∷ xs) v) (sym (trim_start_stays x xs e)) all

started : (text : List ℕ) → Started text (trim_start text)
unfolding trim_start
started [] = record { before = []; whole = refl; blanks = refl; solid = refl }
started (x ∷ xs) = started_at x xs (is_blank x) refl (started xs)

-- ---- blanks at the end

end_none : (text : List ℕ) → AreBlanks text → trim_end text ≡ []
unfolding trim_end
end_none [] h = refl
end_none (x ∷ xs) h = rw (end_none xs (blank_rest x xs h), blank_first x xs h) refl

end_blanks : (text after : List ℕ) → AreBlanks after → trim_end (text ++ after) ≡ trim_end text
unfolding trim_end
end_blanks [] after h = end_none after h
end_blanks (x ∷ xs) after h = ap (onto_trimmed x) (end_blanks xs after h)

end_nil : trim_end [] ≡ []
unfolding trim_end
end_nil = refl

end_solid : (text : List ℕ) → is_blank (slice_index text (length text - 1)) ≡ false → trim_end text ≡ text
end_solid [] h = end_nil
end_solid (x ∷ xs) h = trim_end_same (x ∷ xs) (omega arith) h

-- what is cut off at the end
record Ended (text rest : List ℕ) : Type 0 where
  after : List ℕ
  whole : text ≡ rest ++ after
  blanks : AreBlanks after
  solid : is_blank (slice_index rest (length rest - 1)) ≡ false
  first : is_blank (slice_index text 0) ≡ false → is_blank (slice_index rest 0) ≡ false

last_behind : (x y : ℕ) (ys : List ℕ) → slice_index (x ∷ y ∷ ys) (length (x ∷ y ∷ ys) - 1) ≡ slice_index (y ∷ ys) (length (y ∷ ys) - 1)
last_behind x y ys =
    let e : length (x ∷ y ∷ ys) - 1 ≡ suc (length (y ∷ ys) - 1) = omega arith in
    rw e refl

ended_at : (x : ℕ) (xs rest : List ℕ) (b : Bool) → is_blank x ≡ b → Ended xs rest → Ended (x ∷ xs) (onto_trimmed x rest)
ended_at x xs [] true e s =
    let blanks : AreBlanks (x ∷ s.after) = rw (e, s.blanks) refl in
    let all : Ended (x ∷ xs) [] = record { after = x ∷ s.after; whole = ap (λ v. x ∷ v) s.whole; blanks = blanks; solid = refl; first = λ f. refl } in
    rw e all
ended_at x xs [] false e s =
    let all : Ended (x ∷ xs) (x ∷ []) = record { after = s.after; whole = ap (λ v. x ∷ v) s.whole; blanks = s.blanks; solid = e; first = λ f. f } in
    rw e all
ended_at x xs (y ∷ ys) b e s =
    record { after = s.after; whole = ap (λ v. x ∷ v) s.whole; blanks = s.blanks; solid = ap is_blank (last_behind x y ys) ∙ s.solid; first = λ f. f }

ended : (text : List ℕ) → Ended text (trim_end text)
unfolding trim_end
ended [] = record { after = []; whole = refl; blanks = refl; solid = refl; first = λ f. f }
ended (x ∷ xs) = ended_at x xs (trim_end xs) (is_blank x) refl (ended xs)

-- ---- blanks at both ends

pub padded : (text : List ℕ) → IsPadded text (trim text)
unfolding trim
padded text =
    let s = started text in
    let e = ended (trim_start text) in
    let whole : text ≡ s.before ++ (trim_end (trim_start text) ++ e.after) = s.whole ∙ ap (λ v. s.before ++ v) e.whole in
    record { before = s.before; after = e.after; whole = whole; blank_before = s.blanks; blank_after = e.blanks; solid = (e.first s.solid, e.solid) }

cut_pads : (before inner after : List ℕ) → AreBlanks before → AreBlanks after → IsSolid inner → trim (before ++ (inner ++ after)) ≡ inner
unfolding trim
cut_pads before [] after b a s = ap trim_end (start_blanks before after b ∙ start_none after a) ∙ end_nil
cut_pads before (x ∷ xs) after b a s =
    let start = start_blanks before (x ∷ (xs ++ after)) b ∙ trim_start_stays x (xs ++ after) s.0 in
    ap trim_end start ∙ (end_blanks (x ∷ xs) after a ∙ end_solid (x ∷ xs) s.1)

pub is_padded : (text inner : List ℕ) → IsPadded text inner → trim text ≡ inner
is_padded text inner h = ap trim h.whole ∙ cut_pads h.before inner h.after h.blank_before h.blank_after h.solid

-- ---- a text at its first byte that passes

-- nothing, or a byte that passes and all after it
abbrev pub Stops : (ℕ → Bool) → List ℕ → Type 0
Stops p [] = Unit {0}
Stops p (x ∷ xs) = p x ≡ true

pub record Split (p : ℕ → Bool) (text : List ℕ) : Type 0 where
  pub before : List ℕ
  pub behind : List ℕ
  pub whole : text ≡ before ++ behind
  pub free : list_all (λ c. not (p c)) before ≡ true
  pub stops : Stops p behind

split_at : (p : ℕ → Bool) (x : ℕ) (xs : List ℕ) (b : Bool) → p x ≡ b → Split p xs → Split p (x ∷ xs)
split_at p x xs true e s = record { before = []; behind = x ∷ xs; whole = refl; free = refl; stops = e }
split_at p x xs false e s =
    let free : list_all (λ c. not (p c)) (x ∷ s.before) ≡ true = rw (e, s.free) refl in
    record { before = x ∷ s.before; behind = s.behind; whole = ap (λ v. x ∷ v) s.whole; free = free; stops = s.stops }

pub split : (p : ℕ → Bool) (text : List ℕ) → Split p text
split p [] = record { before = []; behind = []; whole = refl; free = refl; stops = tt }
split p (x ∷ xs) = split_at p x xs (p x) refl (split p xs)

not_true : (b : Bool) → not b ≡ true → b ≡ false
not_true true h = absurd cc
not_true false h = refl

pub free_not : (p : ℕ → Bool) (text : List ℕ) → list_all (λ c. not (p c)) text ≡ true → Free p text
free_not p text h = free_where p (λ c. not (p c)) (λ c k. not_true (p c) k) text h

before_stop : (p : ℕ → Bool) (before behind : List ℕ) → list_all (λ c. not (p c)) before ≡ true → Stops p behind → before_first p (before ++ behind) ≡ before
before_stop p before [] h s = ap (before_first p) (append-nil before) ∙ before_none p before (free_not p before h)
before_stop p before (x ∷ xs) h s = before_at p before x xs (free_not p before h) s

-- ---- comments

pub same_byte : (a b : ℕ) → (a == b) ≡ true → a ≡ b
same_byte a b h = grind (arith, nat_tests)

stop_comment : (text : List ℕ) → Stops (λ c. c == 59) text → IsComment text
stop_comment [] h = tt
stop_comment (x ∷ xs) h = same_byte x 59 h

comment_stop : (text : List ℕ) → IsComment text → Stops (λ c. c == 59) text
comment_stop [] h = tt
comment_stop (x ∷ xs) h = rw h refl

content_of : (line text comment : List ℕ) → line ≡ text ++ comment → Without 59 text → Stops (λ c. c == 59) comment → content line ≡ trim text
unfolding content
content_of line text comment whole without stops =
    ap trim (ap (before_first (λ c. c == 59)) whole ∙ before_stop (λ c. c == 59) text comment without stops)

pub has_content : (line : List ℕ) → HasContent line (content line)
has_content line =
    let s = split (λ c. c == 59) line in
    let all : HasContent line (trim s.before) =
    record { text = s.before; comment = s.behind; whole = s.whole; is_comment = stop_comment s.behind s.stops; without = s.free; padded = padded s.before } in
    subst (λ v. HasContent line v) (sym (content_of line s.before s.behind s.whole s.free s.stops)) all

pub is_content : (line inner : List ℕ) → HasContent line inner → content line ≡ inner
is_content line inner h =
    content_of line h.text h.comment h.whole h.without (comment_stop h.comment h.is_comment) ∙ is_padded h.text inner h.padded

-- ---- words

first_word_of : (text word behind : List ℕ) → text ≡ word ++ behind → NoBlanks word → Stops is_blank behind → first_word text ≡ word
unfolding first_word
first_word_of text word behind whole solid stops = ap (before_first is_blank) whole ∙ before_stop is_blank word behind solid stops

after_word_of : (text word behind : List ℕ) → text ≡ word ++ behind → NoBlanks word → Stops is_blank behind → after_word text ≡ trim_start behind
unfolding after_word first_word
after_word_of text word behind whole solid stops =
    let first : before_first is_blank text ≡ word = first_word_of text word behind whole solid stops in
    rw (first, whole) (ap trim_start (drop_seam word behind))

record Gapped (behind rest : List ℕ) : Type 0 where
  gap : List ℕ
  whole : behind ≡ gap ++ rest
  blanks : AreBlanks gap
  solid : is_blank (slice_index rest 0) ≡ false
  parted : (1 ≤ length gap) ⊎ (rest ≡ [])

gapped : (behind : List ℕ) → Stops is_blank behind → Gapped behind (trim_start behind)
gapped [] h =
    let all : Gapped [] [] = record { gap = []; whole = refl; blanks = refl; solid = refl; parted = inr refl } in
    subst (λ v. Gapped [] v) (sym start_nil) all
gapped (x ∷ xs) h =
    let s = started xs in
    let blanks : AreBlanks (x ∷ s.before) = rw (h, s.blanks) refl in
    let all : Gapped (x ∷ xs) (trim_start xs) = record { gap = x ∷ s.before; whole = ap (λ v. x ∷ v) s.whole; blanks = blanks; solid = s.solid; parted = inl (omega arith) } in
    subst (λ v. Gapped (x ∷ xs) v) (sym (start_blank x xs h)) all

pub has_word : (text : List ℕ) → HasWord text (first_word text) (after_word text)
has_word text =
    let s = split is_blank text in
    let g = gapped s.behind s.stops in
    let whole : text ≡ s.before ++ (g.gap ++ trim_start s.behind) = s.whole ∙ ap (λ v. s.before ++ v) g.whole in
    let all : HasWord text s.before (trim_start s.behind) =
    record { gap = g.gap; whole = whole; word_solid = s.free; blanks = g.blanks; rest_solid = g.solid; parted = g.parted } in
    let first = first_word_of text s.before s.behind s.whole s.free s.stops in
    let after = after_word_of text s.before s.behind s.whole s.free s.stops in
    subst (λ v. HasWord text v (after_word text)) (sym first) (subst (λ v. HasWord text s.before v) (sym after) all)

gap_stops : (gap rest : List ℕ) → AreBlanks gap → (1 ≤ length gap) ⊎ (rest ≡ []) → Stops is_blank (gap ++ rest)
gap_stops (x ∷ xs) rest b p = blank_first x xs b
gap_stops [] rest b (inl h) = absurd (omega arith)
gap_stops [] rest b (inr h) = subst (λ v. Stops is_blank v) (sym h) tt

pub is_first : (text word rest : List ℕ) → HasWord text word rest → first_word text ≡ word
is_first text word rest h = first_word_of text word (h.gap ++ rest) h.whole h.word_solid (gap_stops h.gap rest h.blanks h.parted)

pub is_rest : (text word rest : List ℕ) → HasWord text word rest → after_word text ≡ rest
is_rest text word rest h =
    after_word_of text word (h.gap ++ rest) h.whole h.word_solid (gap_stops h.gap rest h.blanks h.parted)
    ∙ (start_blanks h.gap rest h.blanks ∙ start_solid rest h.rest_solid)
