-- What was written is read.
use Rattle.std.proofs.Common.{◌≡◌, ◌∙◌, ℕ, ◌+◌, ◌-◌, ◌^◌, ◌<◌, ◌≤◌, ◌==◌, ◌&&◌, not, Bool, true, false, cond, List, [], ◌∷◌, ◌++◌, length, slice_index, nat_le, Some, Result, Ok, refl, sym, ap, subst, arith, codes, map, length-append, inr, lit<}
use Rattle.std.specs.List.{list_all, AllByRecursion, slice_split, onto_first}
use Rattle.std.specs.Option.{option_map}
use Rattle.std.specs.Str.{bytes_eq}
use Rattle.std.specs.Fmt.{decimal, signed_decimal}
use Rattle.std.proofs.lemmas.Bool.{and_parts}
use Rattle.std.proofs.lemmas.Bool.Decides.{nat_tests}
use Rattle.std.proofs.lemmas.List.{append-nil}
use Rattle.asm_lines.specs.declared.fault.AsmFault.{AsmFault}
use Rattle.asm_lines.specs.Texts.{is_blank, trim_start, trim_end, content, first_word, after_word}
use Rattle.loop_heads.specs.declared.place.PlaceKind.{PlaceKind}
use Rattle.loop_heads.specs.declared.place.PlaceKind.TheVariants.{Unset, Any, Unsigned, Signed, Input, Output, Stack}
use Rattle.loop_heads.specs.declared.place.HeadPlace.{HeadPlace}
use Rattle.loop_heads.specs.declared.limits.TheConstants.{BUDGET_LIMIT}
use Rattle.loop_heads.specs.Loops.{is_kind, is_place, are_places}
use Rattle.loop_lines.specs.HeadText.{place_name, bounds_text, kind_text, place_text, more_text, places_text, head_line, budget_line, HasBits, ArePlaces}
use Rattle.loop_lines.specs.Reading.{at_end, unsigned_64, signed_64, budget_of, place_named, bounds_of, offsets_of, kind_of, place_of, places_from, places_of}
use Rattle.loop_lines.proofs.Words.{is_end, is_cut, free_comma, free_end, free_ends, ends_behind, same_content, no_feed, Free, free_of, free_append, is_comma, IsWord, word_begins, word_start, solid_start, space_start, word_first, word_rest, last_first, last_rest, pieces_at, one_piece}
use Rattle.loop_lines.proofs.Numbers.{decimal_word, signed_word, decimal_not, within_reads, unsigned_reads, signed_reads}

-- ---- kinds

bounds_read : {N : Type 0} (read : List ℕ → Result N AsmFault) (kind : N → N → PlaceKind) (x y : List ℕ) (a b : N) → IsWord x → IsWord y → read x ≡ Ok a → read y ≡ Ok b → is_kind (kind a b) ≡ true
    → bounds_of read kind (x ++ (32 ∷ y)) ≡ Ok (kind a b)
bounds_read read kind x y a b u v p q o =
    rw (word_first x y u.blank, word_rest x y u.blank (word_begins y v), last_first y v.blank, last_rest y v.blank, p, q, o) refl

-- a kind by its first word, what stands after it, and the whole
abbrev kind_at : List ℕ → List ℕ → List ℕ → Result PlaceKind AsmFault
kind_at word rest text =
    cond (bytes_eq word (codes "unset")) (at_end rest Unset)
    (cond (bytes_eq word (codes "any")) (at_end rest Any)
    (cond (bytes_eq word (codes "signed")) (bounds_of signed_64 Signed rest)
    (cond (bytes_eq word (codes "in")) (offsets_of Input rest)
    (cond (bytes_eq word (codes "out")) (offsets_of Output rest)
    (cond (bytes_eq word (codes "stack")) (offsets_of Stack rest)
    (offsets_of Unsigned text))))))

named : (w rest : List ℕ) → Free is_blank w → is_blank (slice_index rest 0) ≡ false → kind_of (w ++ (32 ∷ rest)) ≡ kind_at w rest (w ++ (32 ∷ rest))
unfolding kind_of
named w rest f s =
    let text = w ++ (32 ∷ rest) in
    ap (λ v. kind_at v (after_word text) text) (word_first w rest f) ∙ ap (λ v. kind_at w v text) (word_rest w rest f s)

other_by : (ds : List ℕ) (c : ℕ) (cs : List ℕ) → (slice_index ds 0 == c) ≡ false → bytes_eq ds (c ∷ cs) ≡ false
other_by [] c cs h = refl
other_by (d ∷ ds) c cs h = rw h refl

-- a number is no word
other : (n : ℕ) → n < 2 ^ 64 → (c : ℕ) (cs : List ℕ) → 57 < c → bytes_eq (decimal n) (c ∷ cs) ≡ false
other n h c cs out = other_by (decimal n) c cs (decimal_not n h 0 c (omega arith) (inr out))

unset_reads : kind_of (codes "unset") ≡ Ok Unset
unfolding kind_of first_word after_word trim_start
unset_reads = refl

any_reads : kind_of (codes "any") ≡ Ok Any
unfolding kind_of first_word after_word trim_start
any_reads = refl

offsets_read : (kind : ℕ → ℕ → PlaceKind) (a b : ℕ) → (a < 2 ^ 64) × (b < 2 ^ 64) → is_kind (kind a b) ≡ true → offsets_of kind (bounds_text a b) ≡ Ok (kind a b)
offsets_read kind a b h o = bounds_read unsigned_64 kind (decimal a) (decimal b) a b (decimal_word a h.0) (decimal_word b h.1) (unsigned_reads a h.0) (unsigned_reads b h.1) o

bounds_start : (a b : ℕ) → a < 2 ^ 64 → is_blank (slice_index (bounds_text a b) 0) ≡ false
bounds_start a b h = word_start (decimal a) (32 ∷ decimal b) (decimal_word a h)

kind_reads : (k : PlaceKind) → HasBits k → is_kind k ≡ true → kind_of (kind_text k) ≡ Ok k
kind_reads Unset h o = unset_reads
kind_reads Any h o = any_reads
kind_reads (Unsigned a b) h o =
    named (decimal a) (decimal b) (decimal_word a h.0).blank (word_begins (decimal b) (decimal_word b h.1))
    ∙ rw (other a h.0 117 (codes "nset") (lit< tt), other a h.0 97 (codes "ny") (lit< tt), other a h.0 115 (codes "igned") (lit< tt), other a h.0 105 (codes "n") (lit< tt), other a h.0 111 (codes "ut") (lit< tt), other a h.0 115 (codes "tack") (lit< tt)) (offsets_read Unsigned a b h o)
kind_reads (Signed a b) h o =
    let u = signed_word a h.0 in
    let v = signed_word b h.1 in
    named (codes "signed") (signed_decimal a ++ (32 ∷ signed_decimal b)) (free_of is_blank (codes "signed") refl) (word_start (signed_decimal a) (32 ∷ signed_decimal b) u)
    ∙ bounds_read signed_64 Signed (signed_decimal a) (signed_decimal b) a b u v (signed_reads a h.0) (signed_reads b h.1) o
kind_reads (Input a b) h o = named (codes "in") (bounds_text a b) (free_of is_blank (codes "in") refl) (bounds_start a b h.0) ∙ offsets_read Input a b h o
kind_reads (Output a b) h o = named (codes "out") (bounds_text a b) (free_of is_blank (codes "out") refl) (bounds_start a b h.0) ∙ offsets_read Output a b h o
kind_reads (Stack a b) h o = named (codes "stack") (bounds_text a b) (free_of is_blank (codes "stack") refl) (bounds_start a b h.0) ∙ offsets_read Stack a b h o

kind_start : (k : PlaceKind) → HasBits k → is_blank (slice_index (kind_text k) 0) ≡ false
kind_start Unset h = refl
kind_start Any h = refl
kind_start (Unsigned a b) h = bounds_start a b h.0
kind_start (Signed a b) h = refl
kind_start (Input a b) h = refl
kind_start (Output a b) h = refl
kind_start (Stack a b) h = refl

pair_cut : (x y : List ℕ) → IsWord x → IsWord y → Free is_cut (x ++ (32 ∷ y))
pair_cut x y u v = free_append is_cut x (32 ∷ y) u.cut (refl, v.cut)

bounds_cut : (a b : ℕ) → (a < 2 ^ 64) × (b < 2 ^ 64) → Free is_cut (bounds_text a b)
bounds_cut a b h = pair_cut (decimal a) (decimal b) (decimal_word a h.0) (decimal_word b h.1)

kind_cut : (k : PlaceKind) → HasBits k → Free is_cut (kind_text k)
kind_cut Unset h = free_of is_cut (codes "unset") refl
kind_cut Any h = free_of is_cut (codes "any") refl
kind_cut (Unsigned a b) h = bounds_cut a b h
kind_cut (Signed a b) h = free_append is_cut (codes "signed ") (signed_decimal a ++ (32 ∷ signed_decimal b)) (free_of is_cut (codes "signed ") refl) (pair_cut (signed_decimal a) (signed_decimal b) (signed_word a h.0) (signed_word b h.1))
kind_cut (Input a b) h = free_append is_cut (codes "in ") (bounds_text a b) (free_of is_cut (codes "in ") refl) (bounds_cut a b h)
kind_cut (Output a b) h = free_append is_cut (codes "out ") (bounds_text a b) (free_of is_cut (codes "out ") refl) (bounds_cut a b h)
kind_cut (Stack a b) h = free_append is_cut (codes "stack ") (bounds_text a b) (free_of is_cut (codes "stack ") refl) (bounds_cut a b h)

-- ---- names

name_by : (n : ℕ) (b : Bool) → nat_le n 9 ≡ b → n ≤ 74 → (n == 10) ≡ false → place_named (cond b (114 ∷ decimal n) (115 ∷ decimal (n - 11))) ≡ Some n
unfolding place_named
name_by n true e h ten = within_reads 9 n (omega arith) (grind (arith, nat_tests))
name_by n false e h ten =
    let above : 11 ≤ n = grind (arith, nat_tests) in
    let back : (n - 11) + 11 ≡ n = omega arith in
    ap (option_map (λ k. k + 11)) (within_reads 63 (n - 11) (omega arith) (omega arith)) ∙ ap (λ k. Some k) back

name_word_by : (n : ℕ) (b : Bool) → n ≤ 74 → IsWord (cond b (114 ∷ decimal n) (115 ∷ decimal (n - 11)))
name_word_by n true h = let d = decimal_word n (omega arith) in record { some = omega arith; blank = (refl, d.blank); cut = (refl, d.cut) }
name_word_by n false h = let d = decimal_word (n - 11) (omega arith) in record { some = omega arith; blank = (refl, d.blank); cut = (refl, d.cut) }

-- ---- places

-- what the tests of a place say
record Right (least : ℕ) (p : HeadPlace) : Type 0 where
  from : nat_le least p.number ≡ true
  most : p.number ≤ 74
  ten : (p.number == 10) ≡ false
  kind : is_kind p.kind ≡ true

not_ten : (b : Bool) → not b ≡ true → b ≡ false
not_ten true h = absurd cc
not_ten false h = refl

right : (least : ℕ) (p : HeadPlace) → (nat_le least p.number && is_place p) ≡ true → Right least p
right least p h =
    let a = and_parts (nat_le least p.number) (is_place p) h in
    let b = and_parts (nat_le p.number 74) (not (p.number == 10) && is_kind p.kind) a.1 in
    let c = and_parts (not (p.number == 10)) (is_kind p.kind) b.1 in
    let low = b.0 in
    record { from = a.0; most = grind (arith, nat_tests); ten = not_ten (p.number == 10) c.0; kind = c.1 }

name_word : (p : HeadPlace) → p.number ≤ 74 → IsWord (place_name p.number)
name_word p h = name_word_by p.number (nat_le p.number 9) h

place_reads : (least : ℕ) (p : HeadPlace) → Right least p → HasBits p.kind → place_of least (place_text p) ≡ Ok p
unfolding place_of
place_reads least p r h =
    let w = name_word p r.most in
    let name = place_name p.number in
    let kind = kind_text p.kind in
    rw (word_first name kind w.blank, word_rest name kind w.blank (kind_start p.kind h), name_by p.number (nat_le p.number 9) refl r.most r.ten, r.from, kind_reads p.kind h r.kind) refl

place_start : (p : HeadPlace) → p.number ≤ 74 → is_blank (slice_index (place_text p) 0) ≡ false
place_start p h = word_start (place_name p.number) (32 ∷ kind_text p.kind) (name_word p h)

place_cut : (p : HeadPlace) → p.number ≤ 74 → HasBits p.kind → Free is_cut (place_text p)
place_cut p h k = free_append is_cut (place_name p.number) (32 ∷ kind_text p.kind) (name_word p h).cut (refl, kind_cut p.kind k)

abbrev Bits : List HeadPlace → Type 0
Bits ps = AllByRecursion (λ p. HasBits p.kind) ps

abbrev spaced : HeadPlace → List ℕ
spaced p = 32 ∷ place_text p

more_read : (least : ℕ) (ps : List HeadPlace) → are_places least ps ≡ true → Bits ps → places_from least (map spaced ps) ≡ Ok ps
unfolding places_from
more_read least [] a b = refl
more_read least (p ∷ ps) a b =
    let c = and_parts (nat_le least p.number && is_place p) (are_places (p.number + 1) ps) a in
    let r = right least p c.0 in
    let start : trim_start (spaced p) ≡ place_text p = space_start (place_text p) ∙ solid_start (place_text p) (place_start p r.most) in
    rw (start, place_reads least p r b.0, more_read (p.number + 1) ps c.1 b.1) refl

split_places : (least : ℕ) (p : HeadPlace) (ps : List HeadPlace) → are_places least (p ∷ ps) ≡ true → Bits (p ∷ ps) → slice_split is_comma (places_text (p ∷ ps)) ≡ place_text p ∷ map spaced ps
split_places least p [] a b =
    let r = right least p (and_parts (nat_le least p.number && is_place p) true a).0 in
    ap (slice_split is_comma) (append-nil (place_text p)) ∙ one_piece (place_text p) (free_comma (place_text p) (place_cut p r.most b.0))
split_places least p (q ∷ qs) a b =
    let c = and_parts (nat_le least p.number && is_place p) (are_places (p.number + 1) (q ∷ qs)) a in
    let r = right least p c.0 in
    pieces_at (place_text p) (32 ∷ places_text (q ∷ qs)) (free_comma (place_text p) (place_cut p r.most b.0))
    ∙ ap (λ (ts : List (List ℕ)). place_text p ∷ onto_first 32 ts) (split_places (p.number + 1) q qs c.1 b.1)

-- a text that begins with a place
text_some : (xs ys : List ℕ) → 0 < length xs → is_blank (slice_index xs 0) ≡ false → ((length (xs ++ ys) == 0) ≡ false) × (is_blank (slice_index (xs ++ ys) 0) ≡ false)
text_some [] ys h s = absurd (omega arith)
text_some (x ∷ xs) ys h s = (grind (arith, nat_tests), s)

place_some : (p : HeadPlace) → p.number ≤ 74 → 0 < length (place_text p)
place_some p h = omega (arith, length-append (place_name p.number) (32 ∷ kind_text p.kind), (name_word p h).some)

-- ---- lines

none_read : places_of [] ≡ Ok []
unfolding places_of
none_read = refl

some_read : (p : HeadPlace) (ps : List HeadPlace) → ArePlaces (p ∷ ps) → places_of (places_text (p ∷ ps)) ≡ Ok (p ∷ ps)
unfolding places_of places_from
some_read p ps h =
    let c = and_parts (nat_le 0 p.number && is_place p) (are_places (p.number + 1) ps) h.places in
    let r = right 0 p c.0 in
    let s = place_start p r.most in
    rw ((text_some (place_text p) (more_text ps) (place_some p r.most) s).0, split_places 0 p ps h.places h.bits, solid_start (place_text p) s, place_reads 0 p r h.bits.0, more_read (p.number + 1) ps c.1 h.bits.1) refl

pub head_reads : (ps : List HeadPlace) → ArePlaces ps → (first_word (head_line ps) ≡ codes ".head") × (places_of (after_word (head_line ps)) ≡ Ok ps)
head_reads [] h =
    let f : Free is_blank (codes ".head") = free_of is_blank (codes ".head") refl in
    (last_first (codes ".head") f, ap places_of (last_rest (codes ".head") f) ∙ none_read)
head_reads (p ∷ ps) h =
    let f : Free is_blank (codes ".head") = free_of is_blank (codes ".head") refl in
    let r = right 0 p (and_parts (nat_le 0 p.number && is_place p) (are_places (p.number + 1) ps) h.places).0 in
    let s = (text_some (place_text p) (more_text ps) (place_some p r.most) (place_start p r.most)).1 in
    (word_first (codes ".head") (places_text (p ∷ ps)) f, ap places_of (word_rest (codes ".head") (places_text (p ∷ ps)) f s) ∙ some_read p ps h)

budget_alone : (n : ℕ) → 1 ≤ n → n ≤ BUDGET_LIMIT → budget_of (decimal n) ≡ Ok n
unfolding budget_of
budget_alone n some most =
    let w = decimal_word n (omega arith) in
    let test : (nat_le 1 n && nat_le n BUDGET_LIMIT) ≡ true = grind (arith, nat_tests) in
    rw (last_first (decimal n) w.blank, unsigned_reads n (omega arith), test, last_rest (decimal n) w.blank) refl

pub budget_reads : (n : ℕ) → 1 ≤ n → n ≤ BUDGET_LIMIT → (first_word (budget_line n) ≡ codes ".budget") × (budget_of (after_word (budget_line n)) ≡ Ok n)
budget_reads n some most =
    let f : Free is_blank (codes ".budget") = free_of is_blank (codes ".budget") refl in
    let w = decimal_word n (omega arith) in
    (word_first (codes ".budget") (decimal n) f, ap budget_of (word_rest (codes ".budget") (decimal n) f (word_begins (decimal n) w)) ∙ budget_alone n some most)

-- ---- contents

-- a text that a line ends with
record IsEnd (xs : List ℕ) : Type 0 where
  some : 0 < length xs
  ends : trim_end xs ≡ xs
  free : Free is_end xs

behind : (xs ys : List ℕ) → Free is_end xs → IsEnd ys → IsEnd (xs ++ ys)
behind xs ys f e =
    record { some = omega (arith, length-append xs ys, e.some); ends = ends_behind xs ys e.some e.ends; free = free_append is_end xs ys f e.free }

word_end : (w : List ℕ) → IsWord w → IsEnd w
word_end w h = record { some = h.some; ends = free_ends w h.blank; free = free_end w h.cut }

lone_end : (w : List ℕ) → 0 < length w → list_all (λ c. not (is_blank c)) w ≡ true → list_all (λ c. not (is_end c)) w ≡ true → IsEnd w
lone_end w h b e = record { some = h; ends = free_ends w (free_of is_blank w b); free = free_of is_end w e }

pair_end : (x y : List ℕ) → IsWord x → IsWord y → IsEnd (x ++ (32 ∷ y))
pair_end x y u v = behind x (32 ∷ y) (free_end x u.cut) (behind (codes " ") y (free_of is_end (codes " ") refl) (word_end y v))

bounds_end : (a b : ℕ) → (a < 2 ^ 64) × (b < 2 ^ 64) → IsEnd (bounds_text a b)
bounds_end a b h = pair_end (decimal a) (decimal b) (decimal_word a h.0) (decimal_word b h.1)

kind_end : (k : PlaceKind) → HasBits k → IsEnd (kind_text k)
kind_end Unset h = lone_end (codes "unset") (omega arith) refl refl
kind_end Any h = lone_end (codes "any") (omega arith) refl refl
kind_end (Unsigned a b) h = bounds_end a b h
kind_end (Signed a b) h = behind (codes "signed ") (signed_decimal a ++ (32 ∷ signed_decimal b)) (free_of is_end (codes "signed ") refl) (pair_end (signed_decimal a) (signed_decimal b) (signed_word a h.0) (signed_word b h.1))
kind_end (Input a b) h = behind (codes "in ") (bounds_text a b) (free_of is_end (codes "in ") refl) (bounds_end a b h)
kind_end (Output a b) h = behind (codes "out ") (bounds_text a b) (free_of is_end (codes "out ") refl) (bounds_end a b h)
kind_end (Stack a b) h = behind (codes "stack ") (bounds_text a b) (free_of is_end (codes "stack ") refl) (bounds_end a b h)

place_end : (p : HeadPlace) → p.number ≤ 74 → HasBits p.kind → IsEnd (place_text p)
place_end p h k =
    behind (place_name p.number) (32 ∷ kind_text p.kind) (free_end (place_name p.number) (name_word p h).cut) (behind (codes " ") (kind_text p.kind) (free_of is_end (codes " ") refl) (kind_end p.kind k))

places_end : (least : ℕ) (p : HeadPlace) (ps : List HeadPlace) → are_places least (p ∷ ps) ≡ true → Bits (p ∷ ps) → IsEnd (places_text (p ∷ ps))
places_end least p [] a b =
    let r = right least p (and_parts (nat_le least p.number && is_place p) true a).0 in
    subst IsEnd (sym (append-nil (place_text p))) (place_end p r.most b.0)
places_end least p (q ∷ qs) a b =
    let c = and_parts (nat_le least p.number && is_place p) (are_places (p.number + 1) (q ∷ qs)) a in
    let r = right least p c.0 in
    behind (place_text p) (codes ", " ++ places_text (q ∷ qs)) (place_end p r.most b.0).free (behind (codes ", ") (places_text (q ∷ qs)) (free_of is_end (codes ", ") refl) (places_end (p.number + 1) q qs c.1 b.1))

-- a line that is its own content, and has no line feed
abbrev IsLine : List ℕ → Type 0
IsLine line = (content line ≡ line) × (list_all (λ c. not (c == 10)) line ≡ true)

is_line : (line : List ℕ) → IsEnd line → is_blank (slice_index line 0) ≡ false → IsLine line
is_line line e s = (same_content line e.free s e.ends, no_feed line e.free)

pub head_content : (ps : List HeadPlace) → ArePlaces ps → IsLine (head_line ps)
head_content [] h = is_line (codes ".head") (lone_end (codes ".head") (omega arith) refl refl) refl
head_content (p ∷ ps) h =
    is_line (head_line (p ∷ ps)) (behind (codes ".head ") (places_text (p ∷ ps)) (free_of is_end (codes ".head ") refl) (places_end 0 p ps h.places h.bits)) refl

pub budget_content : (n : ℕ) → n ≤ BUDGET_LIMIT → IsLine (budget_line n)
budget_content n most =
    is_line (budget_line n) (behind (codes ".budget ") (decimal n) (free_of is_end (codes ".budget ") refl) (word_end (decimal n) (decimal_word n (omega arith)))) refl

-- two lists have two lines
same : (ps qs : List HeadPlace) (r : Result (List HeadPlace) AsmFault) → r ≡ Ok ps → r ≡ Ok qs → ps ≡ qs
same ps qs r g h = let e : Ok ps ≡ Ok qs = sym g ∙ h in cc

pub one_line : (ps qs : List HeadPlace) → ArePlaces ps → ArePlaces qs → head_line ps ≡ head_line qs → ps ≡ qs
one_line ps qs g h e =
    same ps qs (places_of (after_word (head_line ps))) (head_reads ps g).1 (ap (λ t. places_of (after_word t)) e ∙ (head_reads qs h).1)
