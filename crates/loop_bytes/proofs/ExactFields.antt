-- The fields of loops are read exactly.
use Rattle.std.proofs.Common.{Fits, ◌≡◌, ◌∙◌, ℕ, zero, suc, ◌+◌, ◌*◌, ◌^◌, ◌<◌, ◌≤◌, Bool, true, false, List, [], ◌∷◌, ◌++◌, Result, Ok, refl, ap, sym, subst, arith, length, append_assoc, take, drop, length-append, get_or}
use Rattle.std.specs.Prelude.{FitsSigned, nat_le, not, ◌==◌, ◌&&◌}
use Rattle.std.specs.Int.{w64, byte_at, bytes_low_first, cast_signed, cast_unsigned}
use Rattle.std.proofs.Math.Facts.{Fits-of_z, sfits_to_z}
use Rattle.std.proofs.lemmas.Int.{to_z-of_z, of_z-to_z}
use Rattle.std.proofs.lemmas.Bool.{le-leb, leb-true, and_parts, and_from}
use Rattle.std.proofs.lemmas.List.{take-append-drop, length-take-le, drop_at, append-nil}
use Rattle.byteorder.specs.Endian.{little_bytes, little_number, little_from}
use Rattle.byteorder.specs.Numbers.{little_from-cons, little_from-take, little_from-lt, little_number-reads_back, length-bytes_low_first}
use Rattle.loop_heads.specs.declared.place.PlaceKind.{PlaceKind}
use Rattle.loop_heads.specs.declared.place.PlaceKind.TheVariants.{Unset, Any, Unsigned, Signed, Input, Output, Stack}
use Rattle.loop_heads.specs.declared.place.HeadPlace.{HeadPlace}
use Rattle.loop_heads.specs.declared.limits.TheConstants.{HEAD_LIMIT, BUDGET_LIMIT, PLACE_LIMIT}
use Rattle.loop_heads.specs.Loops.{is_kind, is_place}
use Rattle.loop_bytes.specs.declared.heads_error.HeadsError.{HeadsError}
use Rattle.loop_bytes.specs.declared.heads_error.HeadsError.TheVariants.{Truncated, Limit, Head}
use Rattle.loop_bytes.specs.HeadBytes.{kind_number, pair_bytes, bounds_bytes, place_bytes, KindFits}
use Rattle.loop_bytes.specs.Reading.{◌>>=◌, checked, number_from, count_from, budget_from, slot_from, bounded_kind, bounds_from, kind_from, is_numbered, place_from}
use Rattle.loop_bytes.proofs.Exact.{IsExact, came, was_checked, done, moved, AreBytes, each_is, are_before, are_left, joined, passes}

-- ---- numbers
byte_small : (i x : ℕ) → byte_at i x < 256
byte_small zero x = omega arith
byte_small (suc i) x = omega arith

are_little : (i k x : ℕ) → AreBytes (bytes_low_first i k x)
are_little i zero x = tt
are_little i (suc k) x = (byte_small i x, are_little (suc i) k x)

-- equal numbers have equal bytes
same_bytes : (n : ℕ) (xs ys : List ℕ) → length xs ≡ n → length ys ≡ n → AreBytes xs → AreBytes ys → little_from 0 n xs ≡ little_from 0 n ys → xs ≡ ys
same_bytes n [] [] g h a b e = refl
same_bytes n [] (y ∷ ys) g h a b e = absurd (omega arith)
same_bytes n (x ∷ xs) [] g h a b e = absurd (omega arith)
same_bytes zero (x ∷ xs) (y ∷ ys) g h a b e = absurd (omega arith)
same_bytes (suc n) (x ∷ xs) (y ∷ ys) g h a b e =
    let u = little_from 1 n (x ∷ xs) in
    let v = little_from 1 n (y ∷ ys) in
    let all : x + 256 * u ≡ y + 256 * v = e in
    let first : x ≡ y = omega (arith, all, a.0, b.0) in
    let more : u ≡ v = omega (arith, all, a.0, b.0) in
    let tails : xs ≡ ys = same_bytes n xs ys (omega arith) (omega arith) a.1 b.1 (sym (little_from-cons 0 n x xs) ∙ more ∙ little_from-cons 0 n y ys) in
    λ i. first i ∷ tails i

pub number_exact : (k : ℕ) → IsExact (number_from k) (little_bytes k) (λ n. n < 256 ^ k)
number_exact k = record {
  again = λ n rest h.
      let bytes = little_bytes k n ++ rest in
      let long : nat_le k (length bytes) ≡ true = le-leb k (length bytes) (omega (arith, length-append (little_bytes k n) rest, length-bytes_low_first 0 k n)) in
      ap (λ (b : Bool). checked b Truncated (little_number k bytes, drop k bytes)) long
      ∙ ap (λ (m : ℕ). done (m, drop k bytes)) (little_number-reads_back k n rest h)
      ∙ ap (λ (l : List ℕ). done (n, l)) (drop_at (little_bytes k n) rest k (length-bytes_low_first 0 k n));
  exact = λ bytes n rest are r.
      let c = was_checked (nat_le k (length bytes)) Truncated (little_number k bytes, drop k bytes) (n, rest) r in
      let long : k ≤ length bytes = leb-true k (length bytes) c.0 in
      let is_n : little_number k bytes ≡ n = ap (λ (p : ℕ × List ℕ). p.0) c.1 in
      let is_rest : drop k bytes ≡ rest = ap (λ (p : ℕ × List ℕ). p.1) c.1 in
      let small : n < 256 ^ k = subst (λ (m : ℕ). m < 256 ^ k) is_n (little_from-lt 0 k bytes (each_is bytes are)) in
      let cut = take-append-drop k bytes in
      let front : AreBytes (take k bytes) = are_before (take k bytes) (drop k bytes) (subst AreBytes (sym cut) are) in
      let spelled : little_from 0 k (little_bytes k n) ≡ n = sym (ap (little_from 0 k) (append-nil (little_bytes k n))) ∙ little_number-reads_back k n [] small in
      let same : take k bytes ≡ little_bytes k n = same_bytes k (take k bytes) (little_bytes k n) (length-take-le k bytes long) (length-bytes_low_first 0 k n) front (are_little 0 k n) (little_from-take 0 k k bytes (omega arith) ∙ is_n ∙ sym spelled) in
      (sym cut ∙ ap (λ (l : List ℕ). l ++ drop k bytes) same ∙ ap (λ (l : List ℕ). little_bytes k n ++ l) is_rest, small);
}

pub count_exact : IsExact count_from (little_bytes 2) (λ n. (n < 256 ^ 2) × (nat_le n HEAD_LIMIT ≡ true))
unfolding count_from
count_exact = passes (number_from 2) (little_bytes 2) (λ n. n < 256 ^ 2) (λ n. nat_le n HEAD_LIMIT) (λ n. Limit) (number_exact 2)

abbrev pub is_budget : ℕ → Bool
is_budget n = nat_le 1 n && nat_le n BUDGET_LIMIT

pub budget_exact : IsExact budget_from (little_bytes 4) (λ n. (n < 256 ^ 4) × (is_budget n ≡ true))
unfolding budget_from
budget_exact = passes (number_from 4) (little_bytes 4) (λ n. n < 256 ^ 4) is_budget (λ n. Limit) (number_exact 4)

abbrev pub is_slot : List Bool → ℕ → ℕ → Bool
is_slot starts least n = nat_le least n && get_or starts n false

pub slot_exact : (starts : List Bool) (least : ℕ) → IsExact (slot_from starts least) (little_bytes 2) (λ n. (n < 256 ^ 2) × (is_slot starts least n ≡ true))
unfolding slot_from
slot_exact starts least = passes (number_from 2) (little_bytes 2) (λ n. n < 256 ^ 2) (is_slot starts least) Head (number_exact 2)

-- ---- bounds

abbrev Pair : Type 0
Pair = ℕ × List ℕ

bounds_again : (slot code a b : ℕ) (rest : List ℕ) → a < 2 ^ 64 → b < 2 ^ 64 → is_kind (bounded_kind code a b) ≡ true → bounds_from slot code (pair_bytes a b ++ rest) ≡ Ok (bounded_kind code a b, rest)
unfolding bounds_from
bounds_again slot code a b rest h k t =
    ap (bounds_from slot code) (append_assoc (little_bytes 8 a) (little_bytes 8 b) rest)
    ∙ ap (λ (r : Result Pair HeadsError). r >>= λ a. number_from 8 a.1 >>= λ b. checked (is_kind (bounded_kind code a.0 b.0)) (Head slot) (bounded_kind code a.0 b.0, b.1)) ((number_exact 8).again a (little_bytes 8 b ++ rest) h)
    ∙ ap (λ (r : Result Pair HeadsError). r >>= λ b. checked (is_kind (bounded_kind code a b.0)) (Head slot) (bounded_kind code a b.0, b.1)) ((number_exact 8).again b rest k)
    ∙ ap (λ (x : Bool). checked x (Head slot) (bounded_kind code a b, rest)) t

-- the two numbers that were read
record Bounds (code : ℕ) (bytes : List ℕ) (k : PlaceKind) (rest : List ℕ) : Type 0 where
  first : ℕ
  second : ℕ
  spelled : bytes ≡ pair_bytes first second ++ rest
  first_fits : first < 2 ^ 64
  second_fits : second < 2 ^ 64
  kind : bounded_kind code first second ≡ k
  ordered : is_kind k ≡ true

bounds_take : (slot code : ℕ) (bytes : List ℕ) (k : PlaceKind) (rest : List ℕ) → AreBytes bytes → bounds_from slot code bytes ≡ Ok (k, rest) → Bounds code bytes k rest
unfolding bounds_from
bounds_take slot code bytes k rest are e =
    let a = came (number_from 8 bytes) (λ a. number_from 8 a.1 >>= λ b. checked (is_kind (bounded_kind code a.0 b.0)) (Head slot) (bounded_kind code a.0 b.0, b.1)) (k, rest) e in
    let b = came (number_from 8 a.0.1) (λ b. checked (is_kind (bounded_kind code a.0.0 b.0)) (Head slot) (bounded_kind code a.0.0 b.0, b.1)) (k, rest) a.2 in
    let c = was_checked (is_kind (bounded_kind code a.0.0 b.0.0)) (Head slot) (bounded_kind code a.0.0 b.0.0, b.0.1) (k, rest) b.2 in
    let p = (number_exact 8).exact bytes a.0.0 a.0.1 are a.1 in
    let q = (number_exact 8).exact a.0.1 b.0.0 b.0.1 (are_left bytes (little_bytes 8 a.0.0) a.0.1 are p.0) b.1 in
    let kind : bounded_kind code a.0.0 b.0.0 ≡ k = ap (λ (x : PlaceKind × List ℕ). x.0) c.1 in
    let left : b.0.1 ≡ rest = ap (λ (x : PlaceKind × List ℕ). x.1) c.1 in
    record {
      first = a.0.0;
      second = b.0.0;
      spelled = joined bytes (little_bytes 8 a.0.0) a.0.1 (little_bytes 8 b.0.0) b.0.1 p.0 q.0 ∙ ap (λ (l : List ℕ). pair_bytes a.0.0 b.0.0 ++ l) left;
      first_fits = p.1;
      second_fits = q.1;
      kind = kind;
      ordered = sym (ap is_kind kind) ∙ c.0;
    }

-- ---- kinds

-- the bits of a signed number are read as it
pub signed_again : (slot : ℕ) (a b : _) (rest : List ℕ) → is_kind (Signed a b) ≡ true → FitsSigned w64 a → FitsSigned w64 b → bounds_from slot 3 (bounds_bytes (Signed a b) ++ rest) ≡ Ok (Signed a b, rest)
signed_again slot a b rest t f g =
    let same : bounded_kind 3 (cast_unsigned w64 a) (cast_unsigned w64 b) ≡ Signed a b =
    ap (λ x. Signed x (cast_signed w64 (cast_unsigned w64 b))) (to_z-of_z w64 a f) ∙ ap (λ x. Signed a x) (to_z-of_z w64 b g) in
    bounds_again slot 3 (cast_unsigned w64 a) (cast_unsigned w64 b) rest (omega (arith, Fits-of_z f)) (omega (arith, Fits-of_z g)) (ap is_kind same ∙ t) ∙ ap (λ (k : PlaceKind). done (k, rest)) same

pub kind_again : (slot : ℕ) (k : PlaceKind) (rest : List ℕ) → is_kind k ≡ true → KindFits k → kind_from slot (kind_number k) (bounds_bytes k ++ rest) ≡ Ok (k, rest)
unfolding kind_from
kind_again slot Unset rest t f = refl
kind_again slot Any rest t f = refl
kind_again slot (Unsigned a b) rest t f = bounds_again slot 2 a b rest f.0 f.1 t
kind_again slot (Signed a b) rest t f = signed_again slot a b rest t f.0 f.1
kind_again slot (Input a b) rest t f = bounds_again slot 4 a b rest f.0 f.1 t
kind_again slot (Output a b) rest t f = bounds_again slot 5 a b rest f.0 f.1 t
kind_again slot (Stack a b) rest t f = bounds_again slot 6 a b rest f.0 f.1 t

signed_fits : (n : ℕ) → n < 2 ^ 64 → FitsSigned w64 (cast_signed w64 n)
signed_fits n h = let fits : Fits w64 n = record { fits = h } in sfits_to_z fits

-- a kind that was read after its number
pub record Kind (code : ℕ) (bytes : List ℕ) (k : PlaceKind) (rest : List ℕ) : Type 0 where
  pub spelled : bytes ≡ bounds_bytes k ++ rest
  pub number : kind_number k ≡ code
  pub ordered : is_kind k ≡ true
  pub fits : KindFits k

abbrev KindTo : ℕ → List ℕ → List ℕ → PlaceKind → Type 0
KindTo code bytes rest k = is_kind k ≡ true → Kind code bytes k rest

bounded : (code : ℕ) (bytes : List ℕ) (k : PlaceKind) (rest : List ℕ) → (b : Bounds code bytes k rest) → KindTo code bytes rest (bounded_kind code b.first b.second) → Kind code bytes k rest
bounded code bytes k rest b h = subst (KindTo code bytes rest) b.kind h b.ordered

pub kind_take : (slot code : ℕ) (bytes : List ℕ) (k : PlaceKind) (rest : List ℕ) → AreBytes bytes → code ≤ 6 → kind_from slot code bytes ≡ Ok (k, rest) → Kind code bytes k rest
unfolding kind_from
kind_take slot zero bytes k rest are le e =
    let F : PlaceKind × List ℕ → Type 0 = λ q. Kind 0 bytes q.0 q.1 in
    moved F (Unset, bytes) (k, rest) e (record { spelled = refl; number = refl; ordered = refl; fits = tt })
kind_take slot (suc zero) bytes k rest are le e =
    let F : PlaceKind × List ℕ → Type 0 = λ q. Kind 1 bytes q.0 q.1 in
    moved F (Any, bytes) (k, rest) e (record { spelled = refl; number = refl; ordered = refl; fits = tt })
kind_take slot (suc (suc zero)) bytes k rest are le e =
    let b = bounds_take slot 2 bytes k rest are e in
    bounded 2 bytes k rest b (λ t. record { spelled = b.spelled; number = refl; ordered = t; fits = (b.first_fits, b.second_fits) })
kind_take slot (suc (suc (suc zero))) bytes k rest are le e =
    let b = bounds_take slot 3 bytes k rest are e in
    let first = of_z-to_z w64 b.first b.first_fits in
    let second = of_z-to_z w64 b.second b.second_fits in
    let bits : pair_bytes b.first b.second ≡ bounds_bytes (bounded_kind 3 b.first b.second) =
    ap (λ (x : ℕ). pair_bytes x b.second) (sym first) ∙ ap (λ (x : ℕ). pair_bytes (cast_unsigned w64 (cast_signed w64 b.first)) x) (sym second) in
    bounded 3 bytes k rest b (λ t. record { spelled = b.spelled ∙ ap (λ (l : List ℕ). l ++ rest) bits; number = refl; ordered = t; fits = (signed_fits b.first b.first_fits, signed_fits b.second b.second_fits) })
kind_take slot (suc (suc (suc (suc zero)))) bytes k rest are le e =
    let b = bounds_take slot 4 bytes k rest are e in
    bounded 4 bytes k rest b (λ t. record { spelled = b.spelled; number = refl; ordered = t; fits = (b.first_fits, b.second_fits) })
kind_take slot (suc (suc (suc (suc (suc zero))))) bytes k rest are le e =
    let b = bounds_take slot 5 bytes k rest are e in
    bounded 5 bytes k rest b (λ t. record { spelled = b.spelled; number = refl; ordered = t; fits = (b.first_fits, b.second_fits) })
kind_take slot (suc (suc (suc (suc (suc (suc zero)))))) bytes k rest are le e =
    let b = bounds_take slot 6 bytes k rest are e in
    bounded 6 bytes k rest b (λ t. record { spelled = b.spelled; number = refl; ordered = t; fits = (b.first_fits, b.second_fits) })
kind_take slot (suc (suc (suc (suc (suc (suc (suc n))))))) bytes k rest are le e = absurd (omega arith)

-- ---- places

kind_small : (k : PlaceKind) → nat_le (kind_number k) 6 ≡ true
kind_small Unset = refl
kind_small Any = refl
kind_small (Unsigned a b) = refl
kind_small (Signed a b) = refl
kind_small (Input a b) = refl
kind_small (Output a b) = refl
kind_small (Stack a b) = refl

-- a place that may follow those with lower numbers
abbrev pub IsPlaceFrom : ℕ → HeadPlace → Type 0
IsPlaceFrom least p = ((nat_le least p.number && is_place p) ≡ true) × KindFits p.kind

-- the tests before a kind and with it
four_from : (a b c d : Bool) → a ≡ true → b ≡ true → c ≡ true → d ≡ true → (a && (b && (c && d))) ≡ true
four_from a b c d h i j k = and_from a (b && (c && d)) h (and_from b (c && d) i (and_from c d j k))

four_parts : (a b c d : Bool) → (a && (b && (c && d))) ≡ true → (a ≡ true) × (b ≡ true) × (c ≡ true) × (d ≡ true)
four_parts a b c d e =
    let x = and_parts a (b && (c && d)) e in
    let y = and_parts b (c && d) x.1 in
    let z = and_parts c d y.1 in
    (x.0, y.0, z.0, z.1)

abbrev made : ℕ → PlaceKind → HeadPlace
made number kind = record { number = number; kind = kind }

-- the number and the kind's number of a place, with what follows them
abbrev after_number : ℕ → ℕ → ℕ × List ℕ → Result (HeadPlace × List ℕ) HeadsError
after_number slot least number = number_from 1 number.1 >>= λ code. checked (is_numbered least number.0 code.0) (Head slot) code >>= λ known. kind_from slot code.0 code.1 >>= λ kind. Ok (made number.0 kind.0, kind.1)

abbrev after_code : ℕ → ℕ → ℕ → ℕ × List ℕ → Result (HeadPlace × List ℕ) HeadsError
after_code slot least number code = checked (is_numbered least number code.0) (Head slot) code >>= λ known. kind_from slot code.0 code.1 >>= λ kind. Ok (made number kind.0, kind.1)

abbrev after_kind : ℕ → PlaceKind × List ℕ → Result (HeadPlace × List ℕ) HeadsError
after_kind number kind = Ok (made number kind.0, kind.1)

pub place_exact : (slot least : ℕ) → IsExact (place_from slot least) place_bytes (IsPlaceFrom least)
unfolding place_from
place_exact slot least = record {
  again = λ p rest h.
      let t = four_parts (nat_le least p.number) (nat_le p.number PLACE_LIMIT) (not (p.number == 10)) (is_kind p.kind) h.0 in
      let code = kind_number p.kind in
      let behind = bounds_bytes p.kind ++ rest in
      let numbered : is_numbered least p.number code ≡ true = four_from (nat_le least p.number) (nat_le p.number PLACE_LIMIT) (not (p.number == 10)) (nat_le code 6) t.0 t.1 t.2 (kind_small p.kind) in
      let small : p.number < 256 ^ 1 = omega (arith, leb-true p.number PLACE_LIMIT t.1) in
      let few : code < 256 ^ 1 = omega (arith, leb-true code 6 (kind_small p.kind)) in
      let second : ℕ × List ℕ = (code, behind) in
      ap (place_from slot least) (append_assoc (little_bytes 1 p.number) (little_bytes 1 code ++ bounds_bytes p.kind) rest ∙ ap (λ (l : List ℕ). little_bytes 1 p.number ++ l) (append_assoc (little_bytes 1 code) (bounds_bytes p.kind) rest))
      ∙ ap (λ (r : Result Pair HeadsError). r >>= after_number slot least) ((number_exact 1).again p.number (little_bytes 1 code ++ behind) small)
      ∙ ap (λ (r : Result Pair HeadsError). r >>= after_code slot least p.number) ((number_exact 1).again code behind few)
      ∙ ap (λ (b : Bool). checked b (Head slot) second >>= λ known. kind_from slot code behind >>= after_kind p.number) numbered
      ∙ ap (λ (r : Result (PlaceKind × List ℕ) HeadsError). r >>= after_kind p.number) (kind_again slot p.kind rest t.3 h.1);
  exact = λ bytes p rest are r.
      let n = came (number_from 1 bytes) (after_number slot least) (p, rest) r in
      let number = n.0.0 in
      let c = came (number_from 1 n.0.1) (after_code slot least number) (p, rest) n.2 in
      let code = c.0.0 in
      let k = came (checked (is_numbered least number code) (Head slot) c.0) (λ known. kind_from slot code c.0.1 >>= after_kind number) (p, rest) c.2 in
      let known = was_checked (is_numbered least number code) (Head slot) c.0 k.0 k.1 in
      let t = four_parts (nat_le least number) (nat_le number PLACE_LIMIT) (not (number == 10)) (nat_le code 6) known.0 in
      let l = came (kind_from slot code c.0.1) (after_kind number) (p, rest) k.2 in
      let first = (number_exact 1).exact bytes number n.0.1 are n.1 in
      let left = are_left bytes (little_bytes 1 number) n.0.1 are first.0 in
      let second = (number_exact 1).exact n.0.1 code c.0.1 left c.1 in
      let kind = kind_take slot code c.0.1 l.0.0 l.0.1 (are_left n.0.1 (little_bytes 1 code) c.0.1 left second.0) (leb-true code 6 t.3) l.1 in
      let behind : n.0.1 ≡ (little_bytes 1 (kind_number l.0.0) ++ bounds_bytes l.0.0) ++ l.0.1 =
      joined n.0.1 (little_bytes 1 code) c.0.1 (bounds_bytes l.0.0) l.0.1 second.0 kind.spelled ∙ ap (λ (x : ℕ). (little_bytes 1 x ++ bounds_bytes l.0.0) ++ l.0.1) (sym kind.number) in
      let spelled : bytes ≡ place_bytes (made number l.0.0) ++ l.0.1 =
      joined bytes (little_bytes 1 number) n.0.1 (little_bytes 1 (kind_number l.0.0) ++ bounds_bytes l.0.0) l.0.1 first.0 behind in
      let F : HeadPlace × List ℕ → Type 0 = λ q. (bytes ≡ place_bytes q.0 ++ q.1) × IsPlaceFrom least q.0 in
      moved F (made number l.0.0, l.0.1) (p, rest) l.2 (spelled, (four_from (nat_le least number) (nat_le number PLACE_LIMIT) (not (number == 10)) (is_kind l.0.0) t.0 t.1 t.2 kind.ordered, kind.fits));
}
