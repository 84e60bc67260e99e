-- Numbers, bytes, texts, and values after their count, are read exactly.
use Rattle.std.proofs.Common.{◌≡◌, ◌∙◌, ℕ, zero, suc, ◌+◌, ◌*◌, ◌^◌, ◌<◌, ◌≤◌, Bool, true, List, [], ◌∷◌, ◌++◌, Option, Some, refl, ap, sym, subst, arith, length, append_assoc, take, drop, length-append, get_or}
use Rattle.std.specs.Prelude.{nat_le}
use Rattle.std.specs.Int.{byte_at, bytes_low_first}
use Rattle.std.specs.List.{flat_map}
use Rattle.std.proofs.lemmas.Bool.{le-leb, leb-true}
use Rattle.std.proofs.lemmas.List.{take-append-drop, length-take-le, take_at, drop_at, append-nil}
use Rattle.byteorder.specs.Endian.{little_bytes, little_number, little_from}
use Rattle.byteorder.specs.Numbers.{little_from-cons, little_from-take, little_from-lt, little_number-reads_back, length-bytes_low_first}
use Rattle.object_store.specs.Object.{AreBytes}
use Rattle.part_bytes.specs.Part.{AreInTurn, text_bytes, pair_bytes}
use Rattle.part_bytes.specs.inner.Reading.{◌>>=◌, Reading, checked, number_at, bytes_at, count_at, counted, in_turn, text_at, pair_at}
use Rattle.part_bytes.proofs.Exact.{IsExact, joined, came, was_checked, are_behind, passes, follows, turns}

-- ---- numbers
are_before : (xs ys : List ℕ) → AreBytes (xs ++ ys) → AreBytes xs
are_before [] ys h = tt
are_before (x ∷ xs) ys h = (h.0, are_before xs ys h.1)

each_is : (xs : List ℕ) → AreBytes xs → (k : ℕ) → get_or xs k 0 < 256
each_is [] h k = omega arith
each_is (x ∷ xs) h zero = h.0
each_is (x ∷ xs) h (suc k) = each_is xs h.1 k

byte_small : (i x : ℕ) → byte_at i x < 256
byte_small zero x = omega arith
byte_small (suc i) x = omega arith

are_little : (i k x : ℕ) → AreBytes (bytes_low_first i k x)
are_little i zero x = tt
are_little i (suc k) x = (byte_small i x, are_little (suc i) k x)

-- equal numbers have equal bytes
same_bytes : (n : ℕ) (xs ys : List ℕ) → length xs ≡ n → length ys ≡ n → AreBytes xs → AreBytes ys → little_from 0 n xs ≡ little_from 0 n ys → xs ≡ ys
same_bytes n [] [] g h a b e = refl
same_bytes n [] (y ∷ ys) g h a b e = absurd (omega arith)
same_bytes n (x ∷ xs) [] g h a b e = absurd (omega arith)
same_bytes zero (x ∷ xs) (y ∷ ys) g h a b e = absurd (omega arith)
same_bytes (suc n) (x ∷ xs) (y ∷ ys) g h a b e =
    let u = little_from 1 n (x ∷ xs) in
    let v = little_from 1 n (y ∷ ys) in
    let all : x + 256 * u ≡ y + 256 * v = e in
    let first : x ≡ y = omega (arith, all, a.0, b.0) in
    let more : u ≡ v = omega (arith, all, a.0, b.0) in
    let tails : xs ≡ ys = same_bytes n xs ys (omega arith) (omega arith) a.1 b.1 (sym (little_from-cons 0 n x xs) ∙ more ∙ little_from-cons 0 n y ys) in
    λ i. first i ∷ tails i

pub number_exact : (k : ℕ) → IsExact (number_at k) (little_bytes k) (λ n. n < 256 ^ k)
number_exact k = record {
  again = λ n rest h.
      let bytes = little_bytes k n ++ rest in
      let long : nat_le k (length bytes) ≡ true = le-leb k (length bytes) (omega (arith, length-append (little_bytes k n) rest, length-bytes_low_first 0 k n)) in
      ap (λ (b : Bool). checked b (little_number k bytes, drop k bytes)) long
      ∙ ap (λ (m : ℕ). Some (m, drop k bytes)) (little_number-reads_back k n rest h)
      ∙ ap (λ (l : List ℕ). Some (n, l)) (drop_at (little_bytes k n) rest k (length-bytes_low_first 0 k n));
  exact = λ bytes n rest are r.
      let c = was_checked (nat_le k (length bytes)) (little_number k bytes, drop k bytes) (n, rest) r in
      let long : k ≤ length bytes = leb-true k (length bytes) c.0 in
      let is_n : little_number k bytes ≡ n = ap (λ (p : ℕ × List ℕ). p.0) c.1 in
      let is_rest : drop k bytes ≡ rest = ap (λ (p : ℕ × List ℕ). p.1) c.1 in
      let small : n < 256 ^ k = subst (λ (m : ℕ). m < 256 ^ k) is_n (little_from-lt 0 k bytes (each_is bytes are)) in
      let cut = take-append-drop k bytes in
      let front : AreBytes (take k bytes) = are_before (take k bytes) (drop k bytes) (subst AreBytes (sym cut) are) in
      let spelled : little_from 0 k (little_bytes k n) ≡ n = sym (ap (little_from 0 k) (append-nil (little_bytes k n))) ∙ little_number-reads_back k n [] small in
      let same : take k bytes ≡ little_bytes k n = same_bytes k (take k bytes) (little_bytes k n) (length-take-le k bytes long) (length-bytes_low_first 0 k n) front (are_little 0 k n) (little_from-take 0 k k bytes (omega arith) ∙ is_n ∙ sym spelled) in
      (sym cut ∙ ap (λ (l : List ℕ). l ++ drop k bytes) same ∙ ap (λ (l : List ℕ). little_bytes k n ++ l) is_rest, small);
}

-- ---- bytes
pub bytes_exact : (n : ℕ) → IsExact (bytes_at n) (λ x. x) (λ x. length x ≡ n)
bytes_exact n = record {
  again = λ x rest h.
      let long : nat_le n (length (x ++ rest)) ≡ true = le-leb n (length (x ++ rest)) (omega (arith, length-append x rest, h)) in
      ap (λ (b : Bool). checked b (take n (x ++ rest), drop n (x ++ rest))) long
      ∙ ap (λ (l : List ℕ). Some (l, drop n (x ++ rest))) (take_at x rest n h)
      ∙ ap (λ (l : List ℕ). Some (x, l)) (drop_at x rest n h);
  exact = λ bytes x rest are r.
      let c = was_checked (nat_le n (length bytes)) (take n bytes, drop n bytes) (x, rest) r in
      let is_x : take n bytes ≡ x = ap (λ (p : List ℕ × List ℕ). p.0) c.1 in
      let is_rest : drop n bytes ≡ rest = ap (λ (p : List ℕ × List ℕ). p.1) c.1 in (
        sym (take-append-drop n bytes) ∙ ap (λ (l : List ℕ). l ++ drop n bytes) is_x ∙ ap (λ (l : List ℕ). x ++ l) is_rest,
        sym (ap length is_x) ∙ length-take-le n bytes (leb-true n (length bytes) c.0),
      );
}

-- ---- values after their count, which is that of the value
module _ {X : Type 0} (k most : ℕ) (read : ℕ → Reading X) (size : X → ℕ) (spell : X → List ℕ) (Is : X → Type 0) (fits : most < 256 ^ k) (e : (n : ℕ) → IsExact (read n) spell (λ x. (size x ≡ n) × Is x)) where
  pub counted_exact : IsExact (λ bytes. count_at k most bytes >>= λ n. read n.0 n.1) (λ x. little_bytes k (size x) ++ spell x) (λ x. (size x ≤ most) × Is x)
  counted_exact =
      let count : IsExact (count_at k most) (little_bytes k) (λ n. (n < 256 ^ k) × (nat_le n most ≡ true)) = passes (number_at k) (little_bytes k) (λ n. n < 256 ^ k) (λ n. nat_le n most) (number_exact k) in
      record {
        again = λ x rest h.
            ap (λ (bytes : List ℕ). count_at k most bytes >>= λ n. read n.0 n.1) (append_assoc (little_bytes k (size x)) (spell x) rest)
            ∙ ap (λ (r : Option (ℕ × List ℕ)). r >>= λ n. read n.0 n.1) (count.again (size x) (spell x ++ rest) (omega (arith, h.0, fits), le-leb (size x) most h.0))
            ∙ (e (size x)).again x rest (refl, h.1);
        exact = λ bytes x rest are r.
            let n = came (count_at k most bytes) (λ n. read n.0 n.1) (x, rest) r in
            let a = count.exact bytes n.0.0 n.0.1 are n.1 in
            let b = (e n.0.0).exact n.0.1 x rest (are_behind (little_bytes k n.0.0) n.0.1 (subst AreBytes a.0 are)) n.2 in
            let few : n.0.0 ≤ most = leb-true n.0.0 most a.1.1 in (
              joined bytes (little_bytes k n.0.0) n.0.1 (spell x) rest a.0 b.0 ∙ ap (λ (m : ℕ). (little_bytes k m ++ spell x) ++ rest) (sym b.1.0),
              (omega (arith, few, b.1.0), b.1.1),
            );
      }

-- a list after its count
pub list_exact : {S X : Type 0} (k most : ℕ) (read : S → Reading X) (next : X → S) (s : S) (spell : X → List ℕ) (Is : S → X → Type 0) → most < 256 ^ k → ((s : S) → IsExact (read s) spell (Is s))
    → IsExact (counted k most read next s) (λ xs. little_bytes k (length xs) ++ flat_map spell xs) (λ xs. (length xs ≤ most) × AreInTurn Is next s xs)
list_exact k most read next s spell Is fits e = counted_exact k most (in_turn read next s) length (flat_map spell) (AreInTurn Is next s) fits (λ n. turns read next spell Is e n s)

-- a text after its length
abbrev pub IsText : List ℕ → Type 0
IsText text = length text < 65536

pub text_exact : IsExact text_at text_bytes IsText
unfolding text_at
text_exact =
    let plain = number_exact 2 in
    record {
      again = λ x rest h.
          ap (λ (bytes : List ℕ). number_at 2 bytes >>= λ n. bytes_at n.0 n.1) (append_assoc (little_bytes 2 (length x)) x rest)
          ∙ ap (λ (r : Option (ℕ × List ℕ)). r >>= λ n. bytes_at n.0 n.1) (plain.again (length x) (x ++ rest) h)
          ∙ (bytes_exact (length x)).again x rest refl;
      exact = λ bytes x rest are r.
          let n = came (number_at 2 bytes) (λ n. bytes_at n.0 n.1) (x, rest) r in
          let a = plain.exact bytes n.0.0 n.0.1 are n.1 in
          let b = (bytes_exact n.0.0).exact n.0.1 x rest (are_behind (little_bytes 2 n.0.0) n.0.1 (subst AreBytes a.0 are)) n.2 in
          let small : n.0.0 < 65536 = a.1 in (
            joined bytes (little_bytes 2 n.0.0) n.0.1 x rest a.0 b.0 ∙ ap (λ (m : ℕ). (little_bytes 2 m ++ x) ++ rest) (sym b.1),
            omega (arith, small, b.1),
          );
    }

-- two texts
pub pair_exact : IsExact pair_at pair_bytes (λ p. IsText p.0 × IsText p.1)
pair_exact = follows text_at text_bytes IsText (λ _. text_at) (λ _. text_bytes) (λ _. IsText) text_exact (λ _ _. text_exact)
