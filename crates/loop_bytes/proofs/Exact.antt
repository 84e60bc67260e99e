-- Readings that read exactly the spellings of what may be: what they are made of, and how each is kept.
use Rattle.std.proofs.Common.{◌≡◌, ◌∙◌, ℕ, zero, suc, ◌<◌, Bool, true, false, List, [], ◌∷◌, ◌++◌, Result, Ok, Err, refl, ap, sym, subst, arith, length, append_assoc, get_or}
use Rattle.std.specs.List.{flat_map}
use Rattle.loop_bytes.specs.declared.heads_error.HeadsError.{HeadsError}
use Rattle.loop_bytes.specs.Reading.{◌>>=◌, Reading, checked, in_turn}

-- ---- a step that did not fail
pub came : {A B : Type 0} (r : Result A HeadsError) (f : A → Result B HeadsError) (y : B) → (r >>= f) ≡ Ok y → (x : A) × (r ≡ Ok x) × (f x ≡ Ok y)
came (Ok x) f y e = (x, refl, e)
came (Err d) f y e = absurd cc

pub was_checked : {A : Type 0} (b : Bool) (d : HeadsError) (x y : A) → checked b d x ≡ Ok y → (b ≡ true) × (x ≡ y)
was_checked true d x y e = (refl, cc)
was_checked false d x y e = absurd cc

abbrev pub done : {A : Type 0} → A → Result A HeadsError
done x = Ok x

pub ok_is : {A : Type 0} (x y : A) → done x ≡ done y → x ≡ y
ok_is x y e = cc

-- what holds of what was read
pub moved : {A : Type 0} (F : A → Type 0) (x y : A) → done x ≡ done y → F x → F y
moved F x y e h = subst F (ok_is x y e) h

-- ---- bytes
abbrev pub AreBytes : List ℕ → Type 0
AreBytes [] = Unit {0}
AreBytes (b ∷ bs) = (b < 256) × AreBytes bs

pub are_bytes : (bytes : List ℕ) → ((i : ℕ) → get_or bytes i 0 < 256) → AreBytes bytes
are_bytes [] h = tt
are_bytes (b ∷ bs) h = (h 0, are_bytes bs (λ i. h (suc i)))

pub each_is : (xs : List ℕ) → AreBytes xs → (k : ℕ) → get_or xs k 0 < 256
each_is [] h k = omega arith
each_is (x ∷ xs) h zero = h.0
each_is (x ∷ xs) h (suc k) = each_is xs h.1 k

pub are_before : (xs ys : List ℕ) → AreBytes (xs ++ ys) → AreBytes xs
are_before [] ys h = tt
are_before (x ∷ xs) ys h = (h.0, are_before xs ys h.1)

pub are_behind : (xs ys : List ℕ) → AreBytes (xs ++ ys) → AreBytes ys
are_behind [] ys h = h
are_behind (x ∷ xs) ys h = are_behind xs ys h.1

-- what is left of bytes
pub are_left : (bytes xs ys : List ℕ) → AreBytes bytes → bytes ≡ xs ++ ys → AreBytes ys
are_left bytes xs ys h e = are_behind xs ys (subst AreBytes e h)

-- one after the other
pub joined : (bytes front more behind rest : List ℕ) → bytes ≡ front ++ more → more ≡ behind ++ rest → bytes ≡ (front ++ behind) ++ rest
joined bytes front more behind rest p q = p ∙ ap (λ (l : List ℕ). front ++ l) q ∙ sym (append_assoc front behind rest)

-- ---- exact readings

-- a spelling of what may be is read as it, and what is read is spelled so and may be
pub record IsExact {X : Type 0} (read : Reading X) (spell : X → List ℕ) (Is : X → Type 0) : Type 0 where
  pub again : (x : X) (rest : List ℕ) → Is x → read (spell x ++ rest) ≡ Ok (x, rest)
  pub exact : (bytes : List ℕ) (x : X) (rest : List ℕ) → AreBytes bytes → read bytes ≡ Ok (x, rest) → (bytes ≡ spell x ++ rest) × Is x

-- with a test
abbrev pub passing : {X : Type 0} → Reading X → (X → Bool) → (X → HeadsError) → Reading X
passing read test error bytes = read bytes >>= λ x. checked (test x.0) (error x.0) x

pub passes : {X : Type 0} (read : Reading X) (spell : X → List ℕ) (Is : X → Type 0) (test : X → Bool) (error : X → HeadsError) → IsExact read spell Is → IsExact (passing read test error) spell (λ x. Is x × (test x ≡ true))
passes {X} read spell Is test error e = record {
  again = λ x rest h. ap (λ (r : Result (X × List ℕ) HeadsError). r >>= λ y. checked (test y.0) (error y.0) y) (e.again x rest h.0) ∙ ap (λ (b : Bool). checked b (error x) (x, rest)) h.1;
  exact = λ bytes x rest are r.
      let y = came (read bytes) (λ y. checked (test y.0) (error y.0) y) (x, rest) r in
      let c = was_checked (test y.0.0) (error y.0.0) y.0 (x, rest) y.2 in
      let p = e.exact bytes x rest are (y.1 ∙ ap done c.1) in
      (p.0, (p.1, sym (ap (λ (z : X × List ℕ). test z.0) c.1) ∙ c.0));
}

-- each is what may follow the one before it
abbrev pub AreInTurn : {S X : Type 0} → (S → X → Type 0) → (X → S) → S → List X → Type 0
AreInTurn Is next s [] = Unit {0}
AreInTurn Is next s (x ∷ xs) = Is s x × AreInTurn Is next (next x) xs

-- values in turn
module _ {S X : Type 0} (read : S → Reading X) (next : X → S) (spell : X → List ℕ) (Is : S → X → Type 0) (e : (s : S) → IsExact (read s) spell (Is s)) where
  turns_again : (xs : List X) (s : S) (rest : List ℕ) → AreInTurn Is next s xs → in_turn read next s (length xs) (flat_map spell xs ++ rest) ≡ Ok (xs, rest)
  unfolding in_turn
  turns_again [] s rest h = refl
  turns_again (x ∷ xs) s rest h =
      ap (in_turn read next s (suc (length xs))) (append_assoc (spell x) (flat_map spell xs) rest)
      ∙ ap (λ (r : Result (X × List ℕ) HeadsError). r >>= λ y. in_turn read next (next y.0) (length xs) y.1 >>= λ ys. Ok (y.0 ∷ ys.0, ys.1)) ((e s).again x (flat_map spell xs ++ rest) h.0)
      ∙ ap (λ (r : Result (List X × List ℕ) HeadsError). r >>= λ ys. Ok (x ∷ ys.0, ys.1)) (turns_again xs (next x) rest h.1)

  -- n values, and how they are spelled
  pub record Turns (n : ℕ) (s : S) (bytes : List ℕ) (xs : List X) (rest : List ℕ) : Type 0 where
    pub spelled : bytes ≡ flat_map spell xs ++ rest
    pub count : length xs ≡ n
    pub are : AreInTurn Is next s xs

  turns_exact : (n : ℕ) (s : S) (bytes : List ℕ) (xs : List X) (rest : List ℕ) → AreBytes bytes → in_turn read next s n bytes ≡ Ok (xs, rest) → Turns n s bytes xs rest
  unfolding in_turn
  turns_exact zero s bytes xs rest are r =
      let F : List X × List ℕ → Type 0 = λ q. Turns zero s bytes q.0 q.1 in
      moved F ([], bytes) (xs, rest) r (record { spelled = refl; count = refl; are = tt })
  turns_exact (suc n) s bytes xs rest are r =
      let x = came (read s bytes) (λ x. in_turn read next (next x.0) n x.1 >>= λ ys. Ok (x.0 ∷ ys.0, ys.1)) (xs, rest) r in
      let ys = came (in_turn read next (next x.0.0) n x.0.1) (λ ys. Ok (x.0.0 ∷ ys.0, ys.1)) (xs, rest) x.2 in
      let a = (e s).exact bytes x.0.0 x.0.1 are x.1 in
      let b = turns_exact n (next x.0.0) x.0.1 ys.0.0 ys.0.1 (are_left bytes (spell x.0.0) x.0.1 are a.0) ys.1 in
      let F : List X × List ℕ → Type 0 = λ q. Turns (suc n) s bytes q.0 q.1 in
      moved F (x.0.0 ∷ ys.0.0, ys.0.1) (xs, rest) ys.2 (record {
        spelled = joined bytes (spell x.0.0) x.0.1 (flat_map spell ys.0.0) ys.0.1 a.0 b.spelled;
        count = ap suc b.count;
        are = (a.1, b.are);
      })

  pub turns : (n : ℕ) (s : S) → IsExact (in_turn read next s n) (flat_map spell) (λ xs. (length xs ≡ n) × AreInTurn Is next s xs)
  turns n s = record {
    again = λ xs rest h. ap (λ (k : ℕ). in_turn read next s k (flat_map spell xs ++ rest)) (sym h.0) ∙ turns_again xs s rest h.1;
    exact = λ bytes xs rest are r. let t = turns_exact n s bytes xs rest are r in (t.spelled, (t.count, t.are));
  }
