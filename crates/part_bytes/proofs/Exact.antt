-- Readings that read exactly the spellings of what may be: what they are made of, and how each is kept.
use Rattle.std.proofs.Common.{◌≡◌, ◌∙◌, ℕ, zero, suc, Bool, true, false, List, [], ◌∷◌, ◌++◌, Option, Some, None, refl, ap, sym, subst, arith, length, append_assoc}
use Rattle.std.specs.Prelude.{◌==◌}
use Rattle.std.specs.List.{flat_map}
use Rattle.std.proofs.lemmas.List.{append-nil}
use Rattle.std.proofs.lemmas.Bool.{eqb-true}
use Rattle.object_store.specs.Object.{AreBytes}
use Rattle.part_bytes.specs.Part.{AreInTurn}
use Rattle.part_bytes.specs.inner.Reading.{◌>>=◌, Reading, checked, passing, followed, formed, in_turn, whole}

-- ---- a step that did not fail
pub came : {A B : Type 0} (r : Option A) (f : A → Option B) (y : B) → (r >>= f) ≡ Some y → (x : A) × (r ≡ Some x) × (f x ≡ Some y)
came None f y e = absurd cc
came (Some x) f y e = (x, refl, e)

pub was_checked : {A : Type 0} (b : Bool) (x y : A) → checked b x ≡ Some y → (b ≡ true) × (x ≡ y)
was_checked true x y e = (refl, cc)
was_checked false x y e = absurd cc

pub some_is : {A : Type 0} (x y : A) → ◌≡◌ {A = Option A} (Some x) (Some y) → x ≡ y
some_is x y e = cc

-- what holds of what was read
moved : {A : Type 0} (F : A → Type 0) (x y : A) → ◌≡◌ {A = Option A} (Some x) (Some y) → F x → F y
moved F x y e h = subst F (some_is x y e) h

pub are_behind : (xs ys : List ℕ) → AreBytes (xs ++ ys) → AreBytes ys
are_behind [] ys h = h
are_behind (x ∷ xs) ys h = are_behind xs ys h.1

-- one after the other
pub joined : (bytes front more behind rest : List ℕ) → bytes ≡ front ++ more → more ≡ behind ++ rest → bytes ≡ (front ++ behind) ++ rest
joined bytes front more behind rest p q = p ∙ ap (λ (l : List ℕ). front ++ l) q ∙ sym (append_assoc front behind rest)

-- ---- exact readings

-- a spelling of what may be is read as it, and what is read is spelled so and may be
pub record IsExact {X : Type 0} (read : Reading X) (spell : X → List ℕ) (Is : X → Type 0) : Type 0 where
  pub again : (x : X) (rest : List ℕ) → Is x → read (spell x ++ rest) ≡ Some (x, rest)
  pub exact : (bytes : List ℕ) (x : X) (rest : List ℕ) → AreBytes bytes → read bytes ≡ Some (x, rest) → (bytes ≡ spell x ++ rest) × Is x

-- in other words
pub restated : {X : Type 0} (read : Reading X) (spell : X → List ℕ) (Is Has : X → Type 0) → IsExact read spell Is → ((x : X) → Is x → Has x) → ((x : X) → Has x → Is x) → IsExact read spell Has
restated read spell Is Has e to from = record {
  again = λ x rest h. e.again x rest (from x h);
  exact = λ bytes x rest are r. let p = e.exact bytes x rest are r in (p.0, to x p.1);
}

-- with a test
pub passes : {X : Type 0} (read : Reading X) (spell : X → List ℕ) (Is : X → Type 0) (test : X → Bool) → IsExact read spell Is → IsExact (passing read test) spell (λ x. Is x × (test x ≡ true))
passes {X} read spell Is test e = record {
  again = λ x rest h. ap (λ (r : Option (X × List ℕ)). r >>= λ y. checked (test y.0) y) (e.again x rest h.0) ∙ ap (λ (b : Bool). checked b (x, rest)) h.1;
  exact = λ bytes x rest are r.
      let y = came (read bytes) (λ y. checked (test y.0) y) (x, rest) r in
      let c = was_checked (test y.0.0) y.0 (x, rest) y.2 in
      let p = e.exact bytes x rest are (y.1 ∙ ap Some c.1) in
      (p.0, (p.1, sym (ap (λ (z : X × List ℕ). test z.0) c.1) ∙ c.0));
}

-- one after the other
pub follows : {X Y : Type 0} (read : Reading X) (spell : X → List ℕ) (Is : X → Type 0) (more : X → Reading Y) (spells : X → Y → List ℕ) (Are : X → Y → Type 0)
    → IsExact read spell Is → ((x : X) → Is x → IsExact (more x) (spells x) (Are x)) → IsExact (followed read more) (λ p. spell p.0 ++ spells p.0 p.1) (λ p. Is p.0 × Are p.0 p.1)
follows {X} {Y} read spell Is more spells Are e f = record {
  again = λ p rest h.
      ap (followed read more) (append_assoc (spell p.0) (spells p.0 p.1) rest)
      ∙ ap (λ (r : Option (X × List ℕ)). r >>= λ x. more x.0 x.1 >>= λ y. Some ((x.0, y.0), y.1)) (e.again p.0 (spells p.0 p.1 ++ rest) h.0)
      ∙ ap (λ (r : Option (Y × List ℕ)). r >>= λ y. Some ((p.0, y.0), y.1)) ((f p.0 h.0).again p.1 rest h.1);
  exact = λ bytes p rest are r.
      let x = came (read bytes) (λ x. more x.0 x.1 >>= λ y. Some ((x.0, y.0), y.1)) (p, rest) r in
      let y = came (more x.0.0 x.0.1) (λ y. Some ((x.0.0, y.0), y.1)) (p, rest) x.2 in
      let a = e.exact bytes x.0.0 x.0.1 are x.1 in
      let b = (f x.0.0 a.1).exact x.0.1 y.0.0 y.0.1 (are_behind (spell x.0.0) x.0.1 (subst AreBytes a.0 are)) y.1 in
      let F : (X × Y) × List ℕ → Type 0 = λ q. (bytes ≡ (spell q.0.0 ++ spells q.0.0 q.0.1) ++ q.1) × (Is q.0.0 × Are q.0.0 q.0.1) in
      moved F ((x.0.0, y.0.0), y.0.1) (p, rest) y.2 (
        joined bytes (spell x.0.0) x.0.1 (spells x.0.0 y.0.0) y.0.1 a.0 b.0,
        (a.1, b.1),
      );
}

-- another form of what is read
pub forms : {X Y : Type 0} (read : Reading X) (spell : X → List ℕ) (Is : X → Type 0) (form : X → Y) (back : Y → X) → ((x : X) → back (form x) ≡ x) → ((y : Y) → form (back y) ≡ y)
    → IsExact read spell Is → IsExact (formed read form) (λ y. spell (back y)) (λ y. Is (back y))
forms {X} {Y} read spell Is form back there here e = record {
  again = λ y rest h. ap (λ (r : Option (X × List ℕ)). r >>= λ x. Some (form x.0, x.1)) (e.again (back y) rest h) ∙ ap (λ (z : Y). Some (z, rest)) (here y);
  exact = λ bytes y rest are r.
      let x = came (read bytes) (λ x. Some (form x.0, x.1)) (y, rest) r in
      let p = e.exact bytes x.0.0 x.0.1 are x.1 in
      let F : Y × List ℕ → Type 0 = λ q. (bytes ≡ spell (back q.0) ++ q.1) × Is (back q.0) in
      let G : X → Type 0 = λ z. (bytes ≡ spell z ++ x.0.1) × Is z in
      moved F (form x.0.0, x.0.1) (y, rest) x.2 (subst G (sym (there x.0.0)) p);
}

-- values in turn
module _ {S X : Type 0} (read : S → Reading X) (next : X → S) (spell : X → List ℕ) (Is : S → X → Type 0) (e : (s : S) → IsExact (read s) spell (Is s)) where
  turns_again : (xs : List X) (s : S) (rest : List ℕ) → AreInTurn Is next s xs → in_turn read next s (length xs) (flat_map spell xs ++ rest) ≡ Some (xs, rest)
  unfolding in_turn
  turns_again [] s rest h = refl
  turns_again (x ∷ xs) s rest h =
      ap (in_turn read next s (suc (length xs))) (append_assoc (spell x) (flat_map spell xs) rest)
      ∙ ap (λ (r : Option (X × List ℕ)). r >>= λ y. in_turn read next (next y.0) (length xs) y.1 >>= λ ys. Some (y.0 ∷ ys.0, ys.1)) ((e s).again x (flat_map spell xs ++ rest) h.0)
      ∙ ap (λ (r : Option (List X × List ℕ)). r >>= λ ys. Some (x ∷ ys.0, ys.1)) (turns_again xs (next x) rest h.1)

  -- n values, and how they are spelled
  pub record Turns (n : ℕ) (s : S) (bytes : List ℕ) (xs : List X) (rest : List ℕ) : Type 0 where
    pub spelled : bytes ≡ flat_map spell xs ++ rest
    pub count : length xs ≡ n
    pub are : AreInTurn Is next s xs

  turns_exact : (n : ℕ) (s : S) (bytes : List ℕ) (xs : List X) (rest : List ℕ) → AreBytes bytes → in_turn read next s n bytes ≡ Some (xs, rest) → Turns n s bytes xs rest
  unfolding in_turn
  turns_exact zero s bytes xs rest are r =
      let F : List X × List ℕ → Type 0 = λ q. Turns zero s bytes q.0 q.1 in
      moved F ([], bytes) (xs, rest) r (record { spelled = refl; count = refl; are = tt })
  turns_exact (suc n) s bytes xs rest are r =
      let x = came (read s bytes) (λ x. in_turn read next (next x.0) n x.1 >>= λ ys. Some (x.0 ∷ ys.0, ys.1)) (xs, rest) r in
      let ys = came (in_turn read next (next x.0.0) n x.0.1) (λ ys. Some (x.0.0 ∷ ys.0, ys.1)) (xs, rest) x.2 in
      let a = (e s).exact bytes x.0.0 x.0.1 are x.1 in
      let b = turns_exact n (next x.0.0) x.0.1 ys.0.0 ys.0.1 (are_behind (spell x.0.0) x.0.1 (subst AreBytes a.0 are)) ys.1 in
      let F : List X × List ℕ → Type 0 = λ q. Turns (suc n) s bytes q.0 q.1 in
      moved F (x.0.0 ∷ ys.0.0, ys.0.1) (xs, rest) ys.2 (record {
        spelled = joined bytes (spell x.0.0) x.0.1 (flat_map spell ys.0.0) ys.0.1 a.0 b.spelled;
        count = ap suc b.count;
        are = (a.1, b.are);
      })

  pub turns : (n : ℕ) (s : S) → IsExact (in_turn read next s n) (flat_map spell) (λ xs. (length xs ≡ n) × AreInTurn Is next s xs)
  turns n s = record {
    again = λ xs rest h. ap (λ (k : ℕ). in_turn read next s k (flat_map spell xs ++ rest)) (sym h.0) ∙ turns_again xs s rest h.1;
    exact = λ bytes xs rest are r. let t = turns_exact n s bytes xs rest are r in (t.spelled, (t.count, t.are));
  }

-- ---- all of the bytes
none_left : (xs : List ℕ) → (length xs == 0) ≡ true → xs ≡ []
none_left [] e = refl
none_left (x ∷ xs) e = let none : suc (length xs) ≡ 0 = eqb-true (suc (length xs)) 0 e in absurd (omega (arith, none))

module _ {X : Type 0} (read : Reading X) (spell : X → List ℕ) (Is : X → Type 0) (e : IsExact read spell Is) where
  pub whole_again : (x : X) → Is x → whole read (spell x) ≡ Some x
  whole_again x h = ap (whole read) (sym (append-nil (spell x))) ∙ ap (λ (r : Option (X × List ℕ)). r >>= λ y. checked (length y.1 == 0) y.0) (e.again x [] h)

  pub whole_exact : (bytes : List ℕ) (x : X) → AreBytes bytes → whole read bytes ≡ Some x → (bytes ≡ spell x) × Is x
  whole_exact bytes x are r =
      let y = came (read bytes) (λ y. checked (length y.1 == 0) y.0) x r in
      let c = was_checked (length y.0.1 == 0) y.0.0 x y.2 in
      let p = e.exact bytes y.0.0 y.0.1 are y.1 in
      let F : X → Type 0 = λ z. (bytes ≡ spell z) × Is z in
      subst F c.1 (p.0 ∙ ap (λ (l : List ℕ). spell y.0.0 ++ l) (none_left y.0.1 c.0) ∙ append-nil (spell y.0.0), p.1)
