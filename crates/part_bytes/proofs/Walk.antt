-- Walking the intervals and the entries, as the loops do.
use Rattle.std.proofs.Common.{◌≡◌, ◌∙◌, ℕ, suc, ◌+◌, ◌-◌, ◌<◌, ◌≤◌, Bool, true, false, List, [], ◌∷◌, ap, sym, arith, length, length-drop, drop, take, map, get_or, drop-cons}
use Rattle.std.specs.Prelude.{◌&&◌, if◌then◌else◌}
use Rattle.std.proofs.lemmas.List.{take_all, drop_all}
use Rattle.part_bytes.specs.Part.{Interval, Entry}
use Rattle.part_bytes.specs.inner.Reading.{is_end_of, past, is_begun, covers}

module _ {Y : Type 0} (view : Y → Interval) where
  at_place : (name : List ℕ) (ys : List Y) (k : ℕ) (d : Y) (b : Bool) → k < length ys → is_end_of name (view (get_or ys k d)).1 ≡ b
      → past name (map view (drop k ys)) ≡ (if b then map view (drop k ys) else past name (map view (drop (k + 1) ys)))
  unfolding past
  at_place name ys k d b h e =
      let next : k + 1 ≡ suc k = omega arith in
      let cut : drop k ys ≡ get_or ys k d ∷ drop (k + 1) ys = drop-cons ys k d h ∙ ap (λ (n : ℕ). get_or ys k d ∷ drop n ys) (sym next) in
      ap (λ (l : List Y). past name (map view l)) cut
      ∙ ap (λ (t : Bool). if t then map view (get_or ys k d ∷ drop (k + 1) ys) else past name (map view (drop (k + 1) ys))) e
      ∙ ap (λ (l : List Y). if b then map view l else past name (map view (drop (k + 1) ys))) (sym cut)

  -- an interval that ends above the name stays, with those after it
  pub stays : (name : List ℕ) (ys : List Y) (k : ℕ) (d : Y) → k < length ys → is_end_of name (view (get_or ys k d)).1 ≡ true
      → past name (map view (drop k ys)) ≡ past name (map view ys) → map view (take (length ys - k) (drop k ys)) ≡ past name (map view ys)
  stays name ys k d h e all =
      let long : length (drop k ys) ≤ length ys - k = omega (arith, length-drop k ys) in
      ap (map view) (take_all (length ys - k) (drop k ys) long) ∙ sym (at_place name ys k d true h e) ∙ all

  -- another one goes
  pub goes : (name : List ℕ) (ys : List Y) (k : ℕ) (d : Y) → k < length ys → is_end_of name (view (get_or ys k d)).1 ≡ false
      → past name (map view (drop k ys)) ≡ past name (map view ys) → past name (map view (drop (k + 1) ys)) ≡ past name (map view ys)
  goes name ys k d h e all = sym (at_place name ys k d false h e) ∙ all

  -- none is left
  pub none_left : (name : List ℕ) (ys : List Y) (k : ℕ) → length ys ≤ k → past name (map view (drop k ys)) ≡ past name (map view ys) → [] ≡ past name (map view ys)
  unfolding past
  none_left name ys k h all = sym (ap (λ (l : List Y). past name (map view l)) (drop_all k ys h)) ∙ all

module _ {Y : Type 0} (view : Y → Entry) where
  -- the next entry
  pub covers_next : (is left : List Interval) (ys : List Y) (k : ℕ) (d : Y) (b : Bool) → k < length ys → left ≡ past (view (get_or ys k d)).0 is → is_begun (view (get_or ys k d)).0 left ≡ b
      → covers is (map view (drop k ys)) ≡ (b && covers left (map view (drop (k + 1) ys)))
  unfolding covers
  covers_next is left ys k d b h e begun =
      let next : k + 1 ≡ suc k = omega arith in
      let cut : drop k ys ≡ get_or ys k d ∷ drop (k + 1) ys = drop-cons ys k d h ∙ ap (λ (n : ℕ). get_or ys k d ∷ drop n ys) (sym next) in
      let name = (view (get_or ys k d)).0 in
      ap (λ (l : List Y). covers is (map view l)) cut
      ∙ ap (λ (l : List Interval). is_begun name l && covers l (map view (drop (k + 1) ys))) (sym e)
      ∙ ap (λ (t : Bool). t && covers left (map view (drop (k + 1) ys))) begun

  -- no entry is left
  pub covers_none : (is : List Interval) (ys : List Y) (k : ℕ) → length ys ≤ k → covers is (map view (drop k ys)) ≡ true
  unfolding covers
  covers_none is ys k h = ap (λ (l : List Y). covers is (map view l)) (drop_all k ys h)
