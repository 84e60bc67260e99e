-- Operands are cut at commas exactly where the relations hold.
use Rattle.std.proofs.Common.{◌≡◌, ◌⊎◌, inl, inr, ℕ, ◌==◌, List, [], ◌∷◌, ◌++◌, Option, Some, None, Result, Ok, Err, refl, sym, ap, subst, ◌∙◌}
use Rattle.std.specs.Option.{option_map}
use Rattle.std.proofs.lemmas.List.{append-nil}
use Rattle.asm_lines.specs.declared.fault.AsmFault.{AsmFault}
use Rattle.asm_lines.specs.Texts.{trim, cut, lone, pair, triple}
use Rattle.asm_lines.specs.Operands.{both, of_one, of_two, of_three}
use Rattle.bpf_asm.specs.Syntax.{Without, One, Two, Three}
use Rattle.bpf_asm.proofs.PlainBytes.{cut_at, cut_none}
use Rattle.bpf_asm.proofs.CutRelations.{Stops, split, free_not, same_byte, padded, is_padded}

-- ---- a text without a comma, or cut at its first

record IsCut (text : List ℕ) : Type 0 where
  left : List ℕ
  right : List ℕ
  whole : text ≡ left ++ (44 ∷ right)
  without : Without 44 left

cut_behind : (text left behind : List ℕ) → text ≡ left ++ behind → Without 44 left → Stops (λ c. c == 44) behind → Without 44 text ⊎ IsCut text
cut_behind text left [] whole without stops =
    let same : left ≡ text = sym (whole ∙ append-nil left) in
    inl (subst (λ v. Without 44 v) same without)
cut_behind text left (x ∷ xs) whole without stops =
    let comma : x ∷ xs ≡ 44 ∷ xs = ap (λ v. v ∷ xs) (same_byte x 44 stops) in
    inr (record { left = left; right = xs; whole = whole ∙ ap (λ v. left ++ v) comma; without = without })

cut_cases : (text : List ℕ) → Without 44 text ⊎ IsCut text
cut_cases text = let s = split (λ c. c == 44) text in cut_behind text s.before s.behind s.whole s.free s.stops

no_cut : (text : List ℕ) → Without 44 text → cut text ≡ None
no_cut text h = cut_none text (free_not (λ c. c == 44) text h)

cut_whole : (text left right : List ℕ) → text ≡ left ++ (44 ∷ right) → Without 44 left → cut text ≡ Some (left, right)
cut_whole text left right whole without = ap cut whole ∙ cut_at left right (free_not (λ c. c == 44) left without)

lone_some : (text : List ℕ) → Without 44 text → lone text ≡ Some (trim text)
unfolding lone
lone_some text h = rw (no_cut text h) refl

lone_none : (text : List ℕ) → IsCut text → lone text ≡ None
unfolding lone
lone_none text c = rw (cut_whole text c.left c.right c.whole c.without) refl

pair_none : (text : List ℕ) → Without 44 text → pair text ≡ None
unfolding pair
pair_none text h = rw (no_cut text h) refl

pair_some : (text left right : List ℕ) → text ≡ left ++ (44 ∷ right) → Without 44 left → pair text ≡ option_map (λ b. (trim left, b)) (lone right)
unfolding pair
pair_some text left right whole without = rw (cut_whole text left right whole without) refl

triple_none : (text : List ℕ) → Without 44 text → triple text ≡ None
unfolding triple
triple_none text h = rw (no_cut text h) refl

triple_some : (text left right : List ℕ) → text ≡ left ++ (44 ∷ right) → Without 44 left → triple text ≡ option_map (λ r. (trim left, r.0, r.1)) (pair right)
unfolding triple
triple_some text left right whole without = rw (cut_whole text left right whole without) refl

-- ---- one operand

one_at : {A : Type 0} (read : List ℕ → Result A AsmFault) (Is : List ℕ → A → Type 0) → ((t : List ℕ) (a : A) → read t ≡ Ok a → Is t a) → (text : List ℕ) (a : A) → Without 44 text → read (trim text) ≡ Ok a → One Is text a
one_at read Is f text a without h = record { inner = trim text; without = without; padded = padded text; is = f (trim text) a h }

one_cases : {A : Type 0} (read : List ℕ → Result A AsmFault) (Is : List ℕ → A → Type 0) → ((t : List ℕ) (a : A) → read t ≡ Ok a → Is t a) → (text : List ℕ) (a : A) → of_one read (lone text) ≡ Ok a → Without 44 text ⊎ IsCut text → One Is text a
one_cases read Is f text a h (inl without) = one_at read Is f text a without (sym (ap (of_one read) (lone_some text without)) ∙ h)
one_cases read Is f text a h (inr c) = let none = lone_none text c in absurd cc

pub one_is : {A : Type 0} (read : List ℕ → Result A AsmFault) (Is : List ℕ → A → Type 0) → ((t : List ℕ) (a : A) → read t ≡ Ok a → Is t a) → (text : List ℕ) (a : A) → of_one read (lone text) ≡ Ok a → One Is text a
one_is read Is f text a h = one_cases read Is f text a h (cut_cases text)

at_one : {A : Type 0} (read : List ℕ → Result A AsmFault) (Is : List ℕ → A → Type 0) → ((t : List ℕ) (a : A) → Is t a → read t ≡ Ok a) → (text : List ℕ) (a : A) → One Is text a → read (trim text) ≡ Ok a
at_one read Is f text a h = ap read (is_padded text h.inner h.padded) ∙ f h.inner a h.is

pub is_one : {A : Type 0} (read : List ℕ → Result A AsmFault) (Is : List ℕ → A → Type 0) → ((t : List ℕ) (a : A) → Is t a → read t ≡ Ok a) → (text : List ℕ) (a : A) → One Is text a → of_one read (lone text) ≡ Ok a
is_one read Is f text a h = ap (of_one read) (lone_some text h.without) ∙ at_one read Is f text a h

-- ---- two operands

both_ok : {A B : Type 0} (x : Result A AsmFault) (y : Result B AsmFault) (p : A × B) → both x y ≡ Ok p → (x ≡ Ok p.0) × (y ≡ Ok p.1)
both_ok (Ok a) (Ok b) p h = let same : (a, b) ≡ p = cc in (ap (λ v. Ok v.0) same, ap (λ v. Ok v.1) same)
both_ok (Ok a) (Err g) p h = absurd cc
both_ok (Err f) (Ok b) p h = absurd cc
both_ok (Err f) (Err g) p h = absurd cc

two_parts : {A B : Type 0} (l : List ℕ → Result A AsmFault) (r : List ℕ → Result B AsmFault) (x : List ℕ) (o : Option (List ℕ)) (p : A × B) → of_two l r (option_map (λ b. (x, b)) o) ≡ Ok p → (l x ≡ Ok p.0) × (of_one r o ≡ Ok p.1)
two_parts l r x None p h = absurd cc
two_parts l r x (Some y) p h = both_ok (l x) (r y) p h

parts_two : {A B : Type 0} (l : List ℕ → Result A AsmFault) (r : List ℕ → Result B AsmFault) (x : List ℕ) (o : Option (List ℕ)) (a : A) (b : B) → l x ≡ Ok a → of_one r o ≡ Ok b → of_two l r (option_map (λ y. (x, y)) o) ≡ Ok (a, b)
parts_two l r x None a b h k = absurd cc
parts_two l r x (Some y) a b h k = rw (h, k) refl

two_cases : {A B : Type 0} (left : List ℕ → Result A AsmFault) (right : List ℕ → Result B AsmFault) (IsA : List ℕ → A → Type 0) (IsB : List ℕ → B → Type 0) → ((t : List ℕ) (a : A) → left t ≡ Ok a → IsA t a) → ((t : List ℕ) (b : B) → right t ≡ Ok b → IsB t b) → (text : List ℕ) (p : A × B) → of_two left right (pair text) ≡ Ok p → Without 44 text ⊎ IsCut text → Two IsA IsB text p.0 p.1
two_cases left right IsA IsB f g text p h (inl without) = let none = pair_none text without in absurd cc
two_cases left right IsA IsB f g text p h (inr c) =
    let same = pair_some text c.left c.right c.whole c.without in
    let parts = two_parts left right (trim c.left) (lone c.right) p (sym (ap (of_two left right) same) ∙ h) in
    record { left = c.left; right = c.right; whole = c.whole; one = one_at left IsA f c.left p.0 c.without parts.0; other = one_is right IsB g c.right p.1 parts.1 }

pub two_is : {A B : Type 0} (left : List ℕ → Result A AsmFault) (right : List ℕ → Result B AsmFault) (IsA : List ℕ → A → Type 0) (IsB : List ℕ → B → Type 0) → ((t : List ℕ) (a : A) → left t ≡ Ok a → IsA t a) → ((t : List ℕ) (b : B) → right t ≡ Ok b → IsB t b) → (text : List ℕ) (p : A × B) → of_two left right (pair text) ≡ Ok p → Two IsA IsB text p.0 p.1
two_is left right IsA IsB f g text p h = two_cases left right IsA IsB f g text p h (cut_cases text)

pub is_two : {A B : Type 0} (left : List ℕ → Result A AsmFault) (right : List ℕ → Result B AsmFault) (IsA : List ℕ → A → Type 0) (IsB : List ℕ → B → Type 0) → ((t : List ℕ) (a : A) → IsA t a → left t ≡ Ok a) → ((t : List ℕ) (b : B) → IsB t b → right t ≡ Ok b) → (text : List ℕ) (a : A) (b : B) → Two IsA IsB text a b → of_two left right (pair text) ≡ Ok (a, b)
is_two left right IsA IsB f g text a b h =
    let same = pair_some text h.left h.right h.whole h.one.without in
    ap (of_two left right) same ∙ parts_two left right (trim h.left) (lone h.right) a b (at_one left IsA f h.left a h.one) (is_one right IsB g h.right b h.other)

-- ---- three operands

three_parts : {A B C : Type 0} (l : List ℕ → Result A AsmFault) (m : List ℕ → Result B AsmFault) (r : List ℕ → Result C AsmFault) (x : List ℕ) (o : Option (List ℕ × List ℕ)) (t : A × (B × C)) → of_three l m r (option_map (λ q. (x, q.0, q.1)) o) ≡ Ok t → (l x ≡ Ok t.0) × (of_two m r o ≡ Ok t.1)
three_parts l m r x None t h = absurd cc
three_parts l m r x (Some q) t h = both_ok (l x) (both (m q.0) (r q.1)) t h

parts_three : {A B C : Type 0} (l : List ℕ → Result A AsmFault) (m : List ℕ → Result B AsmFault) (r : List ℕ → Result C AsmFault) (x : List ℕ) (o : Option (List ℕ × List ℕ)) (a : A) (p : B × C) → l x ≡ Ok a → of_two m r o ≡ Ok p → of_three l m r (option_map (λ q. (x, q.0, q.1)) o) ≡ Ok (a, p)
parts_three l m r x None a p h k = absurd cc
parts_three l m r x (Some q) a p h k = rw (h, k) refl

three_cases : {A B C : Type 0} (left : List ℕ → Result A AsmFault) (middle : List ℕ → Result B AsmFault) (right : List ℕ → Result C AsmFault) (IsA : List ℕ → A → Type 0) (IsB : List ℕ → B → Type 0) (IsC : List ℕ → C → Type 0) → ((t : List ℕ) (a : A) → left t ≡ Ok a → IsA t a) → ((t : List ℕ) (b : B) → middle t ≡ Ok b → IsB t b) → ((t : List ℕ) (c : C) → right t ≡ Ok c → IsC t c) → (text : List ℕ) (t : A × (B × C)) → of_three left middle right (triple text) ≡ Ok t → Without 44 text ⊎ IsCut text → Three IsA IsB IsC text t.0 t.1.0 t.1.1
three_cases left middle right IsA IsB IsC f g k text t h (inl without) = let none = triple_none text without in absurd cc
three_cases left middle right IsA IsB IsC f g k text t h (inr c) =
    let same = triple_some text c.left c.right c.whole c.without in
    let parts = three_parts left middle right (trim c.left) (pair c.right) t (sym (ap (of_three left middle right) same) ∙ h) in
    record { left = c.left; right = c.right; whole = c.whole; one = one_at left IsA f c.left t.0 c.without parts.0; others = two_is middle right IsB IsC g k c.right t.1 parts.1 }

pub three_is : {A B C : Type 0} (left : List ℕ → Result A AsmFault) (middle : List ℕ → Result B AsmFault) (right : List ℕ → Result C AsmFault) (IsA : List ℕ → A → Type 0) (IsB : List ℕ → B → Type 0) (IsC : List ℕ → C → Type 0) → ((t : List ℕ) (a : A) → left t ≡ Ok a → IsA t a) → ((t : List ℕ) (b : B) → middle t ≡ Ok b → IsB t b) → ((t : List ℕ) (c : C) → right t ≡ Ok c → IsC t c) → (text : List ℕ) (t : A × (B × C)) → of_three left middle right (triple text) ≡ Ok t → Three IsA IsB IsC text t.0 t.1.0 t.1.1
three_is left middle right IsA IsB IsC f g k text t h = three_cases left middle right IsA IsB IsC f g k text t h (cut_cases text)

pub is_three : {A B C : Type 0} (left : List ℕ → Result A AsmFault) (middle : List ℕ → Result B AsmFault) (right : List ℕ → Result C AsmFault) (IsA : List ℕ → A → Type 0) (IsB : List ℕ → B → Type 0) (IsC : List ℕ → C → Type 0) → ((t : List ℕ) (a : A) → IsA t a → left t ≡ Ok a) → ((t : List ℕ) (b : B) → IsB t b → middle t ≡ Ok b) → ((t : List ℕ) (c : C) → IsC t c → right t ≡ Ok c) → (text : List ℕ) (a : A) (b : B) (c : C) → Three IsA IsB IsC text a b c → of_three left middle right (triple text) ≡ Ok (a, (b, c))
is_three left middle right IsA IsB IsC f g k text a b c h =
    let same = triple_some text h.left h.right h.whole h.one.without in
    ap (of_three left middle right) same ∙ parts_three left middle right (trim h.left) (pair h.right) a (b, c) (at_one left IsA f h.left a h.one) (is_two middle right IsB IsC g k h.right b c h.others)
