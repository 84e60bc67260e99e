-- Beginnings of lists, members of lists, and cells of a table.
use Rattle.std.proofs.Common.{◌≡◌, ℕ, zero, suc, ◌+◌, ◌≤◌, true, false, cond, ◌&&◌, ◌||◌, eqb, List, [], ◌∷◌, ◌++◌, length, take, drop, Some, ◌⊎◌, inl, inr, sym, ◌∙◌, refl, ap, subst, arith, append_assoc}
use Rattle.std.specs.List.{slice_get}
use Rattle.std.proofs.lemmas.List.{append-nil, take-append-drop, take_at, take-append-le, length-take-le, length-append}
use Rattle.std.proofs.lemmas.Option.{none-some}
use Rattle.std.proofs.lemmas.Bool.{cond-true, eq-eqb, eqb-true, eqb-false, and_parts, and_from, or_cases, true≢false, false≢true}
use Rattle.std.proofs.lemmas.Bool.Decides.{nat_tests}
use mathlib.Core.List.{IsPrefix}
use Rattle.placement.specs.Placement.{has}
use Rattle.pg_log.specs.Requests.{ClientRequest}
use Rattle.group_world.specs.Maps.{GroupMap, is_first, all_among, is_same_list}
use Rattle.group_world.specs.Rules.{is_same_request, begins}

-- the first of a list, and the primary of a map
abbrev pub first_of : List ℕ → ℕ
first_of [] = 0
first_of (n ∷ ns) = n

abbrev pub primary : GroupMap → ℕ
primary m = first_of m.acting

pub has_head : (n : ℕ) (ns : List ℕ) → has n (n ∷ ns) ≡ true
has_head n ns = ap (λ b. b || has n ns) (eq-eqb n n refl)

pub has_tail : (m n : ℕ) (ns : List ℕ) → has m ns ≡ true → has m (n ∷ ns) ≡ true
has_tail m n ns h = elim (eqb m n) as (λ b. (b || has m ns) ≡ true) [ true ↦ refl | false ↦ h ]

pub has_cases : (m n : ℕ) (ns : List ℕ) → has m (n ∷ ns) ≡ true → (n ≡ m) ⊎ (has m ns ≡ true)
has_cases m n ns h = elim (or_cases (eqb m n) (has m ns) h) [ inl e ↦ inl (sym (eqb-true m n e)) | inr k ↦ inr k ]

pub has_push : (m n : ℕ) (ns : List ℕ) → has m (ns ++ n ∷ []) ≡ true → (n ≡ m) ⊎ (has m ns ≡ true)
has_push m n [] h = has_cases m n [] h
has_push m n (k ∷ ks) h = elim (has_cases m k (ks ++ n ∷ []) h) [
  | inl e ↦ inr (subst (λ x. has m (x ∷ ks) ≡ true) (sym e) (has_head m ks))
  | inr r ↦ elim (has_push m n ks r) [ inl e ↦ inl e | inr q ↦ inr (has_tail m k ks q) ]
]

pub all_among_has : (m : ℕ) (ns ms : List ℕ) → all_among ns ms ≡ true → has m ns ≡ true → has m ms ≡ true
all_among_has m [] ms h k = absurd (false≢true k)
all_among_has m (n ∷ ns) ms h k =
    let p : (has n ms ≡ true) × (all_among ns ms ≡ true) = and_parts _ _ h in
    elim (has_cases m n ns k) [ inl e ↦ ap (λ x. has x ms) (sym e) ∙ p.0 | inr q ↦ all_among_has m ns ms p.1 q ]

-- the test of the first
pub first_true : (n : ℕ) (ns : List ℕ) → is_first n ns ≡ true → (first_of ns ≡ n) × (has n ns ≡ true)
first_true n [] h = absurd (false≢true h)
first_true n (m ∷ ms) h = (sym (eqb-true n m h), ap (λ b. b || has n ms) h)

pub first_false : (n : ℕ) (ns : List ℕ) → is_first n ns ≡ false → has n ns ≡ true → first_of ns ≡ n → ⊥
first_false n [] h k e = false≢true k
first_false n (m ∷ ms) h k e = eqb-false n m h (sym e)

pub is_same_list_true : (xs ys : List ℕ) → is_same_list xs ys ≡ true → xs ≡ ys
is_same_list_true [] [] h = refl
is_same_list_true [] (y ∷ ys) h = absurd (false≢true h)
is_same_list_true (x ∷ xs) [] h = absurd (false≢true h)
is_same_list_true (x ∷ xs) (y ∷ ys) h =
    let p : (eqb x y ≡ true) × (is_same_list xs ys ≡ true) = and_parts _ _ h in
    let e : x ≡ y = eqb-true x y p.0 in
    let r : xs ≡ ys = is_same_list_true xs ys p.1 in cc

pub prefix_refl : (xs : List ClientRequest) → IsPrefix xs xs
prefix_refl xs = ([], append-nil xs)

pub prefix_nil : (xs : List ClientRequest) → IsPrefix [] xs
prefix_nil xs = (xs, refl)

pub prefix_trans : (xs ys zs : List ClientRequest) → IsPrefix xs ys → IsPrefix ys zs → IsPrefix xs zs
prefix_trans xs ys zs p q = (p.0 ++ q.0, sym (append_assoc xs p.0 q.0) ∙ ap (λ w. w ++ q.0) p.1 ∙ q.1)

pub prefix_more : (xs ys : List ClientRequest) → IsPrefix xs (xs ++ ys)
prefix_more xs ys = (ys, refl)

pub prefix_push : (xs ys : List ClientRequest) (r : ClientRequest) → IsPrefix xs ys → IsPrefix xs (ys ++ r ∷ [])
prefix_push xs ys r p = prefix_trans xs ys (ys ++ r ∷ []) p (prefix_more ys (r ∷ []))

pub prefix_same : (xs ys zs : List ClientRequest) → ys ≡ zs → IsPrefix xs ys → IsPrefix xs zs
prefix_same xs ys zs e p = (p.0, p.1 ∙ e)

pub prefix_length : (xs ys : List ClientRequest) → IsPrefix xs ys → length xs ≤ length ys
prefix_length xs ys p = let e : length (xs ++ p.0) ≡ length ys = ap length p.1 in let l : length (xs ++ p.0) ≡ length xs + length p.0 = length-append xs p.0 in omega arith

pub prefix_cons : (x y : ClientRequest) (xs ys : List ClientRequest) → IsPrefix (x ∷ xs) (y ∷ ys) → (x ≡ y) × IsPrefix xs ys
prefix_cons x y xs ys p = let e : x ∷ (xs ++ p.0) ≡ y ∷ ys = p.1 in (cc, (p.0, cc))

-- two beginnings of one list: the shorter is a beginning of the longer
pub prefix_either : (xs ys zs : List ClientRequest) → IsPrefix xs zs → IsPrefix ys zs → length xs ≤ length ys → IsPrefix xs ys
prefix_either [] ys zs p q l = prefix_nil ys
prefix_either (x ∷ xs) [] zs p q l = absurd (omega arith)
prefix_either (x ∷ xs) (y ∷ ys) [] p q l = absurd (cc (p.1))
prefix_either (x ∷ xs) (y ∷ ys) (z ∷ zs) p q l =
    let a : (x ≡ z) × IsPrefix xs zs = prefix_cons x z xs zs p in
    let b : (y ≡ z) × IsPrefix ys zs = prefix_cons y z ys zs q in
    let r : IsPrefix xs ys = prefix_either xs ys zs a.1 b.1 (omega arith) in
    let e : x ≡ y = a.0 ∙ sym b.0 in
    (r.0, ap (λ w. w ∷ (xs ++ r.0)) e ∙ ap (λ w. y ∷ w) r.1)

pub prefix_equal : (xs ys : List ClientRequest) → IsPrefix xs ys → length ys ≤ length xs → xs ≡ ys
prefix_equal [] [] p l = refl
prefix_equal [] (y ∷ ys) p l = absurd (omega arith)
prefix_equal (x ∷ xs) [] p l = cc (p.1)
prefix_equal (x ∷ xs) (y ∷ ys) p l =
    let e : x ∷ (xs ++ p.0) ≡ y ∷ ys = p.1 in
    let a : xs ++ p.0 ≡ ys = cc in
    let r : xs ≡ ys = prefix_equal xs ys (p.0, a) (omega arith) in cc

pub is_same_request_true : (a b : ClientRequest) → is_same_request a b ≡ true → a ≡ b
is_same_request_true a b h =
    let p1 = and_parts _ _ h in
    let p2 = and_parts _ _ p1.1 in
    let p3 = and_parts _ _ p2.1 in
    let p4 = and_parts _ _ p3.1 in
    let p5 = and_parts _ _ p4.1 in
    let e1 : a.client ≡ b.client = eqb-true _ _ p1.0 in
    let e2 : a.number ≡ b.number = eqb-true _ _ p2.0 in
    let e3 : a.object ≡ b.object = is_same_list_true _ _ p3.0 in
    let e4 : a.class ≡ b.class = eqb-true _ _ p4.0 in
    let e5 : a.method ≡ b.method = is_same_list_true _ _ p5.0 in
    let e6 : a.input ≡ b.input = is_same_list_true _ _ p5.1 in
    λ i. record { client = e1 i; number = e2 i; object = e3 i; class = e4 i; method = e5 i; input = e6 i }

pub begins_true : (xs ys : List ClientRequest) → begins xs ys ≡ true → IsPrefix xs ys
begins_true [] ys h = prefix_nil ys
begins_true (x ∷ xs) [] h = absurd (true≢false (sym h))
begins_true (x ∷ xs) (y ∷ ys) h =
    let p : (is_same_request x y ≡ true) × (begins xs ys ≡ true) = and_parts _ _ h in
    let r : IsPrefix xs ys = begins_true xs ys p.1 in
    (r.0, ap (λ w. w ∷ (xs ++ r.0)) (is_same_request_true x y p.0) ∙ ap (λ w. y ∷ w) r.1)

pub take_prefix : (n : ℕ) (xs : List ClientRequest) → IsPrefix (take n xs) xs
take_prefix n xs = (drop n xs, take-append-drop n xs)

-- a list that begins with the committed list keeps it
pub take_kept : (n : ℕ) (xs ys : List ClientRequest) → n ≤ length xs → IsPrefix (take n xs) ys → take n ys ≡ take n xs
take_kept n xs ys l p =
    let k : length (take n xs) ≡ n = length-take-le n xs l in
    ap (take n) (sym p.1) ∙ take_at (take n xs) p.0 n k

pub take_within : (n : ℕ) (xs ys : List ClientRequest) → n ≤ length xs → IsPrefix (take n xs) ys → n ≤ length ys
take_within n xs ys l p =
    let k : length (take n xs) ≡ n = length-take-le n xs l in
    let m : length (take n xs) ≤ length ys = prefix_length _ _ p in omega arith

-- the front of a list is in each beginning of it that is long enough
pub take_in_front : (n : ℕ) (xs ys : List ClientRequest) → IsPrefix xs ys → n ≤ length xs → IsPrefix (take n ys) xs
take_in_front n xs ys p l =
    let e : take n ys ≡ take n xs = ap (take n) (sym p.1) ∙ take-append-le n xs p.0 l in
    subst (λ (w : List ClientRequest). IsPrefix w xs) (sym e) (drop n xs, take-append-drop n xs)

pub slice_get_front : (xs ys : List ClientRequest) (k : ℕ) (r : ClientRequest) → slice_get xs k ≡ Some r → slice_get (xs ++ ys) k ≡ Some r
slice_get_front [] ys k r h = absurd (none-some r h)
slice_get_front (x ∷ xs) ys zero r h = h
slice_get_front (x ∷ xs) ys (suc k) r h = slice_get_front xs ys k r h

-- a cell of a table that is written at one place
pub cell_cases : {X : Type 0} (e e' k k' : ℕ) (x y : X)
    → ((e ≡ e') × (k ≡ k') × (cond (eqb e e' && eqb k k') x y ≡ x)) ⊎ ((e ≡ e' → k ≡ k' → ⊥) × (cond (eqb e e' && eqb k k') x y ≡ y))
cell_cases e e' k k' x y = grind (arith, nat_tests)

pub cell_same : {X : Type 0} (e k : ℕ) (x y : X) → cond (eqb e e && eqb k k) x y ≡ x
cell_same e k x y = cond-true _ x y (and_from _ _ (eq-eqb e e refl) (eq-eqb k k refl))

pub spot_cases : {X : Type 0} (e e' : ℕ) (x y : X)
    → ((e ≡ e') × (cond (eqb e e') x y ≡ x)) ⊎ ((e ≡ e' → ⊥) × (cond (eqb e e') x y ≡ y))
spot_cases e e' x y = grind (arith, nat_tests)
