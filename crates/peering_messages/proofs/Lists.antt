-- Lists of numbers, equal requests, and the requests of entries.
use Rattle.std.proofs.Common.{◌≡◌, ◌≢◌, ◌<◌, ℕ, suc, zero, Bool, true, false, List, [], ◌∷◌, ◌++◌, length, Some, eqb, ap, sym, ◌∙◌, refl, arith}
use Rattle.std.specs.Bool.{IsTrue}
use Rattle.std.specs.List.{slice_get}
use Rattle.std.proofs.lemmas.Bool.{eq-eqb, eqb-true, and_parts, and_from, false≢true}
use Rattle.pg_log.specs.declared.entry.Entry.{Entry}
use Rattle.pg_log.specs.Entries.{requests_of}
use Rattle.pg_log.specs.Requests.{ClientRequest}
use Rattle.group_world.specs.Maps.{is_same_list}
use Rattle.group_world.specs.Rules.{is_same_request}

-- lists of different lengths are different
pub not_same_length : (xs ys : List ℕ) → length xs ≢ length ys → false ≡ is_same_list xs ys
not_same_length [] [] h = absurd (h refl)
not_same_length [] (y ∷ ys) h = refl
not_same_length (x ∷ xs) [] h = refl
not_same_length (x ∷ xs) (y ∷ ys) h =
    let r : false ≡ is_same_list xs ys = not_same_length xs ys (λ e. h (ap suc e)) in
    grind (arith, r)

pub length_requests : (es : List Entry) → length (requests_of es) ≡ length es
length_requests [] = refl
length_requests (e ∷ es) = ap suc (length_requests es)

pub get_before : (xs ys : List ClientRequest) (k : ℕ) → k < length xs → slice_get (xs ++ ys) k ≡ slice_get xs k
get_before [] ys k h = absurd (omega arith)
get_before (x ∷ xs) ys zero h = refl
get_before (x ∷ xs) ys (suc k) h = get_before xs ys k (omega arith)

pub get_last : (xs : List ClientRequest) (x : ClientRequest) → slice_get (xs ++ x ∷ []) (length xs) ≡ Some x
get_last [] x = refl
get_last (y ∷ xs) x = get_last xs x

itself : (xs : List ℕ) → is_same_list xs xs ≡ true
itself [] = refl
itself (x ∷ xs) = and_from _ _ (eq-eqb x x refl) (itself xs)

equal : (xs ys : List ℕ) → is_same_list xs ys ≡ true → xs ≡ ys
equal [] [] h = refl
equal [] (y ∷ ys) h = absurd (false≢true h)
equal (x ∷ xs) [] h = absurd (false≢true h)
equal (x ∷ xs) (y ∷ ys) h =
    let p : (eqb x y ≡ true) × (is_same_list xs ys ≡ true) = and_parts _ _ h in
    let e : x ≡ y = eqb-true x y p.0 in
    let r : xs ≡ ys = equal xs ys p.1 in cc

request_itself : (a : ClientRequest) → is_same_request a a ≡ true
request_itself a =
    and_from _ _ (eq-eqb a.client a.client refl) (and_from _ _ (eq-eqb a.number a.number refl) (and_from _ _ (itself a.object)
    (and_from _ _ (eq-eqb a.class a.class refl) (and_from _ _ (itself a.method) (itself a.input)))))

equal_requests : (a b : ClientRequest) → is_same_request a b ≡ true → a ≡ b
equal_requests a b h =
    let p1 = and_parts _ _ h in
    let p2 = and_parts _ _ p1.1 in
    let p3 = and_parts _ _ p2.1 in
    let p4 = and_parts _ _ p3.1 in
    let p5 = and_parts _ _ p4.1 in
    let e1 : a.client ≡ b.client = eqb-true _ _ p1.0 in
    let e2 : a.number ≡ b.number = eqb-true _ _ p2.0 in
    let e3 : a.object ≡ b.object = equal _ _ p3.0 in
    let e4 : a.class ≡ b.class = eqb-true _ _ p4.0 in
    let e5 : a.method ≡ b.method = equal _ _ p5.0 in
    let e6 : a.input ≡ b.input = equal _ _ p5.1 in
    λ i. record { client = e1 i; number = e2 i; object = e3 i; class = e4 i; method = e5 i; input = e6 i }

-- a test that is true exactly if the requests are equal
pub same_request : (t : Bool) (a b : ClientRequest) → (IsTrue t → a ≡ b) → (a ≡ b → IsTrue t) → t ≡ is_same_request a b
same_request true a b f g = sym (ap (is_same_request a) (sym (f refl)) ∙ request_itself a)
same_request false a b f g =
    elim (is_same_request a b) as (λ w. is_same_request a b ≡ w → false ≡ w) [
      | true ↦ λ e. absurd (false≢true (g (equal_requests a b e)))
      | false ↦ λ e. refl
    ] refl
