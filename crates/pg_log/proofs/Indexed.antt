-- The index of places: its answers for a list, and the index of one more request.
use Rattle.std.proofs.Common.{◌≡◌, ℕ, zero, suc, ◌<◌, ◌≤◌, ◌+◌, Bool, true, false, cond, ◌&&◌, ◌||◌, ◌==◌, nat_le, nat_lt, List, [], ◌∷◌, ◌++◌, length, get_or, Option, Some, None, refl, ap, sym, ◌∙◌, arith, add-zero, zero-add, append-nil, subst, take, ◌-◌, length-append, Vec, Global}
use Rattle.std.specs.List.{slice_get, AllByRecursion, AllWithin}
use Rattle.std.specs.List.Sorted.{IsNonDecreasingBy}
use Rattle.std.specs.Ordering.{nat_cmp, is_eq}
use Rattle.std.specs.BTreeMap as tree
use Rattle.std.specs.BTreeMap.{BTreeMap}
use Rattle.std.proofs.lemmas.Option.{none-some, same_Some}
use Rattle.std.proofs.lemmas.Bool.Decides.{nat_tests}
use Rattle.std.proofs.lemmas.List.{take_at}
use Rattle.pg_log.specs.Requests.{ClientRequest}
use Rattle.pg_log.specs.Log.{NumbersRise}
use Rattle.pg_log.specs.Refusals.{place_of, one_later, is_reached}
use Rattle.pg_log.specs.Places.{standing_from, standing, IsRising, place_in, reaches_in, kept_of}

longer : (b : Bool) (p : ℕ × ℕ) (xs ys more : List (ℕ × ℕ)) → ys ≡ xs ++ more → cond b (p ∷ ys) ys ≡ cond b (p ∷ xs) xs ++ more
longer true p xs ys more e = ap (λ l. p ∷ l) e
longer false p xs ys more e = e

pub standing_from-push : (client at : ℕ) (xs : List ClientRequest) (r : ClientRequest) →
    standing_from client at (xs ++ r ∷ []) ≡ standing_from client at xs ++ cond (r.client == client) ((r.number, at + length xs) ∷ []) []
standing_from-push client at [] r = ap (λ n. cond (r.client == client) ((r.number, n) ∷ []) []) (sym (add-zero at))
standing_from-push client at (x ∷ xs) r =
    let e : suc at + length xs ≡ at + suc (length xs) = omega arith in
    longer (x.client == client) (x.number, at) (standing_from client (suc at) xs) (standing_from client (suc at) (xs ++ r ∷ [])) _
    (standing_from-push client (suc at) xs r ∙ ap (λ n. standing_from client (suc at) xs ++ cond (r.client == client) ((r.number, n) ∷ []) []) e)

abbrev shifted : ℕ → Option ℕ → Option ℕ
shifted at None = None
shifted at (Some k) = Some (at + k)

shifted-later : (at : ℕ) (o : Option ℕ) → shifted (suc at) o ≡ shifted at (one_later o)
shifted-later at None = refl
shifted-later at (Some k) = ap (λ (n : ℕ). Some n) (omega arith)

shifted-zero : (o : Option ℕ) → shifted 0 o ≡ o
shifted-zero None = refl
shifted-zero (Some k) = ap (λ (n : ℕ). Some n) (omega arith)

place_in-cond : (b : Bool) (number : ℕ) (p : ℕ × ℕ) (xs : List (ℕ × ℕ)) → place_in number (cond b (p ∷ xs) xs) ≡ cond b (cond (p.0 == number) (Some p.1) (place_in number xs)) (place_in number xs)
place_in-cond true number p xs = refl
place_in-cond false number p xs = refl

placed : (b c : Bool) (at : ℕ) (f o : Option ℕ) → f ≡ shifted (suc at) o → cond b (cond c (Some at) f) f ≡ shifted at (cond (b && c) (Some 0) (one_later o))
placed true true at f o e = ap (λ (n : ℕ). Some n) (sym (add-zero at))
placed true false at f o e = e ∙ shifted-later at o
placed false c at f o e = e ∙ shifted-later at o

place_in-standing_from : (client number at : ℕ) (xs : List ClientRequest) → place_in number (standing_from client at xs) ≡ shifted at (place_of client number xs)
place_in-standing_from client number at [] = refl
place_in-standing_from client number at (x ∷ xs) =
    place_in-cond (x.client == client) number (x.number, at) (standing_from client (suc at) xs)
    ∙ placed (x.client == client) (x.number == number) at _ _ (place_in-standing_from client number (suc at) xs)

-- the place of a pair in a list is that of the number among the client's requests
pub place_in-standing : (client number : ℕ) (xs : List ClientRequest) → place_in number (standing client xs) ≡ place_of client number xs
place_in-standing client number xs = place_in-standing_from client number 0 xs ∙ shifted-zero _

reaches_in-cond : (b : Bool) (number : ℕ) (p : ℕ × ℕ) (xs : List (ℕ × ℕ)) → reaches_in number (cond b (p ∷ xs) xs) ≡ cond b (nat_le number p.0 || reaches_in number xs) (reaches_in number xs)
reaches_in-cond true number p xs = refl
reaches_in-cond false number p xs = refl

reached : (b c f g : Bool) → f ≡ g → cond b (c || f) f ≡ ((b && c) || g)
reached true c f g e = ap (λ w. c || w) e
reached false c f g e = e

-- a client's requests reach a number exactly if the list does
pub reaches_in-standing_from : (client number at : ℕ) (xs : List ClientRequest) → reaches_in number (standing_from client at xs) ≡ is_reached client number xs
reaches_in-standing_from client number at [] = refl
reaches_in-standing_from client number at (x ∷ xs) =
    reaches_in-cond (x.client == client) number (x.number, at) (standing_from client (suc at) xs)
    ∙ reached (x.client == client) (nat_le number x.number) _ _ (reaches_in-standing_from client number (suc at) xs)

above : (client number at : ℕ) (xs : List ClientRequest) →
    ((i : ℕ) (a : ClientRequest) → slice_get xs i ≡ Some a → client ≡ a.client → number < a.number) → AllByRecursion (λ y. number < y.0) (standing_from client at xs)
above client number at [] h = tt
above client number at (x ∷ xs) h =
    let rest = above client number (suc at) xs (λ i a e. h (suc i) a e) in
    elim (x.client == client) as (λ b. (x.client == client) ≡ b → AllByRecursion (λ y. number < y.0) (cond b ((x.number, at) ∷ standing_from client (suc at) xs) (standing_from client (suc at) xs))) [
      | true ↦ λ t. (h 0 x refl (grind (arith, nat_tests)), rest)
      | false ↦ λ t. rest
    ] refl

-- the numbers of a client rise
pub rising : (client at : ℕ) (xs : List ClientRequest) → NumbersRise xs → IsRising (standing_from client at xs)
rising client at [] h = tt
rising client at (x ∷ xs) h =
    let rest = rising client (suc at) xs (λ i j a b l p q. h (suc i) (suc j) a b (omega (arith, l)) p q) in
    elim (x.client == client) as (λ b. (x.client == client) ≡ b → IsRising (cond b ((x.number, at) ∷ standing_from client (suc at) xs) (standing_from client (suc at) xs))) [
      | true ↦ λ t.
          let same : x.client ≡ client = grind (arith, nat_tests) in
          (above client x.number (suc at) xs (λ i a e c. h 0 (suc i) x a (omega arith) refl e (same ∙ c)), rest)
      | false ↦ λ t. rest
    ] refl

-- the place that is found among a client's requests is that in the list
pub place_found : (items : List (ℕ × ℕ)) (client number k n : ℕ) (xs : List ClientRequest) → NumbersRise xs → items ≡ standing k xs → k ≡ client → n ≡ number →
    (o : Option ℕ) → (IsRising items → o ≡ place_in n items) → o ≡ place_of client number xs
place_found items client number k n xs rise at c e o is =
    let P : List (ℕ × ℕ) → Type 0 = IsRising in
    is (subst P (sym at) (rising k 0 xs rise)) ∙ ap (place_in n) at ∙ place_in-standing k n xs ∙ ap (λ w. place_of w n xs) c ∙ ap (λ w. place_of client w xs) e

pub reached_found : (items : List (ℕ × ℕ)) (client number k n : ℕ) (xs : List ClientRequest) → NumbersRise xs → items ≡ standing k xs → k ≡ client → n ≡ number →
    (b : Bool) → (IsRising items → b ≡ reaches_in n items) → b ≡ is_reached client number xs
reached_found items client number k n xs rise at c e b is =
    let P : List (ℕ × ℕ) → Type 0 = IsRising in
    is (subst P (sym at) (rising k 0 xs rise)) ∙ ap (reaches_in n) at ∙ reaches_in-standing_from k n 0 xs ∙ ap (λ w. is_reached w n xs) c ∙ ap (λ w. is_reached client w xs) e

module _ {X : Type 0} (P : X → Type 0) where
  all_at : (xs : List X) (i : ℕ) (a : X) → AllByRecursion P xs → slice_get xs i ≡ Some a → P a
  all_at [] i a h e = absurd (none-some a e)
  all_at (x ∷ xs) zero a h e = subst P (same_Some x a e) h.0
  all_at (x ∷ xs) (suc i) a h e = all_at xs i a h.1 e

  all_get_or : (xs : List X) (i : ℕ) (d : X) → AllByRecursion P xs → i < length xs → P (get_or xs i d)
  all_get_or [] i d h l = absurd (omega (arith, l))
  all_get_or (x ∷ xs) zero d h l = h.0
  all_get_or (x ∷ xs) (suc i) d h l = all_get_or xs i d h.1 (omega (arith, l))

or_false : (b : Bool) → (b || false) ≡ b
or_false true = refl
or_false false = refl

or_higher : (number low high : ℕ) → low < high → (nat_le number low || nat_le number high) ≡ nat_le number high
or_higher number low high l = grind (arith, nat_tests)

-- a number is reached exactly if the last request's number is equal or greater
last_reaches : (number n : ℕ) (xs : List (ℕ × ℕ)) (p : ℕ × ℕ) → IsRising xs → suc n ≡ length xs → slice_get xs n ≡ Some p → reaches_in number xs ≡ nat_le number p.0
last_reaches number n [] p h l e = absurd (none-some p e)
last_reaches number zero (x ∷ []) p h l e =
    or_false (nat_le number x.0) ∙ ap (λ w. nat_le number w.0) (same_Some x p e)
last_reaches number (suc n) (x ∷ []) p h l e = absurd (none-some p e)
last_reaches number zero (x ∷ y ∷ ys) p h l e = absurd (omega (arith, l))
last_reaches number (suc n) (x ∷ y ∷ ys) p h l e =
    ap (λ b. nat_le number x.0 || b) (last_reaches number n (y ∷ ys) p h.1 (omega (arith, l)) e)
    ∙ or_higher number x.0 p.0 (all_at (λ w. x.0 < w.0) (y ∷ ys) n p h.0 e)

get_there : {X : Type 0} (xs : List X) (k : ℕ) → k < length xs → (x : X) × (slice_get xs k ≡ Some x)
get_there [] k l = absurd (omega (arith, l))
get_there (x ∷ xs) zero l = (x, refl)
get_there (x ∷ xs) (suc k) l = get_there xs k (omega (arith, l))

neither : (a b : Bool) → (a || b) ≡ false → (a ≡ false) × (b ≡ false)
neither true b e = absurd (cc)
neither false b e = (refl, e)

pub reaches_in-last : (number : ℕ) (xs : List (ℕ × ℕ)) (p : ℕ × ℕ) → IsRising xs → Some p ≡ slice_get xs (length xs - 1) → nat_le number p.0 ≡ reaches_in number xs
reaches_in-last number [] p h e = absurd (none-some p (sym e))
reaches_in-last number (x ∷ xs) p h e = sym (last_reaches number (length (x ∷ xs) - 1) (x ∷ xs) p h (omega arith) (sym e))

pub reaches_in-none : (number : ℕ) (xs : List (ℕ × ℕ)) → None ≡ slice_get xs (length xs - 1) → false ≡ reaches_in number xs
reaches_in-none number [] e = refl
reaches_in-none number (x ∷ xs) e =
    let w = get_there (x ∷ xs) (length (x ∷ xs) - 1) (omega arith) in
    absurd (none-some w.0 (e ∙ w.1))

pub IsRising-ordered : (xs : List (ℕ × ℕ)) → IsRising xs → IsNonDecreasingBy (λ (p : ℕ × ℕ). p.0) xs
IsRising-ordered [] h i j d l m = absurd (omega (arith, m))
IsRising-ordered (x ∷ xs) h zero zero d l m = omega arith
IsRising-ordered (x ∷ xs) h zero (suc j) d l m =
    let low = all_get_or (λ w. x.0 < w.0) xs j d h.0 (omega (arith, m)) in
    omega (arith, low)
IsRising-ordered (x ∷ xs) h (suc i) zero d l m = absurd (omega (arith, l))
IsRising-ordered (x ∷ xs) h (suc i) (suc j) d l m = IsRising-ordered xs h.1 i j d (omega (arith, l)) (omega (arith, m))

place_in-below : (number low : ℕ) (xs : List (ℕ × ℕ)) → AllByRecursion (λ y. low < y.0) xs → number ≤ low → place_in number xs ≡ None
place_in-below number low [] h l = refl
place_in-below number low (x ∷ xs) h l =
    let higher : low < x.0 = h.0 in
    let no : (x.0 == number) ≡ false = grind (arith, nat_tests) in
    ap (λ b. cond b (Some x.1) (place_in number xs)) no ∙ place_in-below number low xs h.1 l

abbrev pub found : ℕ → Option (ℕ × ℕ) → Option ℕ
found number None = None
found number (Some p) = cond (p.0 == number) (Some p.1) None

-- the place of a number, found at the first request whose number isn't below it
pub place_in-point : (number i : ℕ) (xs : List (ℕ × ℕ)) → IsRising xs → AllWithin (λ y. nat_lt y.0 number ≡ true) xs 0 i → AllWithin (λ y. nat_lt y.0 number ≡ false) xs i (length xs) →
    found number (slice_get xs i) ≡ place_in number xs
place_in-point number i [] h low high = refl
place_in-point number zero (x ∷ xs) h low high =
    let least = high 0 x (omega arith) (omega arith) in
    elim (x.0 == number) as (λ b. (x.0 == number) ≡ b → cond b (Some x.1) None ≡ cond b (Some x.1) (place_in number xs)) [
      | true ↦ λ t. refl
      | false ↦ λ t. sym (place_in-below number x.0 xs h.0 (grind (arith, nat_tests)))
    ] refl
place_in-point number (suc i) (x ∷ xs) h low high =
    let less = low 0 x (omega arith) (omega arith) in
    let no : (x.0 == number) ≡ false = grind (arith, nat_tests) in
    place_in-point number i xs h.1 (λ k d l m. low (suc k) d (omega arith) (omega (arith, m))) (λ k d l m. high (suc k) d (omega (arith, l)) (omega (arith, m)))
    ∙ ap (λ b. cond b (Some x.1) (place_in number xs)) (sym no)

pub found-hit : (number : ℕ) (p : ℕ × ℕ) → p.0 ≡ number → Some p.1 ≡ found number (Some p)
found-hit number p e =
    let yes : (p.0 == number) ≡ true = grind (arith, nat_tests) in
    ap (λ b. cond b (Some p.1) None) (sym yes)

pub found-miss : (number : ℕ) (p : ℕ × ℕ) → (p.0 ≡ number → ⊥) → None ≡ found number (Some p)
found-miss number p e =
    let no : (p.0 == number) ≡ false = grind (arith, nat_tests) in
    ap (λ b. cond b (Some p.1) None) (sym no)

-- a number that isn't reached has no place
pub place_in-unreached : (number : ℕ) (xs : List (ℕ × ℕ)) → reaches_in number xs ≡ false → None ≡ place_in number xs
place_in-unreached number [] e = refl
place_in-unreached number (x ∷ xs) e =
    let parts = neither (nat_le number x.0) (reaches_in number xs) e in
    let low = parts.0 in
    let no : (x.0 == number) ≡ false = grind (arith, nat_tests) in
    place_in-unreached number xs parts.1 ∙ ap (λ b. cond b (Some x.1) (place_in number xs)) (sym no)

same_client : (a b : ℕ) → is_eq (nat_cmp a b) ≡ (a == b)
same_client a b = grind (arith, nat_tests)

take-last : {X : Type 0} (xs : List X) (x : X) → take (length (xs ++ x ∷ []) - 1) (xs ++ x ∷ []) ≡ xs
take-last xs x =
    let e : length (xs ++ x ∷ []) - 1 ≡ length xs = omega (arith, length-append xs (x ∷ [])) in
    ap (λ n. take n (xs ++ x ∷ [])) e ∙ take_at xs (x ∷ []) (length xs) refl

kept_of-cond : (b : Bool) (v : Vec (ℕ × ℕ) Global) (o : Option (Vec (ℕ × ℕ) Global)) → kept_of (cond b (Some v) o) ≡ cond b v.items (kept_of o)
kept_of-cond true v o = refl
kept_of-cond false v o = refl

one_more : (client q number place : ℕ) (items before : List (ℕ × ℕ)) (xs : List ClientRequest) (r : ClientRequest) → (client ≡ q → items ≡ before ++ (number, place) ∷ []) →
    before ≡ standing q xs → client ≡ r.client → number ≡ r.number → place ≡ length xs → cond (client == q) items before ≡ standing q (xs ++ r ∷ [])
one_more client q number place items before xs r is at c k p =
    elim (client == q) as (λ b. (client == q) ≡ b → cond b items before ≡ standing q (xs ++ r ∷ [])) [
      | true ↦ λ t.
          let e : client ≡ q = grind (arith, nat_tests) in
          let yes : (r.client == q) ≡ true = ap (λ w. w == q) (sym c) ∙ t in
          is e ∙ ap (λ w. w ++ (number, place) ∷ []) at ∙ ap (λ w. standing q xs ++ (w, place) ∷ []) k ∙ ap (λ w. standing q xs ++ (r.number, w) ∷ []) (p ∙ sym (zero-add (length xs)))
          ∙ ap (λ b. standing q xs ++ cond b ((r.number, 0 + length xs) ∷ []) []) (sym yes) ∙ sym (standing_from-push q 0 xs r)
      | false ↦ λ t.
          let no : (r.client == q) ≡ false = ap (λ w. w == q) (sym c) ∙ t in
          at ∙ sym (append-nil (standing q xs)) ∙ ap (λ b. standing q xs ++ cond b ((r.number, 0 + length xs) ∷ []) []) (sym no) ∙ sym (standing_from-push q 0 xs r)
    ] refl

one_less : (client q : ℕ) (items before : List (ℕ × ℕ)) (xs : List ClientRequest) (r : ClientRequest) → (client ≡ q → items ≡ take (length before - 1) before) →
    before ≡ standing q (xs ++ r ∷ []) → client ≡ r.client → cond (client == q) items before ≡ standing q xs
one_less client q items before xs r is at c =
    let whole = at ∙ standing_from-push q 0 xs r in
    elim (client == q) as (λ b. (client == q) ≡ b → cond b items before ≡ standing q xs) [
      | true ↦ λ t.
          let e : client ≡ q = grind (arith, nat_tests) in
          let yes : (r.client == q) ≡ true = ap (λ w. w == q) (sym c) ∙ t in
          let pushed = whole ∙ ap (λ b. standing q xs ++ cond b ((r.number, 0 + length xs) ∷ []) []) yes in
          is e ∙ ap (λ (l : List (ℕ × ℕ)). take (length l - 1) l) pushed ∙ take-last (standing q xs) (r.number, 0 + length xs)
      | false ↦ λ t.
          let no : (r.client == q) ≡ false = ap (λ w. w == q) (sym c) ∙ t in
          whole ∙ ap (λ b. standing q xs ++ cond b ((r.number, 0 + length xs) ∷ []) []) no ∙ append-nil (standing q xs)
    ] refl

-- the index after one client's requests were replaced
changed : (m n : BTreeMap ℕ (Vec (ℕ × ℕ) Global)) (client : ℕ) (v : Vec (ℕ × ℕ) Global) → tree.Updates nat_cmp m n client (Some v) →
    (q : ℕ) → kept_of (tree.get nat_cmp n q) ≡ cond (client == q) v.items (kept_of (tree.get nat_cmp m q))
changed m n client v u q =
    ap (λ o. kept_of o) (u.0 q ∙ ap (λ b. cond b (Some v) (tree.get nat_cmp m q)) (same_client client q)) ∙ kept_of-cond (client == q) v (tree.get nat_cmp m q)

pub added : (m n : BTreeMap ℕ (Vec (ℕ × ℕ) Global)) (client number place : ℕ) (v : Vec (ℕ × ℕ) Global) → tree.Updates nat_cmp m n client (Some v) →
    v.items ≡ kept_of (tree.get nat_cmp m client) ++ (number, place) ∷ [] →
    (xs : List ClientRequest) (r : ClientRequest) → ((q : ℕ) → kept_of (tree.get nat_cmp m q) ≡ standing q xs) →
    client ≡ r.client → number ≡ r.number → place ≡ length xs → (q : ℕ) → kept_of (tree.get nat_cmp n q) ≡ standing q (xs ++ r ∷ [])
added m n client number place v u is xs r at c k p q =
    changed m n client v u q ∙ one_more client q number place v.items (kept_of (tree.get nat_cmp m q)) xs r (λ e. is ∙ ap (λ w. kept_of (tree.get nat_cmp m w) ++ (number, place) ∷ []) e) (at q) c k p

-- the last request of a client is taken back
pub taken : (m n : BTreeMap ℕ (Vec (ℕ × ℕ) Global)) (client : ℕ) (v w : Vec (ℕ × ℕ) Global) → tree.Updates nat_cmp m n client (Some v) →
    tree.get nat_cmp m client ≡ Some w → v.items ≡ take (length w.items - 1) w.items →
    (xs : List ClientRequest) (r : ClientRequest) → ((q : ℕ) → kept_of (tree.get nat_cmp m q) ≡ standing q (xs ++ r ∷ [])) →
    client ≡ r.client → (q : ℕ) → kept_of (tree.get nat_cmp n q) ≡ standing q xs
taken m n client v w u was is xs r at c q =
    changed m n client v u q ∙ one_less client q v.items (kept_of (tree.get nat_cmp m q)) xs r
    (λ e. is ∙ ap (λ (l : List (ℕ × ℕ)). take (length l - 1) l) (sym (ap (λ o. kept_of o) was) ∙ ap (λ k. kept_of (tree.get nat_cmp m k)) e)) (at q) c

-- the index has the client whose request ends the list
pub last_kept : (o : Option (Vec (ℕ × ℕ) Global)) (client : ℕ) (xs : List ClientRequest) (r : ClientRequest) → o ≡ None → kept_of o ≡ standing client (xs ++ r ∷ []) → client ≡ r.client → ⊥
last_kept o client xs r none at c =
    let yes : (r.client == client) ≡ true = grind (arith, nat_tests) in
    let e = sym (ap (λ o. length (kept_of o)) none) ∙ ap (λ l. length l) (at ∙ standing_from-push client 0 xs r ∙ ap (λ b. standing client xs ++ cond b ((r.number, 0 + length xs) ∷ []) []) yes) in
    let n = length-append (standing client xs) ((r.number, 0 + length xs) ∷ []) in
    omega (arith, e, n)
