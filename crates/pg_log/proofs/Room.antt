-- Room in the index: a list's own requests have it, and it never shrinks.
use Rattle.std.proofs.Common.{◌≡◌, ℕ, suc, ◌<◌, ◌≤◌, Bool, true, false, cond, ◌==◌, List, [], ◌∷◌, ◌++◌, length, Option, Some, None, refl, ap, sym, ◌∙◌, arith, subst, Vec, Global, IsOk, Result, Ok, Err, is_err, take, drop, ◌+◌, rules}
use Rattle.std.specs.List.{slice_get}
use Rattle.std.proofs.lemmas.List.{take-append-drop}
use Rattle.std.specs.Ordering.{nat_cmp, is_eq}
use Rattle.std.specs.BTreeMap as tree
use Rattle.std.specs.BTreeMap.{BTreeMap}
use Rattle.std.proofs.lemmas.Bool.Decides.{nat_tests}
use Rattle.pg_log.specs.declared.places.Places.{Places}
use Rattle.pg_log.specs.Requests.{ClientRequest}
use Rattle.pg_log.specs.Places.{standing_from, standing, kept_of, room_of, ArePlaces, HasRoom, RoomStays}
use Rattle.pg_log.proofs.Lists.{drop_get}

-- one more request of a client makes the list of its requests longer
pub more_standing : (client at : ℕ) (xs : List ClientRequest) (r : ClientRequest) (ys : List ClientRequest) → r.client ≡ client →
    length (standing_from client at xs) < length (standing_from client at (xs ++ r ∷ ys))
more_standing client at [] r ys e =
    let yes : (r.client == client) ≡ true = grind (arith, nat_tests) in
    let P : Bool → Type 0 = λ b. 0 < length (cond b ((r.number, at) ∷ standing_from client (suc at) ys) (standing_from client (suc at) ys)) in
    subst P (sym yes) (omega arith)
more_standing client at (x ∷ xs) r ys e =
    let rest = more_standing client (suc at) xs r ys e in
    let one = standing_from client (suc at) xs in
    let two = standing_from client (suc at) (xs ++ r ∷ ys) in
    elim (x.client == client) as (λ b. length (cond b ((x.number, at) ∷ one) one) < length (cond b ((x.number, at) ∷ two) two)) [
      | true ↦ omega (arith, rest)
      | false ↦ rest
    ]

kept_fits : (o : Option (Vec (ℕ × ℕ) Global)) → length (kept_of o) ≤ room_of o
kept_fits None = omega arith
kept_fits (Some v) =
    let same = v.ok.0 in
    let within = v.ok.1 in
    omega (arith, same, within)

pub own_room : (places : Places) (list : List ClientRequest) → ArePlaces places list → HasRoom places list
own_room places list at client =
    let fits = kept_fits (tree.get nat_cmp places.by_client client) in
    let same = ap (λ l. length l) (at client) in
    omega (arith, fits, same)

pub room_later : (one two : Places) (list : List ClientRequest) → HasRoom one list → RoomStays one two → HasRoom two list
room_later one two list h s client =
    let a = h client in
    let b = s client in
    omega (arith, a, b)

pub room_twice : (one two three : Places) → RoomStays one two → RoomStays two three → RoomStays one three
room_twice one two three p q client =
    let a = p client in
    let b = q client in
    omega (arith, a, b)

room_of-cond : (b : Bool) (o : Option (Vec (ℕ × ℕ) Global)) (v : Vec (ℕ × ℕ) Global) → (b ≡ true → room_of o ≡ 0) → room_of o ≤ room_of (cond b (Some v) o)
room_of-cond true o v h =
    let none = h refl in
    omega (arith, none)
room_of-cond false o v h = omega arith

-- no client has less room after the first requests of another client are put in
pub room_put : (m n : BTreeMap ℕ (Vec (ℕ × ℕ) Global)) (key : ℕ) (v : Vec (ℕ × ℕ) Global) → tree.Updates nat_cmp m n key (Some v) → None ≡ tree.get nat_cmp m key →
    (client : ℕ) → room_of (tree.get nat_cmp m client) ≤ room_of (tree.get nat_cmp n client)
room_put m n key v u none client =
    let P : Option (Vec (ℕ × ℕ) Global) → Type 0 = λ o. room_of (tree.get nat_cmp m client) ≤ room_of o in
    subst P (sym (u.0 client)) (room_of-cond (is_eq (nat_cmp key client)) (tree.get nat_cmp m client) v
    (λ t. let e : key ≡ client = grind (arith, nat_tests) in ap (λ k. room_of (tree.get nat_cmp m k)) (sym e) ∙ ap (λ o. room_of o) (sym none)))

-- the next request of a list makes the list of its client's requests longer
pub next_standing : (client : ℕ) (xs : List ClientRequest) (k : ℕ) (r : ClientRequest) → slice_get xs k ≡ Some r → r.client ≡ client →
    length (standing client (take k xs)) < length (standing client xs)
next_standing client xs k r e c =
    let P : List ClientRequest → Type 0 = λ w. length (standing client (take k xs)) < length (standing client w) in
    subst P (ap (λ w. take k xs ++ w) (sym (drop_get xs k r e)) ∙ take-append-drop k xs) (more_standing client 0 (take k xs) r (drop (k + 1) xs) c)

pub has_error : {T E : Type 0} (r : Result T E) → is_err r ≡ true → IsOk r → ⊥
has_error (Ok x) e h = absurd (cc)
has_error (Err x) e h = search rules
