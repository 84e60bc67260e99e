-- The requests of entries, and beginnings of lists of them.
use Rattle.std.proofs.Common.{◌≡◌, ◌<◌, ◌≤◌, ℕ, suc, zero, Bool, true, false, ◌&&◌, List, [], ◌∷◌, length, ap, refl, arith, drop, take}
use Rattle.std.proofs.lemmas.Bool.{and_parts, false≢true}
use Rattle.pg_log.specs.declared.entry.Entry.{Entry}
use Rattle.pg_log.specs.Entries.{requests_of}
use Rattle.pg_log.specs.Requests.{ClientRequest}
use Rattle.group_world.specs.Rules.{is_same_request, begins}

pub drop_requests : (k : ℕ) (es : List Entry) → requests_of (drop k es) ≡ drop k (requests_of es)
drop_requests zero es = refl
drop_requests (suc k) [] = refl
drop_requests (suc k) (e ∷ es) = drop_requests k es

and_false : (a b : Bool) → false ≡ b → false ≡ (a && b)
and_false true b h = h
and_false false b h = refl

-- a list doesn't begin with a longer one
pub not_begins : (xs ys : List ClientRequest) → length ys < length xs → false ≡ begins xs ys
not_begins [] ys h = absurd (omega arith)
not_begins (x ∷ xs) [] h = refl
not_begins (x ∷ xs) (y ∷ ys) h =
    let r : false ≡ begins xs ys = not_begins xs ys (omega arith) in
    and_false (is_same_request x y) (begins xs ys) r

pub length_requests : (es : List Entry) → length (requests_of es) ≡ length es
length_requests [] = refl
length_requests (e ∷ es) = ap suc (length_requests es)

pub take_requests : (k : ℕ) (es : List Entry) → requests_of (take k es) ≡ take k (requests_of es)
take_requests zero es = refl
take_requests (suc k) [] = refl
take_requests (suc k) (e ∷ es) = ap (λ rs. e.request ∷ rs) (take_requests k es)

-- a list that begins with another is at least as long
pub begins_within : (xs ys : List ClientRequest) → begins xs ys ≡ true → length xs ≤ length ys
begins_within [] ys h = omega arith
begins_within (x ∷ xs) [] h = absurd (false≢true h)
begins_within (x ∷ xs) (y ∷ ys) h =
    let p : (is_same_request x y ≡ true) × (begins xs ys ≡ true) = and_parts _ _ h in
    let r : length xs ≤ length ys = begins_within xs ys p.1 in omega arith
