-- Equal lists of requests, and equal parties.
use Rattle.std.proofs.Common.{◌≡◌, Bool, true, false, List, [], ◌∷◌, ap, refl, sym, ◌∙◌}
use Rattle.std.specs.Bool.{IsTrue}
use Rattle.std.proofs.lemmas.Bool.{and_parts, and_from, eq-eqb, eqb-true, false≢true}
use Rattle.pg_log.specs.Requests.{ClientRequest}
use Rattle.group_world.specs.Rules.{is_same_request}
use Rattle.group_world.proofs.Lists.{is_same_request_true}
use Rattle.peering_messages.proofs.Lists.{same_request}
use Rattle.group_world.specs.declared.party.Party.{Party}
use Rattle.group_world.specs.declared.party.Party.TheVariants.{Node as ANode, Monitor as TheMonitor, Client as AClient}
use Rattle.sim_world.specs.Same.{are_same_requests, is_same_party}

itself : (xs : List ClientRequest) → are_same_requests xs xs ≡ true
itself [] = refl
itself (x ∷ xs) = and_from _ _ (sym (same_request true x x (λ t. refl) (λ e. refl))) (itself xs)

equal : (xs ys : List ClientRequest) → are_same_requests xs ys ≡ true → xs ≡ ys
equal [] [] h = refl
equal [] (y ∷ ys) h = absurd (false≢true h)
equal (x ∷ xs) [] h = absurd (false≢true h)
equal (x ∷ xs) (y ∷ ys) h =
    let p : (is_same_request x y ≡ true) × (are_same_requests xs ys ≡ true) = and_parts _ _ h in
    let e : x ≡ y = is_same_request_true x y p.0 in
    let r : xs ≡ ys = equal xs ys p.1 in cc

-- a test that is true exactly where the lists are equal
pub same_requests : (t : Bool) (xs ys : List ClientRequest) → (IsTrue t → xs ≡ ys) → (xs ≡ ys → IsTrue t) → t ≡ are_same_requests xs ys
same_requests true xs ys f g = sym (ap (are_same_requests xs) (sym (f refl)) ∙ itself xs)
same_requests false xs ys f g =
    elim (are_same_requests xs ys) as (λ w. are_same_requests xs ys ≡ w → false ≡ w) [
      | true ↦ λ e. absurd (false≢true (g (equal xs ys e)))
      | false ↦ λ e. refl
    ] refl

party_itself : (p : Party) → is_same_party p p ≡ true
party_itself (ANode n) = eq-eqb n n refl
party_itself TheMonitor = refl
party_itself (AClient c) = eq-eqb c c refl

party_equal : (p q : Party) → is_same_party p q ≡ true → p ≡ q
party_equal (ANode n) (ANode m) h = ap (λ x. ANode x) (eqb-true n m h)
party_equal (ANode n) TheMonitor h = absurd (false≢true h)
party_equal (ANode n) (AClient d) h = absurd (false≢true h)
party_equal TheMonitor (ANode m) h = absurd (false≢true h)
party_equal TheMonitor TheMonitor h = refl
party_equal TheMonitor (AClient d) h = absurd (false≢true h)
party_equal (AClient c) (ANode m) h = absurd (false≢true h)
party_equal (AClient c) TheMonitor h = absurd (false≢true h)
party_equal (AClient c) (AClient d) h = ap (λ x. AClient x) (eqb-true c d h)

-- a test that is true exactly if the parties are equal
pub same_party : (t : Bool) (p q : Party) → (IsTrue t → p ≡ q) → (p ≡ q → IsTrue t) → t ≡ is_same_party p q
same_party true p q f g = sym (ap (is_same_party p) (sym (f refl)) ∙ party_itself p)
same_party false p q f g =
    elim (is_same_party p q) as (λ w. is_same_party p q ≡ w → false ≡ w) [
      | true ↦ λ e. absurd (false≢true (g (party_equal p q e)))
      | false ↦ λ e. refl
    ] refl
