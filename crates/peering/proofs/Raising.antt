-- Acknowledged lengths one by one, and Reps one member at a time.
use Rattle.std.proofs.Common.{◌≡◌, ℕ, zero, suc, ◌+◌, ◌-◌, ◌<◌, cond, eqb, min, Bool, true, false, List, [], ◌∷◌, ◌++◌, length, take, drop, get_or, ap, refl, sym, ◌∙◌, ◌≤◌, ◌⊎◌, ⊎_elim, length-drop, arith, Option, Some, None}
use Rattle.std.proofs.lemmas.List.{take_all, drop-take}
use Rattle.replication.specs.Places.{least_from}
use Rattle.group_world.specs.Node.{NodeState, packet}
use Rattle.group_world.specs.declared.party.Party.TheVariants.{Node as ANode}
use Rattle.group_world.specs.declared.message.MessageKind.TheVariants.{Rep}
use Rattle.group_world.specs.Unanswered.{reps_unacked, reps_from}
use Rattle.pg_log.specs.Requests.{ClientRequest}
use Rattle.pg_log.specs.Entries.{requests_of}
use Rattle.pg_log.specs.declared.entry.Entry.{Entry}
use Rattle.peering.specs.inner.Arriving.{at_interval, reps_for, first, first_after}
use Rattle.group_world.specs.Rules.{raised, least_of}

pub raised_end : (m k c : ℕ) (ns ks : List ℕ) → c ≡ min (length ns) (length ks) → raised m k (drop c ns) (drop c ks) ≡ drop c ks
raised_end m k zero [] ks h = refl
raised_end m k zero (n ∷ ns) [] h = refl
raised_end m k zero (n ∷ ns) (a ∷ ks) h = absurd (omega arith)
raised_end m k (suc c) [] ks h = absurd (omega arith)
raised_end m k (suc c) (n ∷ ns) [] h = absurd (omega arith)
raised_end m k (suc c) (n ∷ ns) (a ∷ ks) h = raised_end m k c ns ks (omega arith)

pub least_same : (k : ℕ) (ks : List ℕ) → least_from k ks ≡ least_of k ks
least_same k [] = refl
least_same k (a ∷ ks) = least_same (min k a) ks

pub reps_end : (n c : ℕ) (s : NodeState) (ns ks : List ℕ) → c ≡ min (length ns) (length ks) → reps_unacked n s (drop c ns) (drop c ks) ≡ []
reps_end n zero s [] ks h = refl
reps_end n zero s (m ∷ ns) [] h = refl
reps_end n zero s (m ∷ ns) (a ∷ ks) h = absurd (omega arith)
reps_end n (suc c) s [] ks h = refl
reps_end n (suc c) s (m ∷ ns) [] h = absurd (omega arith)
reps_end n (suc c) s (m ∷ ns) (a ∷ ks) h = reps_end n c s ns ks (omega arith)

cond_front : {X : Type 0} (b : Bool) (xs ys : List X) → cond b ys (xs ++ ys) ≡ cond b [] xs ++ ys
cond_front true xs ys = refl
cond_front false xs ys = refl

pub reps_step : (n i : ℕ) (s : NodeState) (ns ks : List ℕ) → i < length ns → i < length ks
    → reps_unacked n s (drop i ns) (drop i ks) ≡ reps_for n (get_or ns i 0) s.interval (get_or ks i 0) (drop (get_or ks i 0) s.log) ++ reps_unacked n s (drop (suc i) ns) (drop (suc i) ks)
reps_step n i s [] ks l h = absurd (omega arith)
reps_step n i s (m ∷ ns) [] l h = absurd (omega arith)
reps_step n zero s (m ∷ ns) (a ∷ ks) l h = cond_front (eqb m n) (reps_from n m s.interval a (drop a s.log)) (reps_unacked n s ns ks)
reps_step n (suc i) s (m ∷ ns) (a ∷ ks) l h = reps_step n i s ns ks (omega arith) (omega arith)

pub reps_same : (n : ℕ) (s : NodeState) (ms acked : List ℕ) → reps_unacked n s ms acked ≡ reps_unacked n (at_interval s.interval s.log) ms acked
reps_same n s [] acked = refl
reps_same n s (m ∷ ms) [] = refl
reps_same n s (m ∷ ms) (a ∷ acked) =
    ap (λ ps. cond (eqb m n) ps (reps_from n m s.interval a (drop a s.log) ++ ps)) (reps_same n s ms acked)

-- the first Reps are those of the first requests
reps_take : (n m interval place k : ℕ) (rs : List ClientRequest) → reps_from n m interval place (take k rs) ≡ take k (reps_from n m interval place rs)
reps_take n m interval place zero rs = refl
reps_take n m interval place (suc k) [] = refl
reps_take n m interval place (suc k) (r ∷ rs) = ap (λ ps. packet n (ANode m) (Rep interval place r) ∷ ps) (reps_take n m interval (suc place) k rs)

requests_take : (k : ℕ) (es : List Entry) → requests_of (take k es) ≡ take k (requests_of es)
requests_take zero es = refl
requests_take (suc k) [] = refl
requests_take (suc k) (e ∷ es) = ap (λ rs. e.request ∷ rs) (requests_take k es)

take_cond : {X : Type 0} (b : Bool) (k : ℕ) (xs : List X) → cond b [] (take k xs) ≡ take k (cond b [] xs)
take_cond true zero xs = refl
take_cond true (suc k) xs = refl
take_cond false k xs = refl

pub reps_first : (n m interval from made : ℕ) (most : Option ℕ) (es : List Entry) → reps_for n m interval from (requests_of (first_after most made es)) ≡ first_after most made (reps_for n m interval from (requests_of es))
reps_first n m interval from made None es = refl
reps_first n m interval from made (Some most) es =
    ap (λ rs. reps_for n m interval from rs) (requests_take (most - made) es)
    ∙ ap (λ ps. cond (eqb m n) [] ps) (reps_take n m interval from (most - made) (requests_of es))
    ∙ take_cond (eqb m n) (most - made) (reps_from n m interval from (requests_of es))

-- what stands past the wanted ones doesn't count
take_same : {X : Type 0} (k : ℕ) (ys zs : List X) → take k (take k ys ++ zs) ≡ take k (ys ++ zs)
take_same zero ys zs = refl
take_same (suc k) [] zs = refl
take_same (suc k) (y ∷ ys) zs = ap (λ ws. y ∷ ws) (take_same k ys zs)

take_past : {X : Type 0} (k : ℕ) (xs ys zs : List X) → take k (xs ++ (take (k - length xs) ys ++ zs)) ≡ take k (xs ++ (ys ++ zs))
take_past k [] ys zs = let all : k - 0 ≡ k = omega arith in ap (λ j. take k (take j ys ++ zs)) all ∙ take_same k ys zs
take_past zero (x ∷ xs) ys zs = refl
take_past (suc k) (x ∷ xs) ys zs =
    let less : suc k - length (x ∷ xs) ≡ k - length xs = omega arith in
    ap (λ j. take (suc k) (x ∷ xs ++ (take j ys ++ zs))) less ∙ ap (λ ws. x ∷ ws) (take_past k xs ys zs)

pub first_past : {X : Type 0} (most : Option ℕ) (xs ys zs : List X) → first most (xs ++ (first_after most (length xs) ys ++ zs)) ≡ first most (xs ++ (ys ++ zs))
first_past None xs ys zs = refl
first_past (Some most) xs ys zs = take_past most xs ys zs

-- a list that is cut at its end, or behind the last that is wanted
pub cut_none : {X : Type 0} (from end : ℕ) (es : List X) → end ≡ length es → drop from (take end es) ≡ drop from es
cut_none from end es h = ap (drop from) (take_all end es (omega (arith, h)))

pub cut_some : {X : Type 0} (from end wanted : ℕ) (es : List X) → (end ≡ from + wanted) ⊎ ((end ≡ length es) × (length es ≤ from + wanted)) → drop from (take end es) ≡ take wanted (drop from es)
cut_some from end wanted es h = ⊎_elim
    (λ (cut : end ≡ from + wanted). ap (λ e. drop from (take e es)) cut ∙ drop-take from wanted es)
    (λ (whole : (end ≡ length es) × (length es ≤ from + wanted)). cut_none from end es whole.0 ∙ sym (take_all wanted (drop from es) (omega (arith, length-drop from es, whole.1)))) h
