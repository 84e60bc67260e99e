-- A Rep at a member, by the answer to putting its request at its place.
use Rattle.std.proofs.Common.{◌≡◌, ◌⊎◌, inl, inr, ℕ, suc, Bool, true, false, ◌&&◌, cond, eqb, nat_lt, length, length-append, is_none, Option, Some, None, arith, List, ◌++◌, ◌∷◌, [], Result, Ok, Err, ap, sym, ◌∙◌, refl}
use Rattle.std.proofs.lemmas.Bool.{false≢true}
use Rattle.std.proofs.lemmas.Bool.Decides.{nat_tests}
use Rattle.pg_log.specs.declared.log_error.LogError.{LogError}
use Rattle.pg_log.specs.declared.log_error.LogError.TheVariants.{NoMemory}
use Rattle.pg_log.specs.Requests.{ClientRequest}
use Rattle.pg_log.specs.Log.{Classes}
use Rattle.pg_log.specs.Refusals.{refusal}
use Rattle.replication.specs.Places.{added_or, append_at_answer, list_with}
use Rattle.group_world.specs.Node.{NodeState, Outcome, nothing, and_sends, is_installed, packet}
use Rattle.group_world.specs.Rules.{and_acks, replicate}
use Rattle.group_world.specs.declared.party.Party.{Party}
use Rattle.group_world.specs.declared.message.MessageKind.TheVariants.{Ack}
use Rattle.peering.specs.inner.Arriving.{acks_if, is_memory}

-- the outcome for an answer, if the place is the end of the log and if it isn't
abbrev by_answer : ℕ → Party → NodeState → ClientRequest → Bool → Result (Option ℕ) LogError → Outcome
by_answer n sender s r last (Ok length) = acks_if n sender (record s { log = cond last (s.log ++ r ∷ []) s.log }) length
by_answer n sender s r last (Err why) = nothing s

-- the answer and the rule make the same tests
abbrev answered : List ClientRequest → Bool → Bool → Option LogError → Result (Option ℕ) LogError
answered log before after why = cond before (Ok (Some (length log))) (cond after (Ok None) (added_or why (suc (length log))))

abbrev ruled : ℕ → Party → NodeState → ClientRequest → Bool → Bool → Option LogError → Outcome
ruled n sender s r before last why =
    cond before (and_acks n sender s) (cond (last && is_none why) (and_acks n sender (record s { log = s.log ++ r ∷ [] })) (nothing s))

same : (n : ℕ) (sender : Party) (s : NodeState) (r : ClientRequest) (before after last : Bool) (why : Option LogError) →
    (before ≡ true → last ≡ false) → (after ≡ true → last ≡ false) → (before ≡ false → after ≡ false → last ≡ true) →
    by_answer n sender s r last (answered s.log before after why) ≡ ruled n sender s r before last why
same n sender s r true after true why b a l = absurd (false≢true (sym (b refl)))
same n sender s r true after false why b a l = refl
same n sender s r false true true why b a l = absurd (false≢true (sym (a refl)))
same n sender s r false true false why b a l = refl
same n sender s r false false false why b a l = absurd (false≢true (l refl refl))
same n sender s r false false true None b a l =
    let longer : suc (length s.log) ≡ length (s.log ++ r ∷ []) = omega (arith, length-append s.log (r ∷ [])) in
    ap (λ k. and_sends (nothing (record s { log = s.log ++ r ∷ [] })) (packet n sender (Ack s.interval k))) longer
same n sender s r false false true (Some why) b a l = refl

placed : (classes : Classes) (n : ℕ) (s : NodeState) (sender : Party) (interval place : ℕ) (r : ClientRequest) → eqb interval s.interval ≡ true → is_installed s.status ≡ true →
    by_answer n sender s r (eqb place (length s.log)) (append_at_answer classes s.log place r) ≡ replicate classes n s sender interval place r
placed classes n s sender interval place r a b =
    let k : ℕ = length s.log in
    let rule : Outcome = ruled n sender s r (nat_lt place k) (eqb place k) (refusal classes s.log r) in
    let before : nat_lt place k ≡ true → eqb place k ≡ false = λ h. grind (arith, nat_tests) in
    let after : nat_lt k place ≡ true → eqb place k ≡ false = λ h. grind (arith, nat_tests) in
    let last : nat_lt place k ≡ false → nat_lt k place ≡ false → eqb place k ≡ true = λ h g. grind (arith, nat_tests) in
    same n sender s r (nat_lt place k) (nat_lt k place) (eqb place k) (refusal classes s.log r) before after last
    ∙ sym (ap (λ x. cond (x && is_installed s.status) rule (nothing s)) a ∙ ap (λ x. cond x rule (nothing s)) b)

-- NoMemory is no answer
abbrev no_memory : Result (Option ℕ) LogError
no_memory = Err NoMemory

abbrev told : Option ℕ → Result (Option ℕ) LogError
told after = Ok after

abbrev refused_by : LogError → Result (Option ℕ) LogError
refused_by why = Err why

abbrev memory_in : Result (Option ℕ) LogError → Bool
memory_in (Ok length) = false
memory_in (Err why) = is_memory why

answer_is : {P Q : Type 0} (given answer : Result (Option ℕ) LogError) → memory_in given ≡ false → (given ≡ answer) ⊎ ((given ≡ no_memory) × P × Q) → given ≡ answer
answer_is given answer h (inl e) = e
answer_is given answer h (inr e) = absurd (false≢true (sym h ∙ ap memory_in e.0))

-- a request that is at its place, or is too early
pub placed_ok : {P Q : Type 0} (classes : Classes) (n : ℕ) (s new : NodeState) (log : List ClientRequest) (sender : Party) (interval place : ℕ) (r : ClientRequest) (after : Option ℕ) →
    log ≡ s.log → eqb interval s.interval ≡ true → is_installed s.status ≡ true → new ≡ record s { log = list_with log place r } →
    (told after ≡ append_at_answer classes log place r) ⊎ ((told after ≡ no_memory) × P × Q) → acks_if n sender new after ≡ replicate classes n s sender interval place r
placed_ok classes n s new log sender interval place r after l a b e w =
    let answer : told after ≡ append_at_answer classes s.log place r = answer_is (told after) (append_at_answer classes log place r) refl w ∙ ap (λ x. append_at_answer classes x place r) l in
    ap (λ z. acks_if n sender z after) (e ∙ ap (λ x. record s { log = list_with x place r }) l)
    ∙ ap (by_answer n sender s r (eqb place (length s.log))) answer ∙ placed classes n s sender interval place r a b

-- a request that may not follow
pub placed_not : {P Q : Type 0} (classes : Classes) (n : ℕ) (s : NodeState) (log : List ClientRequest) (sender : Party) (interval place : ℕ) (r : ClientRequest) (why : LogError) →
    log ≡ s.log → eqb interval s.interval ≡ true → is_installed s.status ≡ true → is_memory why ≡ false →
    (refused_by why ≡ append_at_answer classes log place r) ⊎ ((refused_by why ≡ no_memory) × P × Q) → nothing s ≡ replicate classes n s sender interval place r
placed_not classes n s log sender interval place r why l a b m w =
    let answer : refused_by why ≡ append_at_answer classes s.log place r = answer_is (refused_by why) (append_at_answer classes log place r) m w ∙ ap (λ x. append_at_answer classes x place r) l in
    ap (by_answer n sender s r (eqb place (length s.log))) answer ∙ placed classes n s sender interval place r a b

-- elsewhere nothing happens
pub placed_nowhere : (classes : Classes) (n : ℕ) (s : NodeState) (sender : Party) (interval place : ℕ) (r : ClientRequest) → (eqb interval s.interval && is_installed s.status) ≡ false →
    nothing s ≡ replicate classes n s sender interval place r
placed_nowhere classes n s sender interval place r a =
    let rule : Outcome = ruled n sender s r (nat_lt place (length s.log)) (eqb place (length s.log)) (refusal classes s.log r) in
    sym (ap (λ x. cond x rule (nothing s)) a)
