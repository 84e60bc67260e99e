-- An Install, after the move is decided.
use Rattle.std.proofs.Common.{◌≡◌, ℕ, ◌≤◌, ◌&&◌, ◌||◌, eqb, nat_lt, length, arith, Bool, true, false, cond, List, [], ◌∷◌, ◌++◌, Option, Some, None, ap, sym, ◌∙◌, refl, subst}
use Rattle.std.specs.Option.{unwrap_or}
use Rattle.std.proofs.lemmas.Bool.{false≢true}
use Rattle.std.proofs.lemmas.Bool.Decides.{nat_tests}
use Rattle.placement.specs.Placement.{has}
use Rattle.peering.proofs.Keeping.{either}
use Rattle.pg_log.specs.Requests.{ClientRequest}
use Rattle.pg_log.specs.Log.{Classes}
use Rattle.pg_log.specs.declared.log_error.LogError.{LogError}
use Rattle.pg_log.specs.Refusals.{first_refusal}
use Rattle.pg_log.specs.Adopting.{IsCommonBeginning, rest_refusal, RestRefuses, Refused, Short, AdoptRefuses}
use Rattle.pg_log.specs.Laws.{AdoptingIsReplaying}
use Rattle.pg_log.specs.Log.{Legal}
use Rattle.group_world.specs.Maps.{GroupMap, is_primary}
use Rattle.group_world.specs.Node.{NodeState, Outcome, nothing, and_sends, to_all, packet, is_waiting, is_installed}
use Rattle.group_world.specs.Rules.{is_usable, says_installed, install_after, arrive, move_to, lead, adopt, at_map, would_forget}
use Rattle.group_world.specs.declared.status.Status.{Status}
use Rattle.group_world.specs.declared.status.Status.TheVariants.{Out, Waiting, Installed, Asking, Installing, Active}
use Rattle.group_world.specs.declared.party.Party.{Party}
use Rattle.group_world.specs.declared.message.MessageKind.TheVariants.{Query, Log as LogOf, Installed as InstalledIn}
use Rattle.group_world.specs.declared.message.Packet.{Packet}
use Rattle.group_world.specs.declared.handle_error.HandleError.{HandleError}
use Rattle.peering.specs.declared.node.arrival.Arrival.{Arrival}
use Rattle.peering.specs.inner.Arriving.{after_move, interval_after, log_after, Makes, install_first, install_again, is_memory}

pub waits : (st : Status) → is_waiting st ≡ true → st ≡ Waiting
waits Waiting h = refl
waits Out h = absurd (false≢true h)
waits Installed h = absurd (false≢true h)
waits Asking h = absurd (false≢true h)
waits Installing h = absurd (false≢true h)
waits Active h = absurd (false≢true h)

-- the outcome of an Install that the node doesn't ignore, if o is the outcome of the move
abbrev pub install_at : Classes → ℕ → NodeState → Party → List ClientRequest → Outcome → Outcome
install_at classes n s sender list o = cond (is_usable classes s list) (install_after n sender list o) (nothing s)

-- for a node that waits
abbrev taken : Classes → ℕ → NodeState → Party → List ClientRequest → NodeState → List Packet → Outcome
taken classes n s sender list node sent =
    cond (is_usable classes s list) (and_sends (record { node = record node { status = Installed; log = list }; sent = sent; refusal = None }) (says_installed n sender node)) (nothing s)

-- and for one that doesn't
abbrev said : ℕ → Party → NodeState → List Packet → Option HandleError → Outcome
said n sender node sent refusal =
    cond (is_installed node.status) (record { node = node; sent = sent ++ says_installed n sender node ∷ []; refusal = None }) (record { node = node; sent = sent; refusal = refusal })

after_waiting : (classes : Classes) (n : ℕ) (s : NodeState) (sender : Party) (list : List ClientRequest) (o : Outcome) → is_waiting o.node.status ≡ true →
    install_at classes n s sender list o ≡ taken classes n s sender list o.node o.sent
after_waiting classes n s sender list o h =
    ap (λ b. cond (is_usable classes s list) (cond b (and_sends (record { node = record (o.node) { status = Installed; log = list }; sent = o.sent; refusal = None }) (says_installed n sender o.node))
    (said n sender o.node o.sent o.refusal)) (nothing s)) h

after_other : (classes : Classes) (n : ℕ) (s : NodeState) (sender : Party) (list : List ClientRequest) (o : Outcome) → is_usable classes s list ≡ true → is_waiting o.node.status ≡ false →
    install_at classes n s sender list o ≡ said n sender o.node o.sent o.refusal
after_other classes n s sender list o u h =
    ap (λ b. cond b (install_after n sender list o) (nothing s)) u
    ∙ ap (λ b. cond b (and_sends (record { node = record (o.node) { status = Installed; log = list }; sent = o.sent; refusal = None }) (says_installed n sender o.node))
    (said n sender o.node o.sent o.refusal)) h

-- install_first of an arrival by its parts
abbrev first_by : Classes → ℕ → NodeState → Party → GroupMap → List ClientRequest → Option Status → List ℕ → List Packet → Outcome
first_by classes n s sender m list status joined sent =
    cond (is_usable classes s list) (record {
      node = record (after_move (record s { log = list }) m status joined) { status = Installed };
      sent = sent ++ packet n sender (InstalledIn (interval_after s m status)) ∷ [];
      refusal = None;
    }) (nothing s)

first_is : (classes : Classes) (n : ℕ) (s : NodeState) (sender : Party) (m : GroupMap) (list : List ClientRequest) (status : Option Status) (joined : List ℕ) (sent : List Packet) →
    unwrap_or status s.status ≡ Waiting →
    first_by classes n s sender m list status joined sent ≡ taken classes n s sender list (after_move s m status joined) sent
first_is classes n s sender m list None joined sent h = refl
first_is classes n s sender m list (Some st) joined sent h =
    let P : Status → Type 0 = λ w. first_by classes n s sender m list (Some w) joined sent ≡ taken classes n s sender list (after_move s m (Some w) joined) sent in
    subst P (sym h) refl

-- and install_again
abbrev again_by : ℕ → NodeState → Party → GroupMap → Option Status → List ℕ → List Packet → Outcome
again_by n s sender m status joined sent =
    cond (is_installed (unwrap_or status s.status))
    (record { node = after_move s m status joined; sent = sent ++ packet n sender (InstalledIn (interval_after s m status)) ∷ []; refusal = None })
    (record { node = after_move s m status joined; sent = sent; refusal = None })

waiting_is : (s : NodeState) (m : GroupMap) (status : Option Status) (joined : List ℕ) → (after_move s m status joined).status ≡ unwrap_or status s.status
waiting_is s m None joined = refl
waiting_is s m (Some st) joined = refl

-- the first Install: the node waits
pub first_install : (classes : Classes) (n : ℕ) (s : NodeState) (sender : Party) (m : GroupMap) (list : List ClientRequest) (a : Arrival) (o : Outcome) →
    Makes s m a o → is_waiting (unwrap_or a.status s.status) ≡ true →
    install_first classes n s sender m list a ≡ install_at classes n s sender list o
first_install classes n s sender m list a o h st =
    let w : is_waiting o.node.status ≡ true = ap (λ x. is_waiting x.status) (sym h.node) ∙ ap is_waiting (waiting_is s m a.status a.joined.items) ∙ st in
    let e : taken classes n s sender list (after_move s m a.status a.joined.items) a.sent.items ≡ taken classes n s sender list o.node o.sent = λ i. taken classes n s sender list (h.node i) (h.sent i) in
    first_is classes n s sender m list a.status a.joined.items a.sent.items (waits _ st) ∙ e ∙ sym (after_waiting classes n s sender list o w)

again_is : (n : ℕ) (s : NodeState) (sender : Party) (m : GroupMap) (status : Option Status) (joined : List ℕ) (sent : List Packet) →
    again_by n s sender m status joined sent ≡ said n sender (after_move s m status joined) sent None
again_is n s sender m None joined sent = refl
again_is n s sender m (Some st) joined sent = refl

-- a further Install: the node doesn't wait
pub other_install : (classes : Classes) (n : ℕ) (s : NodeState) (sender : Party) (m : GroupMap) (list : List ClientRequest) (a : Arrival) (o : Outcome) →
    Makes s m a o → is_usable classes s list ≡ true → is_waiting (unwrap_or a.status s.status) ≡ false →
    install_again n s sender m a ≡ install_at classes n s sender list o
other_install classes n s sender m list a o h u st =
    let w : is_waiting o.node.status ≡ false = ap (λ x. is_waiting x.status) (sym h.node) ∙ ap is_waiting (waiting_is s m a.status a.joined.items) ∙ st in
    let e : said n sender (after_move s m a.status a.joined.items) a.sent.items None ≡ said n sender o.node o.sent o.refusal = λ i. said n sender (h.node i) (h.sent i) (sym h.unrefused i) in
    again_is n s sender m a.status a.joined.items a.sent.items ∙ e ∙ sym (after_other classes n s sender list o u w)

-- if the log becomes the list, the list is legal
pub adopted : AdoptingIsReplaying → (classes : Classes) (own list : List ClientRequest) (k : ℕ) → Legal classes own → IsCommonBeginning own list k →
    rest_refusal classes list k ≡ None → first_refusal classes list ≡ None
adopted law classes own list k l b r = sym (law classes own list k l b).same ∙ r

rest_refused : (classes : Classes) (list : List ClientRequest) (k : ℕ) (e : LogError) → is_memory e ≡ false → RestRefuses classes list k e → rest_refusal classes list k ≡ Some e
rest_refused classes list k e h (Refused r) = r
rest_refused classes list k e h (Short m some) = absurd (false≢true (sym h ∙ ap is_memory m))

-- and if the list is refused, it isn't
pub not_adopted : AdoptingIsReplaying → (classes : Classes) (own list : List ClientRequest) (e : LogError) → Legal classes own → is_memory e ≡ false →
    AdoptRefuses classes own list e → first_refusal classes list ≡ Some e
not_adopted law classes own list e l h a = sym (law classes own list a.0 l a.1).same ∙ rest_refused classes list a.0 e h a.2

log_is : (s : NodeState) (m : GroupMap) (status : Option Status) (joined : List ℕ) → (after_move s m status joined).log ≡ log_after s status
log_is s m None joined = refl
log_is s m (Some st) joined = refl

forgets_not : (n : ℕ) (s : NodeState) (m : GroupMap) → would_forget n s m ≡ false → nat_lt s.interval m.interval ≡ true → is_primary n m ≡ true → eqb m.prev 0 ≡ true → nat_lt 0 s.committed ≡ false
forgets_not n s m h a b e =
    sym (ap (λ x. x && (is_primary n m && (eqb m.prev 0 && nat_lt 0 s.committed))) a ∙ ap (λ x. x && (eqb m.prev 0 && nat_lt 0 s.committed)) b ∙ ap (λ x. x && nat_lt 0 s.committed) e) ∙ h

-- a move keeps the committed length within the log
arrive_within : (n : ℕ) (s : NodeState) (m : GroupMap) → would_forget n s m ≡ false → s.committed ≤ length s.log → s.committed ≤ length (arrive n s m).node.log
arrive_within n s m h l =
    let P : Outcome → Type 0 = λ o. s.committed ≤ length o.node.log in
    either P (nat_lt s.interval m.interval) (move_to n s m) (nothing s)
    (λ a. either P (is_primary n m) (lead n s m) (cond (has n m.acting) (nothing (at_map s m Waiting)) (nothing (at_map s m Out)))
    (λ b. either P (eqb m.prev 0) (adopt n (at_map s m Asking) []) (record { node = at_map s m Asking; sent = to_all n m.prev_acting (Query m); refusal = None })
    (λ e. let z : nat_lt 0 s.committed ≡ false = forgets_not n s m h a b e in grind (arith, nat_tests)) (λ _. l))
    (λ _. either P (has n m.acting) (nothing (at_map s m Waiting)) (nothing (at_map s m Out)) (λ _. l) (λ _. l)))
    (λ _. l)

pub within_after : (n : ℕ) (s : NodeState) (m : GroupMap) (status : Option Status) (joined : List ℕ) → after_move s m status joined ≡ (arrive n s m).node →
    would_forget n s m ≡ false → s.committed ≤ length s.log → s.committed ≤ length (log_after s status)
within_after n s m status joined a h l =
    let P : List ClientRequest → Type 0 = λ w. s.committed ≤ length w in
    subst P (sym (ap (λ x. x.log) a) ∙ log_is s m status joined) (arrive_within n s m h l)

waiting_log : (s : NodeState) (status : Option Status) → unwrap_or status s.status ≡ Waiting → s.log ≡ log_after s status
waiting_log s None h = refl
waiting_log s (Some st) h =
    let P : Status → Type 0 = λ w. s.log ≡ log_after s (Some w) in subst P (sym h) refl

pub waiting_within : (s : NodeState) (status : Option Status) → unwrap_or status s.status ≡ Waiting → s.committed ≤ length s.log → s.committed ≤ length (log_after s status)
waiting_within s status h l =
    let P : List ClientRequest → Type 0 = λ w. s.committed ≤ length w in
    subst P (waiting_log s status h) l

pub or_false : (a b : Bool) → (a || b) ≡ false → b ≡ false
or_false true b h = absurd (false≢true (sym h))
or_false false b h = h

interval_is : (s : NodeState) (m : GroupMap) (status : Option Status) (joined : List ℕ) → (after_move s m status joined).interval ≡ interval_after s m status
interval_is s m None joined = refl
interval_is s m (Some st) joined = refl

-- the list that goes to the asker is the node's after the move
pub answer_is : (n : ℕ) (s : NodeState) (asker : Party) (m : GroupMap) (a : Arrival) (sent : List Packet) (o : Outcome) →
    Makes s m a o → sent ≡ a.sent.items ++ packet n asker (LogOf (interval_after s m a.status) (log_after s a.status)) ∷ [] →
    sent ≡ o.sent ++ packet n asker (LogOf o.node.interval o.node.log) ∷ []
answer_is n s asker m a sent o h q =
    let p = sym (interval_is s m a.status a.joined.items) ∙ ap (λ x. x.interval) h.node in
    let l = sym (log_is s m a.status a.joined.items) ∙ ap (λ x. x.log) h.node in
    q ∙ (λ i. h.sent i ++ packet n asker (LogOf (p i) (l i)) ∷ [])

pub and_true : (a b : Bool) → b ≡ true → a ≡ (a && b)
and_true true b h = sym h
and_true false b h = refl
