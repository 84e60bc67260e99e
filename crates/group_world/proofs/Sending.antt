-- After each event of a node, its unanswered messages were sent before.
use Rattle.std.proofs.Common.{◌≡◌, ℕ, zero, suc, ◌<◌, ◌≤◌, Bool, true, ◌&&◌, ◌||◌, not, eqb, ltb, List, [], ◌∷◌, ◌++◌, length, Option, Some, None, ◌⊎◌, inl, inr, sym, ◌∙◌, refl, ap, subst, arith, max, append_assoc}
use Rattle.std.specs.Prelude.{is_none}
use Rattle.std.specs.List.{slice_get, Contains, AllZip}
use Rattle.std.proofs.lemmas.List.Elements.{Contains-append_left, Contains-append_right}
use Rattle.std.proofs.lemmas.Option.{none-some, same_Some, slice_get_within}
use Rattle.std.proofs.lemmas.Bool.{cond-true, eqb-true, and_parts, cond_both, false≢true}
use Rattle.placement.specs.Placement.{has}
use Rattle.pg_log.specs.Requests.{ClientRequest}
use Rattle.pg_log.specs.Log.{Classes}
use Rattle.pg_log.specs.Refusals.{place_of, refusal}
use Rattle.pg_log.specs.declared.log_error.LogError.{LogError}
use Rattle.group_world.specs.Maps.{GroupMap, is_primary, all_among}
use Rattle.group_world.specs.Node.{NodeState, Outcome, nothing, and_sends, packet, to_all, to_others, is_waiting, is_installed, is_asking, is_installing, is_active}
use Rattle.group_world.specs.Rules.{is_usable, ask_if, adopt, at_map, move_to, arrive, would_forget, note_installed, each_at, commit, raised, append_new, append_unless, request_at, request, acknowledge, receive, local_step}
use Rattle.group_world.specs.declared.status.Status.{Status}
use Rattle.group_world.specs.declared.status.Status.TheVariants.{Out, Waiting, Installed, Asking, Installing, Active}
use Rattle.group_world.specs.declared.party.Party.{Party}
use Rattle.group_world.specs.declared.party.Party.TheVariants.{Node as ANode, Monitor as TheMonitor, Client as AClient}
use Rattle.group_world.specs.declared.message.MessageKind.{MessageKind}
use Rattle.group_world.specs.declared.message.MessageKind.TheVariants.{Query, Log as LogOf, Install, Installed as InstalledIn, AskActivate, Activated, Rep, Ack, Reply as ReplyTo}
use Rattle.group_world.specs.declared.message.Packet.{Packet}
use Rattle.group_world.specs.declared.event.Event.{Event}
use Rattle.group_world.specs.declared.event.Event.TheVariants.{Request as ARequest, Map as AMap, Message as AMessage}
use Rattle.group_world.proofs.Lists.{has_head, has_tail, has_cases}
use Rattle.group_world.proofs.Steps.{installed_is, installing_is, active_is}

pub contains_here : (p : Packet) (ps : List Packet) → Contains (p ∷ ps) p
contains_here p ps = (0, omega arith, refl)

pub contains_there : (q p : Packet) (ps : List Packet) → Contains ps p → Contains (q ∷ ps) p
contains_there q p ps c = (suc c.0, (let l : c.0 < length ps = c.1 in omega arith), c.2)

pub to_others_sent : (n k : ℕ) (ns : List ℕ) (m : MessageKind) → has k ns ≡ true → (k ≡ n → ⊥) → Contains (to_others n ns m) (packet n (ANode k) m)
to_others_sent n k [] m h ne = absurd (false≢true h)
to_others_sent n k (j ∷ js) m h ne =
    cond_both (eqb j n) (to_others n js m) (packet n (ANode j) m ∷ to_others n js m) (λ (ps : List Packet). Contains ps (packet n (ANode k) m))
    (λ e. elim (has_cases k j js h) [ inl z ↦ absurd (ne (sym z ∙ eqb-true j n e)) | inr z ↦ to_others_sent n k js m z ne ])
    (λ e. elim (has_cases k j js h) [
      | inl z ↦ subst (λ x. Contains (packet n (ANode j) m ∷ to_others n js m) (packet n (ANode x) m)) z (contains_here (packet n (ANode j) m) (to_others n js m))
      | inr z ↦ contains_there _ _ _ (to_others_sent n k js m z ne)
    ])

pub to_all_sent : (n k : ℕ) (ns : List ℕ) (m : MessageKind) → has k ns ≡ true → Contains (to_all n ns m) (packet n (ANode k) m)
to_all_sent n k [] m h = absurd (false≢true h)
to_all_sent n k (j ∷ js) m h =
    elim (has_cases k j js h) [
      | inl z ↦ subst (λ x. Contains (packet n (ANode j) m ∷ to_all n js m) (packet n (ANode x) m)) z (contains_here (packet n (ANode j) m) (to_all n js m))
      | inr z ↦ contains_there _ _ _ (to_all_sent n k js m z)
    ]

-- what a member has not acknowledged was sent to it
abbrev pub RepsSent : List Packet → ℕ → ℕ → List ClientRequest → ℕ → ℕ → Type 0
RepsSent sent n interval log k a = (k ≡ n → ⊥) → (place : ℕ) (r : ClientRequest) → a ≤ place → slice_get log place ≡ Some r → Contains sent (packet n (ANode k) (Rep interval place r))

abbrev pub SentOk : List Packet → ℕ → NodeState → Status → Type 0
SentOk sent n s Out = Unit {0}
SentOk sent n s Waiting = Unit {0}
SentOk sent n s Installed = Unit {0}
SentOk sent n s Asking = (k : ℕ) → has k s.members.prev_acting ≡ true → Contains sent (packet n (ANode k) (Query s.members))
SentOk sent n s Installing = ((k : ℕ) → has k s.members.acting ≡ true → (k ≡ n → ⊥) → Contains sent (packet n (ANode k) (Install s.members s.log)))
    × (all_among s.members.acting s.joined ≡ true → Contains sent (packet n TheMonitor (AskActivate s.interval)))
SentOk sent n s Active = AllZip (RepsSent sent n s.interval s.log) s.members.acting s.acked

pub reps_more : (sent more : List Packet) (n interval : ℕ) (log : List ClientRequest) (ns ks : List ℕ) → AllZip (RepsSent sent n interval log) ns ks → AllZip (RepsSent (sent ++ more) n interval log) ns ks
reps_more sent more n interval log [] [] h = h
reps_more sent more n interval log [] (k ∷ ks) h = h
reps_more sent more n interval log (m ∷ ms) [] h = h
reps_more sent more n interval log (m ∷ ms) (k ∷ ks) h = ((λ ne place r l e. Contains-append_left sent more _ (h.0 ne place r l e)), reps_more sent more n interval log ms ks h.1)

pub sent_more : (sent more : List Packet) (n : ℕ) (s : NodeState) (st : Status) → SentOk sent n s st → SentOk (sent ++ more) n s st
sent_more sent more n s Out h = tt
sent_more sent more n s Waiting h = tt
sent_more sent more n s Installed h = tt
sent_more sent more n s Asking h = λ k a. Contains-append_left sent more _ (h k a)
sent_more sent more n s Installing h = ((λ k a ne. Contains-append_left sent more _ (h.0 k a ne)), (λ a. Contains-append_left sent more _ (h.1 a)))
sent_more sent more n s Active h = reps_more sent more n s.interval s.log s.members.acting s.acked h

abbrev pub Resends : List Packet → ℕ → Outcome → Type 0
Resends sent n o = SentOk (sent ++ o.sent) n o.node o.node.status

pub resends_adopt : (sent : List Packet) (n : ℕ) (s : NodeState) (xs : List ClientRequest) → Resends sent n (adopt n s xs)
resends_adopt sent n s xs = (
  (λ k a ne. Contains-append_right sent _ _ (Contains-append_left (to_others n s.members.acting (Install s.members xs)) _ _ (to_others_sent n k s.members.acting (Install s.members xs) a ne))),
  (λ a. Contains-append_right sent _ _ (Contains-append_right (to_others n s.members.acting (Install s.members xs)) _ _
      (subst (λ (ps : List Packet). Contains ps (packet n TheMonitor (AskActivate s.interval))) (sym (cond-true (all_among s.members.acting (n ∷ [])) (packet n TheMonitor (AskActivate s.interval) ∷ []) [] a))
      (contains_here (packet n TheMonitor (AskActivate s.interval)) [])))),
)

pub resends_move : (sent : List Packet) (n : ℕ) (s : NodeState) (m : GroupMap) → Resends sent n (move_to n s m)
resends_move sent n s m =
    cond_both (is_primary n m) _ _ (λ (o : Outcome). Resends sent n o)
    (λ p. cond_both (eqb m.prev 0) _ _ (λ (o : Outcome). Resends sent n o)
    (λ z. resends_adopt sent n (at_map s m Asking) [])
    (λ z k a. Contains-append_right sent (to_all n m.prev_acting (Query m)) _ (to_all_sent n k m.prev_acting (Query m) a)))
    (λ p. cond_both (has n m.acting) _ _ (λ (o : Outcome). Resends sent n o) (λ t. tt) (λ t. tt))

pub resends_nothing : (sent : List Packet) (n : ℕ) (s : NodeState) → SentOk sent n s s.status → Resends sent n (nothing s)
resends_nothing sent n s h = sent_more sent [] n s s.status h

pub resends_arrive : (sent : List Packet) (n : ℕ) (s : NodeState) (m : GroupMap) → SentOk sent n s s.status → Resends sent n (arrive n s m)
resends_arrive sent n s m h = cond_both (ltb s.interval m.interval) _ (nothing s) (λ (o : Outcome). Resends sent n o) (λ t. resends_move sent n s m) (λ t. resends_nothing sent n s h)

pub resends_and : (sent : List Packet) (n : ℕ) (o : Outcome) (p : Packet) → Resends sent n o → Resends sent n (and_sends o p)
resends_and sent n o p h = subst (λ (ps : List Packet). SentOk ps n o.node o.node.status) (append_assoc sent o.sent (p ∷ [])) (sent_more (sent ++ o.sent) (p ∷ []) n o.node o.node.status h)

pub raise_sent : (sent : List Packet) (n interval m c : ℕ) (log : List ClientRequest) (ns ks : List ℕ) → AllZip (RepsSent sent n interval log) ns ks → AllZip (RepsSent sent n interval log) ns (raised m c ns ks)
raise_sent sent n interval m c log [] [] h = h
raise_sent sent n interval m c log [] (k ∷ ks) h = h
raise_sent sent n interval m c log (j ∷ js) [] h = h
raise_sent sent n interval m c log (j ∷ js) (k ∷ ks) h =
    (cond_both (eqb j m) (max k c) k (RepsSent sent n interval log j) (λ z ne place r l e. h.0 ne place r (omega arith) e) (λ z. h.0), raise_sent sent n interval m c log js ks h.1)

pub each_sent : (sent : List Packet) (n interval : ℕ) (log : List ClientRequest) (ns : List ℕ) → AllZip (RepsSent sent n interval log) ns (each_at ns (length log))
each_sent sent n interval log [] = tt
each_sent sent n interval log (j ∷ js) = ((λ ne place r l e. absurd (let g : place < length log = slice_get_within log place r e in omega arith)), each_sent sent n interval log js)

pub slice_get_last : (xs : List ClientRequest) (y r : ClientRequest) (k : ℕ) → slice_get (xs ++ y ∷ []) k ≡ Some r → (slice_get xs k ≡ Some r) ⊎ ((k ≡ length xs) × (y ≡ r))
slice_get_last [] y r zero h = inr (refl, same_Some _ _ h)
slice_get_last [] y r (suc k) h = absurd (none-some r h)
slice_get_last (x ∷ xs) y r zero h = inl h
slice_get_last (x ∷ xs) y r (suc k) h = elim (slice_get_last xs y r k h) [ inl p ↦ inl p | inr p ↦ inr (ap suc p.0, p.1) ]

pub append_sent : (sent more : List Packet) (n interval : ℕ) (log : List ClientRequest) (r : ClientRequest) (ns ks : List ℕ)
    → ((k : ℕ) → has k ns ≡ true → (k ≡ n → ⊥) → Contains more (packet n (ANode k) (Rep interval (length log) r)))
    → AllZip (RepsSent sent n interval log) ns ks → AllZip (RepsSent (sent ++ more) n interval (log ++ r ∷ [])) ns ks
append_sent sent more n interval log r [] [] g h = h
append_sent sent more n interval log r [] (k ∷ ks) g h = h
append_sent sent more n interval log r (j ∷ js) [] g h = h
append_sent sent more n interval log r (j ∷ js) (k ∷ ks) g h = (
  (λ ne place x l e. elim (slice_get_last log r x place e) [
    | inl p ↦ Contains-append_left sent more _ (h.0 ne place x l p)
    | inr p ↦ Contains-append_right sent more _ (subst (λ (q : Packet). Contains more q) (λ i. packet n (ANode j) (Rep interval (sym p.0 i) (p.1 i))) (g j (has_head j js) ne))
  ]),
  append_sent sent more n interval log r js ks (λ i a ne. g i (has_tail i j js a) ne) h.1,
)

pub resends_append : (cl : Classes) (sent : List Packet) (n : ℕ) (s : NodeState) (r : ClientRequest) → s.status ≡ Active → SentOk sent n s s.status → Resends sent n (append_new cl n s r)
resends_append cl sent n s r z h =
    let a : SentOk sent n s Active = subst (SentOk sent n s) z h in
    let s1 : NodeState = record s { log = s.log ++ r ∷ []; acked = raised n (length (s.log ++ r ∷ [])) s.members.acting s.acked } in
    let o1 : Outcome = commit cl n (record s { log = s.log ++ r ∷ []; acked = raised n (length (s.log ++ r ∷ [])) s.members.acting s.acked }) in
    let more : List Packet = to_others n s.members.acting (Rep s.interval (length s.log) r) ++ o1.sent in
    let b : AllZip (RepsSent (sent ++ more) n s.interval (s.log ++ r ∷ [])) s.members.acting (raised n (length (s.log ++ r ∷ [])) s.members.acting s.acked) =
    raise_sent (sent ++ more) n s.interval n (length (s.log ++ r ∷ [])) (s.log ++ r ∷ []) s.members.acting s.acked
    (append_sent sent more n s.interval s.log r s.members.acting s.acked
    (λ k c ne. Contains-append_left (to_others n s.members.acting (Rep s.interval (length s.log) r)) o1.sent _ (to_others_sent n k s.members.acting (Rep s.interval (length s.log) r) c ne)) a) in
    subst (λ st. SentOk (sent ++ more) n o1.node st) (sym z) b

pub resends_unless : (cl : Classes) (sent : List Packet) (n : ℕ) (s : NodeState) (r : ClientRequest) (o : Option LogError) → s.status ≡ Active → SentOk sent n s s.status → Resends sent n (append_unless cl n s r o)
resends_unless cl sent n s r None z h = resends_append cl sent n s r z h
resends_unless cl sent n s r (Some why) z h = resends_nothing sent n s h

pub resends_request_at : (cl : Classes) (sent : List Packet) (n : ℕ) (s : NodeState) (r : ClientRequest) (o : Option ℕ) → s.status ≡ Active → SentOk sent n s s.status → Resends sent n (request_at cl n s r o)
resends_request_at cl sent n s r (Some k) z h = cond_both (ltb k s.committed) _ _ (λ (o : Outcome). Resends sent n o)
    (λ t. resends_and sent n (nothing s) _ (resends_nothing sent n s h)) (λ t. resends_nothing sent n s h)
resends_request_at cl sent n s r None z h = resends_unless cl sent n s r (refusal cl s.log r) z h

pub resends_request : (cl : Classes) (sent : List Packet) (n : ℕ) (s : NodeState) (r : ClientRequest) → SentOk sent n s s.status → Resends sent n (request cl n s r)
resends_request cl sent n s r h = cond_both (is_active s.status) _ _ (λ (o : Outcome). Resends sent n o)
    (λ t. resends_request_at cl sent n s r (place_of r.client r.number s.log) (active_is s.status t) h)
    (λ t. cond_both (is_asking s.status || is_installing s.status) _ _ (λ (o : Outcome). Resends sent n o) (λ y. resends_nothing sent n s h) (λ y. resends_nothing sent n s h))

pub resends_noted : (sent : List Packet) (n : ℕ) (s : NodeState) (from : Party) (e : ℕ) → SentOk sent n s s.status → Resends sent n (note_installed n s from e)
resends_noted sent n s (ANode m) e h = cond_both ((eqb e s.interval) && (is_installing s.status && (has m s.members.acting && not (has m s.joined)))) _ (nothing s) (λ (o : Outcome). Resends sent n o)
    (λ t.
    let z : s.status ≡ Installing = installing_is s.status (and_parts _ _ (and_parts _ _ t).1).0 in
    let a : SentOk sent n s Installing = subst (SentOk sent n s) z h in
    let all : Bool = all_among s.members.acting (s.joined ++ m ∷ []) in
    subst (λ st. SentOk (sent ++ ask_if n s all) n (record s { joined = s.joined ++ m ∷ [] }) st) (sym z) (
      (λ k b ne. Contains-append_left sent _ _ (a.0 k b ne)),
      (λ b. Contains-append_right sent (ask_if n s all) _
          (subst (λ (ps : List Packet). Contains ps (packet n TheMonitor (AskActivate s.interval))) (sym (cond-true all (packet n TheMonitor (AskActivate s.interval) ∷ []) [] b)) (contains_here (packet n TheMonitor (AskActivate s.interval)) []))),
    ))
    (λ t. resends_nothing sent n s h)
resends_noted sent n s TheMonitor e h = resends_nothing sent n s h
resends_noted sent n s (AClient c) e h = resends_nothing sent n s h

pub resends_acknowledged : (cl : Classes) (sent : List Packet) (n : ℕ) (s : NodeState) (from : Party) (e k : ℕ) → SentOk sent n s s.status → Resends sent n (acknowledge cl n s from e k)
resends_acknowledged cl sent n s (ANode from) e k h = cond_both ((eqb e s.interval) && is_active s.status) _ (nothing s) (λ (o : Outcome). Resends sent n o)
    (λ t.
    let z : s.status ≡ Active = active_is s.status (and_parts _ _ t).1 in
    let a : SentOk sent n s Active = subst (SentOk sent n s) z h in
    let o : Outcome = commit cl n (record s { acked = raised from k s.members.acting s.acked }) in
    subst (λ st. SentOk (sent ++ o.sent) n o.node st) (sym z) (reps_more sent o.sent n s.interval s.log s.members.acting _ (raise_sent sent n s.interval from k s.log s.members.acting s.acked a)))
    (λ t. resends_nothing sent n s h)
resends_acknowledged cl sent n s TheMonitor e k h = resends_nothing sent n s h
resends_acknowledged cl sent n s (AClient c) e k h = resends_nothing sent n s h

pub resends_message : (cl : Classes) (sent : List Packet) (n : ℕ) (s : NodeState) (from : Party) (m : MessageKind) → SentOk sent n s s.status → Resends sent n (receive cl n s from m)
resends_message cl sent n s from (Query m) h = cond_both (ltb m.interval s.interval || would_forget n s m) (nothing s) _ (λ (o : Outcome). Resends sent n o)
    (λ t. resends_nothing sent n s h) (λ t. resends_and sent n (arrive n s m) _ (resends_arrive sent n s m h))
resends_message cl sent n s from (LogOf e xs) h = cond_both ((eqb e s.interval) && (is_asking s.status && is_usable cl s xs)) _ (nothing s) (λ (o : Outcome). Resends sent n o)
    (λ t. resends_adopt sent n s xs) (λ t. resends_nothing sent n s h)
resends_message cl sent n s from (Install m xs) h = cond_both (ltb m.interval s.interval || would_forget n s m) (nothing s) _ (λ (o : Outcome). Resends sent n o)
    (λ t. resends_nothing sent n s h)
    (λ t. cond_both (is_usable cl s xs) _ (nothing s) (λ (o : Outcome). Resends sent n o)
    (λ u. cond_both (is_waiting (arrive n s m).node.status) _ _ (λ (o : Outcome). Resends sent n o) (λ a. tt)
    (λ a. cond_both (is_installed (arrive n s m).node.status) _ (arrive n s m) (λ (o : Outcome). Resends sent n o)
    (λ b. resends_and sent n (arrive n s m) _ (resends_arrive sent n s m h)) (λ b. resends_arrive sent n s m h)))
    (λ u. resends_nothing sent n s h))
resends_message cl sent n s from (InstalledIn e) h = resends_noted sent n s from e h
resends_message cl sent n s from (AskActivate e) h = resends_nothing sent n s h
resends_message cl sent n s from (Activated e) h = cond_both ((eqb e s.interval) && is_installing s.status) _ (nothing s) (λ (o : Outcome). Resends sent n o)
    (λ t. each_sent (sent ++ []) n s.interval s.log s.members.acting) (λ t. resends_nothing sent n s h)
resends_message cl sent n s from (Rep e k r) h = cond_both ((eqb e s.interval) && is_installed s.status) _ (nothing s) (λ (o : Outcome). Resends sent n o)
    (λ t.
    let z : s.status ≡ Installed = installed_is s.status (and_parts _ _ t).1 in
    cond_both (ltb k (length s.log)) _ _ (λ (o : Outcome). Resends sent n o) (λ a. resends_and sent n (nothing s) _ (resends_nothing sent n s h))
    (λ a. cond_both ((eqb k (length s.log)) && is_none (refusal cl s.log r)) _ (nothing s) (λ (o : Outcome). Resends sent n o)
    (λ u. subst (λ st. SentOk (sent ++ packet n from (Ack s.interval (length (s.log ++ r ∷ []))) ∷ []) n (record s { log = s.log ++ r ∷ [] }) st) (sym z) tt) (λ u. resends_nothing sent n s h)))
    (λ t. resends_nothing sent n s h)
resends_message cl sent n s from (Ack e k) h = resends_acknowledged cl sent n s from e k h
resends_message cl sent n s from (ReplyTo c number k a) h = resends_nothing sent n s h

pub resends_local : (cl : Classes) (sent : List Packet) (n : ℕ) (s : NodeState) (e : Event) → SentOk sent n s s.status → Resends sent n (local_step cl n s e)
resends_local cl sent n s (ARequest r) h = resends_request cl sent n s r h
resends_local cl sent n s (AMap m) h = cond_both (would_forget n s m) (nothing s) _ (λ (o : Outcome). Resends sent n o) (λ t. resends_nothing sent n s h) (λ t. resends_arrive sent n s m h)
resends_local cl sent n s (AMessage m) h = resends_message cl sent n s m.sender m.kind h
