-- Each Reply that a step sends is true of the node's committed list after it.
use Rattle.std.proofs.Common.{◌≡◌, ℕ, suc, ◌+◌, ◌<◌, ◌≤◌, Bool, ◌&&◌, ◌||◌, not, eqb, ltb, List, [], ◌∷◌, ◌++◌, length, take, drop, max, Option, Some, None, sym, ◌∙◌, refl, ap, arith, append_assoc}
use Rattle.std.specs.Prelude.{is_none}
use Rattle.std.specs.List.{slice_get, AllByRecursion}
use Rattle.std.proofs.lemmas.List.{take-append-drop, length-take-le, length-append}
use Rattle.std.proofs.lemmas.List.Elements.{All-contains, All-from_recursion}
use Rattle.std.proofs.lemmas.Bool.{ltb-true, cond_both}
use mathlib.Core.List.{IsPrefix}
use Rattle.placement.specs.Placement.{has}
use Rattle.pg_log.specs.Requests.{ClientRequest}
use Rattle.pg_log.specs.Log.{Classes}
use Rattle.pg_log.specs.Refusals.{place_of, refusal}
use Rattle.pg_log.specs.declared.log_error.LogError.{LogError}
use Rattle.group_world.specs.Maps.{GroupMap, is_primary, all_among}
use Rattle.group_world.specs.Node.{NodeState, Outcome, committed_list, nothing, packet, to_all, to_others, is_waiting, is_installed, is_asking, is_installing, is_active}
use Rattle.group_world.specs.Rules.{is_usable, ask_if, adopt, at_map, move_to, arrive, would_forget, install_after, note_installed, least_of, commit, replies_from, raised, append_unless, request_at, acknowledge, receive, local_step}
use Rattle.group_world.specs.World.{IsTrueOf}
use Rattle.group_world.specs.Told.{RepliesAreCommitted}
use Rattle.group_world.specs.declared.status.Status.TheVariants.{Asking}
use Rattle.group_world.specs.declared.party.Party.{Party}
use Rattle.group_world.specs.declared.party.Party.TheVariants.{Node as ANode, Monitor as TheMonitor, Client as AClient}
use Rattle.group_world.specs.declared.message.MessageKind.{MessageKind}
use Rattle.group_world.specs.declared.message.MessageKind.TheVariants.{Query, Log as LogOf, Install, Installed as InstalledIn, AskActivate, Activated, Rep, Ack, Reply as ReplyTo}
use Rattle.group_world.specs.declared.message.Packet.{Packet}
use Rattle.group_world.specs.declared.event.Event.{Event}
use Rattle.group_world.specs.declared.event.Event.TheVariants.{Request as ARequest, Map as AMap, Message as AMessage}
use Rattle.group_world.proofs.Lists.{take_prefix}
use Rattle.group_world.proofs.LogFacts.{LogLaws, reply_answer}
use Rattle.group_world.proofs.Leading.{least_of_le, slice_get_mid, slice_get_take}

-- each of these messages is true of a list
abbrev AllTrue : Classes → List ClientRequest → List Packet → Type 0
AllTrue cl xs ps = AllByRecursion (λ p. IsTrueOf cl xs p.message.kind) ps

-- each of these messages is true of every list, as one that is no Reply
abbrev NoReply : Classes → List Packet → Type 0
NoReply cl ps = AllByRecursion (λ p. (xs : List ClientRequest) → IsTrueOf cl xs p.message.kind) ps

-- what a step sends is true of its node's committed list
abbrev TellsTruth : Classes → Outcome → Type 0
TellsTruth cl o = AllTrue cl (committed_list o.node) o.sent

all_true_append : (cl : Classes) (xs : List ClientRequest) (ps qs : List Packet) → AllTrue cl xs ps → AllTrue cl xs qs → AllTrue cl xs (ps ++ qs)
all_true_append cl xs [] qs a b = b
all_true_append cl xs (p ∷ ps) qs a b = (a.0, all_true_append cl xs ps qs a.1 b)

no_reply_append : (cl : Classes) (ps qs : List Packet) → NoReply cl ps → NoReply cl qs → NoReply cl (ps ++ qs)
no_reply_append cl [] qs a b = b
no_reply_append cl (p ∷ ps) qs a b = (a.0, no_reply_append cl ps qs a.1 b)

no_reply_true : (cl : Classes) (xs : List ClientRequest) (ps : List Packet) → NoReply cl ps → AllTrue cl xs ps
no_reply_true cl xs [] h = tt
no_reply_true cl xs (p ∷ ps) h = (h.0 xs, no_reply_true cl xs ps h.1)

to_all_no_reply : (cl : Classes) (n : ℕ) (ns : List ℕ) (m : MessageKind) → ((xs : List ClientRequest) → IsTrueOf cl xs m) → NoReply cl (to_all n ns m)
to_all_no_reply cl n [] m h = tt
to_all_no_reply cl n (k ∷ ks) m h = (h, to_all_no_reply cl n ks m h)

to_others_no_reply : (cl : Classes) (n : ℕ) (ns : List ℕ) (m : MessageKind) → ((xs : List ClientRequest) → IsTrueOf cl xs m) → NoReply cl (to_others n ns m)
to_others_no_reply cl n [] m h = tt
to_others_no_reply cl n (k ∷ ks) m h =
    let rest : NoReply cl (to_others n ks m) = to_others_no_reply cl n ks m h in
    cond_both (eqb k n) (to_others n ks m) (packet n (ANode k) m ∷ to_others n ks m) (NoReply cl) (λ t. rest) (λ t. (h, rest))

ask_no_reply : (cl : Classes) (n : ℕ) (s : NodeState) (b : Bool) → NoReply cl (ask_if n s b)
ask_no_reply cl n s b = cond_both b (packet n TheMonitor (AskActivate s.interval) ∷ []) [] (NoReply cl) (λ t. ((λ xs. tt), tt)) (λ t. tt)

adopt_no_reply : (cl : Classes) (n : ℕ) (s : NodeState) (xs : List ClientRequest) → NoReply cl (adopt n s xs).sent
adopt_no_reply cl n s xs =
    no_reply_append cl (to_others n s.members.acting (Install s.members xs)) (ask_if n s (all_among s.members.acting (n ∷ [])))
    (to_others_no_reply cl n s.members.acting (Install s.members xs) (λ ys. tt)) (ask_no_reply cl n s (all_among s.members.acting (n ∷ [])))

move_no_reply : (cl : Classes) (n : ℕ) (s : NodeState) (m : GroupMap) → NoReply cl (move_to n s m).sent
move_no_reply cl n s m =
    let P : Outcome → Type 0 = λ o. NoReply cl o.sent in
    cond_both (is_primary n m) _ _ P
    (λ p. cond_both (eqb m.prev 0) _ _ P (λ z. adopt_no_reply cl n (at_map s m Asking) []) (λ z. to_all_no_reply cl n m.prev_acting (Query m) (λ xs. tt)))
    (λ p. cond_both (has n m.acting) _ _ P (λ t. tt) (λ t. tt))

arrive_no_reply : (cl : Classes) (n : ℕ) (s : NodeState) (m : GroupMap) → NoReply cl (arrive n s m).sent
arrive_no_reply cl n s m = cond_both (ltb s.interval m.interval) (move_to n s m) (nothing s) (λ (o : Outcome). NoReply cl o.sent) (λ t. move_no_reply cl n s m) (λ t. tt)

-- the replies to these requests, which are at the end of a beginning of the log
replies_true : LogLaws → (cl : Classes) (n : ℕ) (log front before rest : List ClientRequest) (k : ℕ) → IsPrefix front log → k ≡ length before → front ≡ before ++ rest
    → AllTrue cl front (replies_from cl n log k rest)
replies_true w cl n log front before [] k p ke fe = tt
replies_true w cl n log front before (r ∷ rs) k p ke fe =
    let at : slice_get front k ≡ Some r = ap (λ x. slice_get x k) fe ∙ ap (slice_get (before ++ r ∷ rs)) ke ∙ slice_get_mid before rs r in
    let len : length front ≡ length before + length (r ∷ rs) = ap length fe ∙ length-append before (r ∷ rs) in
    let lt : k < length front = omega arith in
    let l1 : length (before ++ r ∷ []) ≡ length before + 1 = length-append before (r ∷ []) in (
      (record { request = r; stands = at; of_client = refl; of_number = refl }, reply_answer w cl front log k p lt),
      replies_true w cl n log front (before ++ r ∷ []) rs (suc k) p (omega arith) (fe ∙ sym (append_assoc before (r ∷ []) rs)),
    )

commit_true : LogLaws → (cl : Classes) (n : ℕ) (s : NodeState) → s.committed ≤ length s.log → TellsTruth cl (commit cl n s)
commit_true w cl n s within =
    let point : ℕ = max s.committed (least_of (length s.log) s.acked) in
    let front : List ClientRequest = take (max s.committed (least_of (length s.log) s.acked)) s.log in
    let l : least_of (length s.log) s.acked ≤ length s.log = least_of_le (length s.log) s.acked in
    let below : max s.committed (least_of (length s.log) s.acked) ≤ length s.log = omega arith in
    let long : length (take (max s.committed (least_of (length s.log) s.acked)) s.log) ≡ max s.committed (least_of (length s.log) s.acked) = length-take-le _ s.log below in
    let old : s.committed ≤ length (take (max s.committed (least_of (length s.log) s.acked)) s.log) = omega arith in
    replies_true w cl n s.log front (take s.committed front) (drop s.committed front) s.committed (take_prefix _ s.log) (sym (length-take-le s.committed front old)) (sym (take-append-drop s.committed front))

unless_true : LogLaws → (cl : Classes) (n : ℕ) (s : NodeState) (r : ClientRequest) (o : Option LogError) → s.committed ≤ length s.log → TellsTruth cl (append_unless cl n s r o)
unless_true w cl n s r None within =
    let t : NodeState = record s { log = s.log ++ r ∷ []; acked = raised n (length (s.log ++ r ∷ [])) s.members.acting s.acked } in
    let more : length (s.log ++ r ∷ []) ≡ length s.log + 1 = length-append s.log (r ∷ []) in
    all_true_append cl (committed_list (commit cl n t).node) (to_others n s.members.acting (Rep s.interval (length s.log) r)) (commit cl n t).sent
    (no_reply_true cl (committed_list (commit cl n t).node) _ (to_others_no_reply cl n s.members.acting (Rep s.interval (length s.log) r) (λ xs. tt)))
    (commit_true w cl n t (omega arith))
unless_true w cl n s r (Some why) within = tt

request_true : LogLaws → (cl : Classes) (n : ℕ) (s : NodeState) (r : ClientRequest) (o : Option ℕ) → s.committed ≤ length s.log → place_of r.client r.number s.log ≡ o → TellsTruth cl (request_at cl n s r o)
request_true w cl n s r (Some k) within e = cond_both (ltb k s.committed) _ _ (TellsTruth cl)
    (λ t.
    let lt : k < s.committed = ltb-true k s.committed t in
    let g = w.pairs s.log r.client r.number k e in
    let ll : length (take s.committed s.log) ≡ s.committed = length-take-le s.committed s.log within in
    let here : k < length (take s.committed s.log) = omega arith in (
      (
        record { request = g.1; stands = slice_get_take s.committed k s.log lt within ∙ g.2; of_client = g.3; of_number = g.4 },
        reply_answer w cl (take s.committed s.log) s.log k (take_prefix s.committed s.log) here,
      ),
      tt,
    ))
    (λ t. tt)
request_true w cl n s r None within e = unless_true w cl n s r (refusal cl s.log r) within

install_true : (cl : Classes) (n : ℕ) (from : Party) (xs : List ClientRequest) (o : Outcome) → NoReply cl o.sent → TellsTruth cl (install_after n from xs o)
install_true cl n from xs o h =
    cond_both (is_waiting o.node.status) _ _ (TellsTruth cl)
    (λ a. all_true_append cl _ o.sent _ (no_reply_true cl _ o.sent h) (tt, tt))
    (λ a. cond_both (is_installed o.node.status) _ _ (TellsTruth cl) (λ b. all_true_append cl _ o.sent _ (no_reply_true cl _ o.sent h) (tt, tt)) (λ b. no_reply_true cl _ o.sent h))

noted_true : (cl : Classes) (n : ℕ) (s : NodeState) (from : Party) (e : ℕ) → TellsTruth cl (note_installed n s from e)
noted_true cl n s (ANode m) e = cond_both ((eqb e s.interval) && (is_installing s.status && (has m s.members.acting && not (has m s.joined)))) _ _ (TellsTruth cl)
    (λ t. no_reply_true cl _ _ (ask_no_reply cl n s (all_among s.members.acting (s.joined ++ m ∷ [])))) (λ t. tt)
noted_true cl n s TheMonitor e = tt
noted_true cl n s (AClient c) e = tt

acknowledged_true : LogLaws → (cl : Classes) (n : ℕ) (s : NodeState) (from : Party) (e k : ℕ) → s.committed ≤ length s.log → TellsTruth cl (acknowledge cl n s from e k)
acknowledged_true w cl n s (ANode m) e k within = cond_both ((eqb e s.interval) && is_active s.status) _ _ (TellsTruth cl)
    (λ t. commit_true w cl n (record s { acked = raised m k s.members.acting s.acked }) within) (λ t. tt)
acknowledged_true w cl n s TheMonitor e k within = tt
acknowledged_true w cl n s (AClient c) e k within = tt

message_true : LogLaws → (cl : Classes) (n : ℕ) (s : NodeState) (from : Party) (m : MessageKind) → s.committed ≤ length s.log → TellsTruth cl (receive cl n s from m)
message_true w cl n s from (Query m) within = cond_both (ltb m.interval s.interval || would_forget n s m) _ _ (TellsTruth cl) (λ t. tt)
    (λ t. all_true_append cl _ (arrive n s m).sent _ (no_reply_true cl _ (arrive n s m).sent (arrive_no_reply cl n s m)) (tt, tt))
message_true w cl n s from (LogOf e xs) within = cond_both ((eqb e s.interval) && (is_asking s.status && is_usable cl s xs)) _ _ (TellsTruth cl)
    (λ t. no_reply_true cl _ (adopt n s xs).sent (adopt_no_reply cl n s xs)) (λ t. tt)
message_true w cl n s from (Install m xs) within = cond_both (ltb m.interval s.interval || would_forget n s m) _ _ (TellsTruth cl) (λ t. tt)
    (λ t. cond_both (is_usable cl s xs) _ _ (TellsTruth cl) (λ u. install_true cl n from xs (arrive n s m) (arrive_no_reply cl n s m)) (λ u. tt))
message_true w cl n s from (InstalledIn e) within = noted_true cl n s from e
message_true w cl n s from (AskActivate e) within = tt
message_true w cl n s from (Activated e) within = cond_both ((eqb e s.interval) && is_installing s.status) _ _ (TellsTruth cl) (λ t. tt) (λ t. tt)
message_true w cl n s from (Rep e k r) within = cond_both ((eqb e s.interval) && is_installed s.status) _ _ (TellsTruth cl)
    (λ t. cond_both (ltb k (length s.log)) _ _ (TellsTruth cl) (λ a. (tt, tt))
    (λ a. cond_both ((eqb k (length s.log)) && is_none (refusal cl s.log r)) _ _ (TellsTruth cl) (λ u. (tt, tt)) (λ u. tt)))
    (λ t. tt)
message_true w cl n s from (Ack e k) within = acknowledged_true w cl n s from e k within
message_true w cl n s from (ReplyTo c number k a) within = tt

step_true : LogLaws → (cl : Classes) (n : ℕ) (s : NodeState) (event : Event) → s.committed ≤ length s.log → TellsTruth cl (local_step cl n s event)
step_true w cl n s (ARequest r) within = cond_both (is_active s.status) _ _ (TellsTruth cl) (λ t. request_true w cl n s r (place_of r.client r.number s.log) within refl)
    (λ t. cond_both (is_asking s.status || is_installing s.status) _ _ (TellsTruth cl) (λ y. tt) (λ y. tt))
step_true w cl n s (AMap m) within = cond_both (would_forget n s m) _ _ (TellsTruth cl) (λ t. tt) (λ t. no_reply_true cl _ (arrive n s m).sent (arrive_no_reply cl n s m))
step_true w cl n s (AMessage m) within = message_true w cl n s m.sender m.kind within

pub all_committed : LogLaws → RepliesAreCommitted
all_committed w cl n s event within p c =
    let P : Packet → Type 0 = λ q. IsTrueOf cl (committed_list (local_step cl n s event).node) q.message.kind in
    All-contains P (local_step cl n s event).sent p (All-from_recursion P (local_step cl n s event).sent (step_true w cl n s event within)) c
