-- A world for which the invariant holds is agreed.
use Rattle.std.proofs.Common.{◌≡◌, ℕ, ◌<◌, ◌≤◌, true, List, [], length, take, Some, inl, inr, sym, ◌∙◌, subst, arith}
use Rattle.std.specs.List.{slice_get, Contains, AllByRecursion}
use Rattle.std.proofs.lemmas.List.Elements.{All-from_recursion, All-contains}
use Rattle.std.proofs.lemmas.Option.{slice_get_within}
use mathlib.Core.List.{IsPrefix}
use Rattle.pg_log.specs.Requests.{ClientRequest}
use Rattle.pg_log.specs.Log.{Classes, Legal}
use Rattle.group_world.specs.Node.{NodeState}
use Rattle.group_world.specs.Unanswered.{unanswered}
use Rattle.group_world.specs.World.{World, opening, WorldEvent, run, brought, StandsAt, IsTrueOf, KeepsCommitted, IsAgreed, AllAgree}
use Rattle.group_world.specs.declared.status.Status.{Status}
use Rattle.group_world.specs.declared.status.Status.TheVariants.{Out, Waiting, Installed, Asking, Installing, Active}
use Rattle.group_world.specs.declared.party.Party.{Party}
use Rattle.group_world.specs.declared.message.MessageKind.{MessageKind}
use Rattle.group_world.specs.declared.message.MessageKind.TheVariants.{Query, Log as LogOf, Install, Installed as InstalledIn, AskActivate, Activated, Rep, Ack, Reply as ReplyTo}
use Rattle.group_world.specs.declared.message.Packet.{Packet}
use Rattle.group_world.proofs.Lists.{prefix_nil, slice_get_front}
use Rattle.group_world.proofs.LogFacts.{LogLaws, reply_front}
use Rattle.group_world.proofs.View.{View, first, HeldFrom, Covered, Chosen, Proper, Sound, chosen_covered, first_holds, chosen_in_last}
use Rattle.group_world.proofs.Nodes.{ChosenBefore, CommittedOk, NodeOk, InstallOk, MessageOk, PacketOk}
use Rattle.group_world.proofs.Reach.{Inv, inv_start}
use Rattle.group_world.proofs.Running.{inv_run}

-- what is true of a list is true of each longer one
pub reply_longer : LogLaws → (t : Classes) (xs ys : List ClientRequest) (m : MessageKind) → IsPrefix xs ys → IsTrueOf t xs m → IsTrueOf t ys m
reply_longer w t xs ys (ReplyTo c number k a) p h =
    let st : StandsAt xs c number k = h.0 in
    let g : slice_get ys k ≡ Some st.request = subst (λ z. slice_get z k ≡ Some st.request) p.1 (slice_get_front xs p.0 k st.request st.stands) in
    let lt : k < length xs = slice_get_within xs k st.request st.stands in
    (record { request = st.request; stands = g; of_client = st.of_client; of_number = st.of_number }, reply_front w t xs ys k p lt ∙ h.1)
reply_longer w t xs ys (Query m) p h = tt
reply_longer w t xs ys (LogOf e zs) p h = tt
reply_longer w t xs ys (Install m zs) p h = tt
reply_longer w t xs ys (InstalledIn e) p h = tt
reply_longer w t xs ys (AskActivate e) p h = tt
reply_longer w t xs ys (Activated e) p h = tt
reply_longer w t xs ys (Rep e k r) p h = tt
reply_longer w t xs ys (Ack e k) p h = tt

-- a list that begins with all that is chosen
pub record Whole (past : List WorldEvent) (v : View) : Type 0 where
  pub list : List ClientRequest
  pub is_legal : Legal v.classes list
  pub brought : AllByRecursion (Contains (brought past)) list
  pub all : (a : ℕ) (front : List ClientRequest) → Chosen v a front → IsPrefix front list

pub whole : (past : List WorldEvent) (w : World) → (i : Inv past w) → Whole past i.view
whole past w i = elim i.last_ok [
  | inl z ↦ record {
    list = [];
    is_legal = i.sound.log.empty i.view.classes;
    brought = tt;
    all = λ a front c. absurd (let q : (1 ≤ a) × (a ≤ i.view.newest) = i.sound.active_made a c.active in let l : a ≤ w.monitor.activated.interval = i.last a c.active in omega arith);
  }
  | inr h ↦
      (let top : HeldFrom i.view w.monitor.activated.interval (first i.view w.monitor.activated.interval) [] = first_holds i.view w.monitor.activated.interval i.sound h.0 in
      let pr : Proper i.view top.list = i.sound.proper w.monitor.activated.interval (first i.view w.monitor.activated.interval) top.list top.held in
      record {
        list = top.list;
        is_legal = pr.is_legal;
        brought = subst (λ x. AllByRecursion (Contains x) top.list) i.asked pr.brought;
        all = λ a front c. chosen_in_last i.view a w.monitor.activated.interval front i.sound c h.0 (i.last a c.active);
      })
]

pub committed_in : (past : List WorldEvent) (v : View) (s : NodeState) (st : Status) (h : Whole past v) → CommittedOk v s st → IsPrefix (take s.committed s.log) h.list
committed_in past v s Active h c = h.all s.interval _ c
committed_in past v s Out h c = elim c [ inl z ↦ subst (λ x. IsPrefix x h.list) (sym z) (prefix_nil h.list) | inr p ↦ h.all p.0 _ p.2 ]
committed_in past v s Waiting h c = elim c [ inl z ↦ subst (λ x. IsPrefix x h.list) (sym z) (prefix_nil h.list) | inr p ↦ h.all p.0 _ p.2 ]
committed_in past v s Installed h c = elim c [ inl z ↦ subst (λ x. IsPrefix x h.list) (sym z) (prefix_nil h.list) | inr p ↦ h.all p.0 _ p.2 ]
committed_in past v s Asking h c = elim c [ inl z ↦ subst (λ x. IsPrefix x h.list) (sym z) (prefix_nil h.list) | inr p ↦ h.all p.0 _ p.2 ]
committed_in past v s Installing h c = elim c [ inl z ↦ subst (λ x. IsPrefix x h.list) (sym z) (prefix_nil h.list) | inr p ↦ h.all p.0 _ p.2 ]

pub reply_in : LogLaws → (past : List WorldEvent) (v : View) (from to : Party) (m : MessageKind) (h : Whole past v) → MessageOk v from to m → IsTrueOf v.classes h.list m
reply_in w past v from to (ReplyTo c number k a) h o = reply_longer w v.classes o.list h.list (ReplyTo c number k a) (h.all o.interval o.list o.chosen) o.reply
reply_in w past v from to (Query m) h o = tt
reply_in w past v from to (LogOf e zs) h o = tt
reply_in w past v from to (Install m zs) h o = tt
reply_in w past v from to (InstalledIn e) h o = tt
reply_in w past v from to (AskActivate e) h o = tt
reply_in w past v from to (Activated e) h o = tt
reply_in w past v from to (Rep e k r) h o = tt
reply_in w past v from to (Ack e k) h o = tt

-- a list that is covered below an interval begins with what was chosen before it
pub begun_by : (v : View) (e : ℕ) (front xs : List ClientRequest) → ((a : ℕ) → v.active a ≡ true → a < e → Covered v a xs) → ChosenBefore v e front → IsPrefix front xs
begun_by v e front xs c h = elim h [
  | inl z ↦ subst (λ x. IsPrefix x xs) (sym z) (prefix_nil xs)
  | inr p ↦ (let d : Chosen v p.0 front = p.2 in chosen_covered v p.0 front xs p.2 (c p.0 d.active p.1))
]

pub begun_in : (v : View) (n : ℕ) (s : NodeState) (from to : Party) (m : MessageKind) → Sound v → NodeOk v n s → MessageOk v from to m → KeepsCommitted s m
begun_in v n s from to (LogOf e xs) d k h = λ z y.
    let co : CommittedOk v s Asking = subst (λ st. CommittedOk v s st) y k.committed in
    begun_by v e (take s.committed s.log) xs h.covered (subst (λ x. ChosenBefore v x (take s.committed s.log)) (sym z) co)
begun_in v n s from to (Install m xs) d k h = λ z y.
    let i : InstallOk v m xs = h.0 in
    let co : CommittedOk v s Waiting = subst (λ st. CommittedOk v s st) y k.committed in
    begun_by v m.interval (take s.committed s.log) xs (λ a act lt. subst (λ x. Covered v a x) i.base (d.covered a m.interval i.top.list act lt i.top.held)) (subst (λ x. ChosenBefore v x (take s.committed s.log)) (sym z) co)
begun_in v n s from to (Query m) d k h = tt
begun_in v n s from to (InstalledIn e) d k h = tt
begun_in v n s from to (AskActivate e) d k h = tt
begun_in v n s from to (Activated e) d k h = tt
begun_in v n s from to (Rep e place r) d k h = tt
begun_in v n s from to (Ack e c) d k h = tt
begun_in v n s from to (ReplyTo c number place a) d k h = tt

pub agreed : (past : List WorldEvent) (w : World) → Inv past w → ((n : ℕ) → AllByRecursion (Contains w.sent) (unanswered n (w.nodes n))) → IsAgreed past w
agreed past w i sent =
    let h : Whole past i.view = whole past w i in
    let ok : (p : Packet) → Contains w.sent p → PacketOk i.view p = λ p c. All-contains (PacketOk i.view) w.sent p (All-from_recursion (PacketOk i.view) w.sent i.sent) c in
    record {
      list = h.list;
      legal = subst (λ t. Legal t h.list) i.classes h.is_legal;
      beginnings = λ n. let k : NodeOk i.view n (w.nodes n) = i.nodes n in committed_in past i.view (w.nodes n) (w.nodes n).status h k.committed;
      brought = h.brought;
      replied = λ p c. subst (λ t. IsTrueOf t h.list p.message.kind) i.classes (reply_in i.sound.log past i.view p.message.sender p.receiver p.message.kind h (ok p c));
      resent = sent;
      kept = λ n p c. begun_in i.view n (w.nodes n) p.message.sender p.receiver p.message.kind i.sound (i.nodes n) (ok p c);
    }

pub all_agreed : LogLaws → ((cl : Classes) (es : List WorldEvent) (n : ℕ) → AllByRecursion (Contains (run es (opening cl)).sent) (unanswered n ((run es (opening cl)).nodes n))) → AllAgree
all_agreed g sent cl es = agreed es (run es (opening cl)) (inv_run [] es (opening cl) (inv_start g cl)) (sent cl es)
