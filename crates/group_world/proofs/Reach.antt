-- What holds of every world that a run reaches.
use Rattle.std.proofs.Common.{◌≡◌, ℕ, zero, suc, ◌≤◌, true, false, List, [], ◌∷◌, ◌++◌, Some, None, ◌⊎◌, inl, inr, sym, ◌∙◌, refl, ap, subst, arith, append_assoc}
use Rattle.std.specs.List.{slice_get, AllByRecursion}
use Rattle.std.proofs.lemmas.List.{append-nil}
use Rattle.std.proofs.lemmas.Option.{none-some, same_Some}
use Rattle.std.proofs.lemmas.Bool.{false≢true}
use Rattle.pg_log.specs.Log.{Classes}
use Rattle.group_world.specs.Maps.{GroupMap, no_map}
use Rattle.group_world.specs.Node.{NodeState, Outcome}
use Rattle.group_world.specs.Rules.{receive, local_step}
use Rattle.group_world.specs.World.{World, opening, WorldEvent, at_node, brought_by, brought}
use Rattle.group_world.specs.declared.party.Party.{Party}
use Rattle.group_world.specs.declared.party.Party.TheVariants.{Node as ANode}
use Rattle.group_world.specs.declared.message.MessageKind.{MessageKind}
use Rattle.group_world.specs.declared.message.MessageKind.TheVariants.{Query, Log as LogOf, Install, Installed as InstalledIn, AskActivate, Activated, Rep, Ack, Reply as ReplyTo}
use Rattle.group_world.specs.declared.message.Packet.{Packet}
use Rattle.group_world.specs.declared.event.Event.{Event}
use Rattle.group_world.proofs.Lists.{spot_cases}
use Rattle.group_world.proofs.LogFacts.{LogLaws}
use Rattle.group_world.proofs.View.{View, Sound, Later}
use Rattle.group_world.proofs.Moves.{ask_view, ask_later, ask_sound}
use Rattle.group_world.proofs.Nodes.{MapOk, ActedOk, NodeOk, MessageOk, PacketOk, map_ok_later, acted_ok_later, packets_later, node_later, Kept, kept_nothing}
use Rattle.group_world.proofs.Steps.{all_packets_append}
use Rattle.group_world.proofs.Following.{kept_log, kept_installed, kept_activated, kept_rep}
use Rattle.group_world.proofs.Leading.{kept_ack}
use Rattle.group_world.proofs.Moving.{kept_query}
use Rattle.group_world.proofs.Installing.{kept_install}

pub record Inv (past : List WorldEvent) (w : World) : Type 0 where
  pub view : View
  pub classes : view.classes ≡ w.classes
  pub sound : Sound view
  pub newest : view.newest ≡ w.monitor.newest.interval
  pub bound : w.monitor.newest.interval ≤ w.monitor.newest.epoch
  pub newest_ok : ((w.monitor.newest.acting ≡ []) × (w.monitor.newest.interval ≡ 0)) ⊎ MapOk view w.monitor.newest
  pub maps : (k : ℕ) (m : GroupMap) → slice_get w.maps k ≡ Some m → MapOk view m
  -- the last activated interval
  pub last_ok : (w.monitor.activated.interval ≡ 0) ⊎ ((view.active w.monitor.activated.interval ≡ true) × ActedOk view w.monitor.activated)
  pub last : (a : ℕ) → view.active a ≡ true → a ≤ w.monitor.activated.interval
  pub asked : view.asked ≡ brought past
  pub nodes : (n : ℕ) → NodeOk view n (w.nodes n)
  pub sent : AllByRecursion (PacketOk view) w.sent

-- the view of the opening world
abbrev pub start_view : Classes → View
start_view t = record { classes = t; newest = 0; map_at = λ e. no_map; active = λ a. false; at = λ n. 0; held = λ e n. None; base = λ e. []; asked = [] }

pub start_sound : LogLaws → (t : Classes) → Sound (start_view t)
start_sound g t = record {
  log = g;
  made = λ e one le. absurd (omega arith);
  active_made = λ a h. absurd (false≢true h);
  at_made = λ n. omega arith;
  held_by = λ e n xs h. absurd (none-some xs h);
  held_within = λ e n xs h. absurd (none-some xs h);
  active_held = λ a m h acts. absurd (false≢true h);
  covered = λ a e xs h lt top. absurd (false≢true h);
  proper = λ e n xs h. absurd (none-some xs h);
}

pub inv_start : LogLaws → (t : Classes) → Inv [] (opening t)
inv_start g t = record {
  view = start_view t;
  classes = refl;
  sound = start_sound g t;
  newest = refl;
  bound = omega arith;
  newest_ok = inl (refl, refl);
  maps = λ k m h. absurd (none-some m h);
  last_ok = inl refl;
  last = λ a h. absurd (false≢true h);
  asked = refl;
  nodes = λ n. record {
    at = refl;
    members = λ one. absurd (omega arith);
    status = refl;
    covered = λ a h acts lt. absurd (false≢true h);
    within = omega arith;
    committed = inl refl;
    proper = record { is_legal = g.empty t; brought = tt };
  };
  sent = tt;
}

pub brought_more : (past : List WorldEvent) (e : WorldEvent) → brought (past ++ e ∷ []) ≡ brought past ++ brought_by e
brought_more [] e = append-nil (brought_by e)
brought_more (p ∷ past) e = ap (λ x. brought_by p ++ x) (brought_more past e) ∙ sym (append_assoc (brought_by p) (brought past) (brought_by e))

-- the requests that an event brings are counted before it happens
pub inv_ask : (past : List WorldEvent) (e : WorldEvent) (w : World) → Inv past w → Inv (past ++ e ∷ []) w
inv_ask past e w i =
    let v : View = i.view in
    let u : View = ask_view i.view (brought_by e) in
    let l : Later i.view (ask_view i.view (brought_by e)) = ask_later i.view (brought_by e) in
    record {
      view = ask_view i.view (brought_by e);
      sound = ask_sound i.view (brought_by e) i.sound;
      classes = i.classes;
      newest = i.newest;
      bound = i.bound;
      newest_ok = elim i.newest_ok [ inl z ↦ inl z | inr z ↦ inr (map_ok_later i.view (ask_view i.view (brought_by e)) w.monitor.newest l z) ];
      maps = λ k m h. map_ok_later i.view (ask_view i.view (brought_by e)) m l (i.maps k m h);
      last_ok = elim i.last_ok [ inl z ↦ inl z | inr z ↦ inr (l.active w.monitor.activated.interval z.0, acted_ok_later i.view (ask_view i.view (brought_by e)) w.monitor.activated l z.1) ];
      last = λ a h. i.last a (h);
      asked = ap (λ x. x ++ brought_by e) i.asked ∙ sym (brought_more past e);
      nodes = λ n. node_later i.view (ask_view i.view (brought_by e)) n (w.nodes n) i.sound l refl refl (i.nodes n);
      sent = packets_later i.view (ask_view i.view (brought_by e)) w.sent i.sound l i.sent;
    }

-- a step of one node
pub inv_node : (past : List WorldEvent) (w : World) (n : ℕ) (e : Event) → (i : Inv past w) → Kept i.view n (local_step i.view.classes n (w.nodes n) e) → Inv past (at_node w n e)
inv_node past w n e i g0 =
    let g : Kept i.view n (local_step w.classes n (w.nodes n) e) = subst (λ t. Kept i.view n (local_step t n (w.nodes n) e)) i.classes g0 in
    let o : Outcome = local_step w.classes n (w.nodes n) e in
    record {
      view = g.after;
      sound = g.sound;
      classes = g.later.classes ∙ i.classes;
      newest = g.only.newest ∙ i.newest;
      bound = i.bound;
      newest_ok = elim i.newest_ok [ inl z ↦ inl z | inr z ↦ inr (map_ok_later i.view (g.after) w.monitor.newest g.later z) ];
      maps = λ k m h. map_ok_later i.view (g.after) m g.later (i.maps k m h);
      last_ok = elim i.last_ok [ inl z ↦ inl z | inr z ↦ inr (g.later.active w.monitor.activated.interval z.0, acted_ok_later i.view (g.after) w.monitor.activated g.later z.1) ];
      last = λ a h. i.last a (sym (g.only.active a) ∙ h);
      asked = g.only.asked ∙ i.asked;
      nodes = λ k. elim (spot_cases k n (local_step w.classes n (w.nodes n) e).node (w.nodes k)) [
        | inl p ↦ subst (λ x. NodeOk g.after k x) (sym p.1) (subst (λ x. NodeOk g.after x (local_step w.classes n (w.nodes n) e).node) (sym p.0) g.node)
        | inr p ↦ subst (λ x. NodeOk g.after k x) (sym p.1)
            (node_later i.view g.after k (w.nodes k) i.sound g.later (g.only.at k p.0) (g.only.held (w.nodes k).interval k p.0) (i.nodes k))
      ];
      sent = all_packets_append g.after w.sent (local_step w.classes n (w.nodes n) e).sent (packets_later i.view g.after w.sent i.sound g.later i.sent) g.sent;
    }

pub kept_message : (v : View) (n : ℕ) (s : NodeState) (from : Party) (m : MessageKind) → Sound v → NodeOk v n s → MessageOk v from (ANode n) m → Kept v n (receive v.classes n s from m)
kept_message v n s from (Query m) d k h = kept_query v n s from m d k h.0 h.1.0 h.1.1
kept_message v n s from (LogOf e xs) d k h = kept_log v n s e xs d k h
kept_message v n s from (Install m xs) d k h = kept_install v n s from m xs d k h.0
kept_message v n s from (InstalledIn e) d k h = kept_installed v n s from e d k h
kept_message v n s from (AskActivate e) d k h = kept_nothing v n s d k
kept_message v n s from (Activated e) d k h = kept_activated v n s e d k h
kept_message v n s from (Rep e p r) d k h = kept_rep v n s from e p r d k h
kept_message v n s from (Ack e c) d k h = kept_ack v n s from e c d k h
kept_message v n s from (ReplyTo c number place a) d k h = kept_nothing v n s d k

pub packet_at : (v : View) (ps : List Packet) (k : ℕ) (p : Packet) → AllByRecursion (PacketOk v) ps → slice_get ps k ≡ Some p → PacketOk v p
packet_at v [] k p h e = absurd (none-some p e)
packet_at v (q ∷ ps) zero p h e = subst (λ x. PacketOk v x) (same_Some _ _ e) h.0
packet_at v (q ∷ ps) (suc k) p h e = packet_at v ps k p h.1 e
