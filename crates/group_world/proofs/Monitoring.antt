-- The steps of the monitor.
use Rattle.std.proofs.Common.{◌≡◌, ℕ, zero, suc, ◌<◌, ◌≤◌, Bool, true, false, cond, not, eqb, ltb, leb, List, [], ◌∷◌, ◌++◌, length, Option, Some, None, ◌⊎◌, inl, inr, sym, ◌∙◌, refl, ap, subst, arith}
use Rattle.std.specs.Prelude.{is_none, ◌^◌, ◌-◌}
use Rattle.std.specs.List.{slice_get}
use Rattle.std.proofs.lemmas.Option.{none-some, same_Some}
use Rattle.std.proofs.lemmas.Bool.{cond-true, eq-eqb, eqb-true, and_parts, cond_both, false≢true}
use Rattle.placement.specs.Placement.{has, is_acting}
use Rattle.group_world.specs.Maps.{GroupMap, is_same_list}
use Rattle.group_world.specs.Monitor.{MonitorState, map_refusal, is_newest, activation_refusal, with_activated}
use Rattle.group_world.specs.World.{World, WorldEvent, make_map, activated_for, activate_for}
use Rattle.group_world.specs.declared.party.Party.{Party}
use Rattle.group_world.specs.declared.monitor_error.MonitorError.{MonitorError}
use Rattle.group_world.specs.declared.monitor_error.MonitorError.TheVariants.{BadActing, NotNewest, EpochsUsedUp}
use Rattle.group_world.proofs.Lists.{first_of, has_head, is_same_list_true}
use Rattle.group_world.proofs.View.{View, acting, HeldFrom, Sound, Later}
use Rattle.group_world.proofs.Moves.{map_view, Makes, map_later, map_at_new, map_sound, activate_view, activate_later, activate_sound}
use Rattle.group_world.proofs.Nodes.{MapOk, ActedOk, AllHold, map_ok_later, acted_of_map, acted_ok_later, packets_later, node_later}
use Rattle.group_world.proofs.Steps.{all_packets_append}
use Rattle.group_world.proofs.Reach.{Inv}

-- a request to the monitor that isn't refused meets its conditions
pub none_if : (b : Bool) (x : MonitorError) → is_none (cond b None (Some x)) ≡ true → b ≡ true
none_if true x h = refl
none_if false x h = absurd (false≢true h)

pub some_unless : (b : Bool) (x : MonitorError) (o : Option MonitorError) → is_none (cond (not b) (Some x) o) ≡ true → b ≡ true
some_unless true x o h = refl
some_unless false x o h = absurd (false≢true h)

pub activation_newest : (m : MonitorState) (interval : ℕ) → is_none (activation_refusal m interval) ≡ true → interval ≡ m.newest.interval
activation_newest m interval h =
    let p : (ltb 0 interval ≡ true) × (eqb interval m.newest.interval ≡ true) = and_parts _ _ (none_if (is_newest m interval) NotNewest h) in
    eqb-true _ _ p.1

pub map_acting : (m : MonitorState) (ns : List ℕ) → is_none (map_refusal m ns) ≡ true → is_acting ns ≡ true
map_acting m ns h = some_unless (is_acting ns) BadActing (cond (leb (2 ^ 32 - 1) m.newest.epoch) (Some EpochsUsedUp) None) h

pub inv_activate : (past : List WorldEvent) (w : World) (from : Party) (interval : ℕ) → (i : Inv past w) → AllHold i.view interval → Inv past (activate_for w from interval)
inv_activate past w from interval i h =
    cond_both (is_none (activation_refusal w.monitor interval)) _ w (λ x. Inv past x)
    (λ t.
    let ez : interval ≡ w.monitor.newest.interval = activation_newest w.monitor interval t in
    let nw : i.view.newest ≡ w.monitor.newest.interval = i.newest in
    let en : interval ≡ i.view.newest = omega arith in
    let l : Later i.view (activate_view i.view) = activate_later i.view in
    let one : 1 ≤ interval = h.one in
    let du : Sound (activate_view i.view) = activate_sound i.view i.sound (omega arith)
    (λ m a. subst (λ x. HeldFrom i.view x m []) en (h.all m (ap (λ x. has m (acting i.view x)) en ∙ a))) in
    let now : (activate_view i.view).active interval ≡ true = cond-true (eqb interval i.view.newest) true (i.view.active interval) (eq-eqb _ _ en) in
    let ok : MapOk i.view w.monitor.newest = elim i.newest_ok [
      | inl z ↦ absurd (let y : w.monitor.newest.interval ≡ 0 = z.1 in omega arith)
      | inr z ↦ z
    ] in
    let r : Inv past (record {
      classes = w.classes;
      maps = w.maps;
      monitor = with_activated w.monitor;
      nodes = w.nodes;
      sent = w.sent ++ activated_for from interval ∷ [];
    }) = record {
      view = activate_view i.view;
      sound = du;
      classes = i.classes;
      newest = i.newest;
      bound = i.bound;
      newest_ok = inr (map_ok_later i.view (activate_view i.view) w.monitor.newest l ok);
      maps = λ k m e. map_ok_later i.view (activate_view i.view) m l (i.maps k m e);
      last_ok = inr (ap (activate_view i.view).active (sym ez) ∙ now, acted_of_map (activate_view i.view) w.monitor.newest (map_ok_later i.view (activate_view i.view) w.monitor.newest l ok));
      last = λ a b. elim (l.activated a b) [
        | inl old ↦ (let q : (1 ≤ a) × (a ≤ i.view.newest) = i.sound.active_made a old in omega arith)
        | inr new ↦ (let q : (1 ≤ a) × (a ≤ i.view.newest) = du.active_made a b in omega arith)
      ];
      asked = i.asked;
      nodes = λ n. node_later i.view (activate_view i.view) n (w.nodes n) i.sound l refl refl (i.nodes n);
      sent = all_packets_append (activate_view i.view) w.sent _ (packets_later i.view (activate_view i.view) w.sent i.sound l i.sent) (now, tt);
    } in r)
    (λ t. i)

pub slice_get_push : (ms : List GroupMap) (x : GroupMap) (k : ℕ) (m : GroupMap) → slice_get (ms ++ x ∷ []) k ≡ Some m → (slice_get ms k ≡ Some m) ⊎ ((k ≡ length ms) × (m ≡ x))
slice_get_push [] x zero m h = inr (refl, sym (same_Some _ _ h))
slice_get_push [] x (suc k) m h = absurd (none-some m h)
slice_get_push (y ∷ ms) x zero m h = inl h
slice_get_push (y ∷ ms) x (suc k) m h = elim (slice_get_push ms x k m h) [ inl p ↦ inl p | inr p ↦ inr (ap suc p.0, p.1) ]

pub acting_first : (ns : List ℕ) → is_acting ns ≡ true → has (first_of ns) ns ≡ true
acting_first [] h = absurd (false≢true h)
acting_first (n ∷ ns) h = has_head n ns

-- a map that keeps the interval says the same about it as the newest map
pub kept_interval : (v : View) (m : GroupMap) (ns : List ℕ) → m.acting ≡ ns → MapOk v m → MapOk v (record { epoch = suc m.epoch; interval = m.interval; acting = ns; prev = m.prev; prev_acting = m.prev_acting })
kept_interval v m ns e ok = record {
  one = ok.one;
  made = ok.made;
  is = sym (λ i. record { epoch = 0; interval = m.interval; acting = e i; prev = m.prev; prev_acting = m.prev_acting }) ∙ ok.is;
}

-- the world with one more map
abbrev pub world_with : World → GroupMap → World
world_with w m = record { classes = w.classes; maps = w.maps ++ m ∷ []; monitor = record { newest = m; activated = w.monitor.activated }; nodes = w.nodes; sent = w.sent }

pub inv_kept : (past : List WorldEvent) (w : World) (ns : List ℕ) → Inv past w → is_acting ns ≡ true → is_same_list w.monitor.newest.acting ns ≡ true
    → Inv past (world_with w (record { epoch = suc w.monitor.newest.epoch; interval = w.monitor.newest.interval; acting = ns; prev = w.monitor.newest.prev; prev_acting = w.monitor.newest.prev_acting }))
inv_kept past w ns i t y =
    let bd : w.monitor.newest.interval ≤ w.monitor.newest.epoch = i.bound in
    let e : w.monitor.newest.acting ≡ ns = is_same_list_true _ _ y in
    let ok : MapOk i.view (record { epoch = suc w.monitor.newest.epoch; interval = w.monitor.newest.interval; acting = ns; prev = w.monitor.newest.prev; prev_acting = w.monitor.newest.prev_acting }) = elim i.newest_ok [
      | inl z ↦ absurd (false≢true (ap is_acting (sym z.0 ∙ e) ∙ t))
      | inr z ↦ kept_interval i.view w.monitor.newest ns e z
    ] in
    record {
      view = i.view;
      sound = i.sound;
      classes = i.classes;
      newest = i.newest;
      bound = omega arith;
      newest_ok = inr ok;
      maps = λ k x h. elim (slice_get_push w.maps _ k x h) [ inl o ↦ i.maps k x o | inr o ↦ subst (MapOk i.view) (sym o.1) ok ];
      last_ok = i.last_ok;
      last = i.last;
      asked = i.asked;
      nodes = i.nodes;
      sent = i.sent;
    }

-- an interval begins
abbrev pub begun : MonitorState → List ℕ → GroupMap
begun m ns = record { epoch = suc m.newest.epoch; interval = suc m.newest.epoch; acting = ns; prev = m.activated.interval; prev_acting = m.activated.acting }

pub inv_begun : (past : List WorldEvent) (w : World) (ns : List ℕ) → Inv past w → is_acting ns ≡ true → Inv past (world_with w (begun w.monitor ns))
inv_begun past w ns i t =
    let nw : i.view.newest ≡ w.monitor.newest.interval = i.newest in
    let bd : w.monitor.newest.interval ≤ w.monitor.newest.epoch = i.bound in
    let m : GroupMap = begun w.monitor ns in
    let new : i.view.newest < suc w.monitor.newest.epoch = omega arith in
    let mk : Makes i.view (begun w.monitor ns) = record {
      interval = new;
      first_acts = acting_first ns t;
      prev_made = elim i.last_ok [ inl z ↦ omega arith | inr z ↦ (let q : ActedOk i.view w.monitor.activated = z.1 in q.made) ];
      prev_active = elim i.last_ok [ inl z ↦ inl z | inr z ↦ inr z.0 ];
      prev_last = i.last;
      prev_acting = λ one. elim i.last_ok [ inl z ↦ absurd (omega arith) | inr z ↦ (let q : ActedOk i.view w.monitor.activated = z.1 in q.is) ];
    } in
    let l : Later i.view (map_view i.view (begun w.monitor ns)) = map_later i.view (begun w.monitor ns) new in
    let du : Sound (map_view i.view (begun w.monitor ns)) = map_sound i.view (begun w.monitor ns) i.sound mk in
    let ok : MapOk (map_view i.view (begun w.monitor ns)) (begun w.monitor ns) = record { one = omega arith; made = omega arith; is = sym (map_at_new i.view (begun w.monitor ns) (suc w.monitor.newest.epoch) new) } in
    record {
      view = map_view i.view (begun w.monitor ns);
      sound = du;
      classes = i.classes;
      newest = refl;
      bound = omega arith;
      newest_ok = inr ok;
      maps = λ k x h. elim (slice_get_push w.maps (begun w.monitor ns) k x h) [
        | inl o ↦ map_ok_later i.view (map_view i.view (begun w.monitor ns)) x l (i.maps k x o)
        | inr o ↦ subst (MapOk (map_view i.view (begun w.monitor ns))) (sym o.1) ok
      ];
      last_ok = elim i.last_ok [ inl z ↦ inl z | inr z ↦ inr (z.0, acted_ok_later i.view (map_view i.view (begun w.monitor ns)) w.monitor.activated l z.1) ];
      last = i.last;
      asked = i.asked;
      nodes = λ n. node_later i.view (map_view i.view (begun w.monitor ns)) n (w.nodes n) i.sound l refl refl (i.nodes n);
      sent = packets_later i.view (map_view i.view (begun w.monitor ns)) w.sent i.sound l i.sent;
    }

-- the newest map is of the old interval or of a new one
pub inv_map : (past : List WorldEvent) (w : World) (ns : List ℕ) → Inv past w → Inv past (make_map w ns)
inv_map past w ns i =
    cond_both (is_none (map_refusal w.monitor ns)) _ w (λ x. Inv past x)
    (λ t. cond_both (is_same_list w.monitor.newest.acting ns) _ (begun w.monitor ns) (λ m. Inv past (world_with w m))
    (λ y. inv_kept past w ns i (map_acting w.monitor ns t) y)
    (λ y. inv_begun past w ns i (map_acting w.monitor ns t)))
    (λ t. i)
