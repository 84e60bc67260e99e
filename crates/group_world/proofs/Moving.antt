-- The steps of a node that learns a map.
use Rattle.std.proofs.Common.{◌≡◌, ℕ, ◌<◌, ◌≤◌, Bool, true, false, ◌&&◌, ◌||◌, eqb, ltb, List, [], take, Option, Some, None, ◌⊎◌, inl, inr, sym, ◌∙◌, refl, ap, subst, arith}
use Rattle.std.proofs.lemmas.Option.{none-some, same_Some}
use Rattle.std.proofs.lemmas.Bool.{ltb-true, ltb-false, lt-ltb, cond-true, cases_lt, eq-eqb, eqb-true, eqb-false, or_parts, cond_both, false≢true}
use mathlib.Core.List.{IsPrefix}
use Rattle.placement.specs.Placement.{has}
use Rattle.pg_log.specs.Requests.{ClientRequest}
use Rattle.group_world.specs.Maps.{GroupMap, is_primary}
use Rattle.group_world.specs.Node.{NodeState, Outcome, nothing, and_sends, packet, to_all, is_waiting}
use Rattle.group_world.specs.Rules.{adopt, at_map, move_to, arrive, would_forget, learn_map, answer_query}
use Rattle.group_world.specs.declared.status.Status.{Status}
use Rattle.group_world.specs.declared.status.Status.TheVariants.{Out, Waiting, Installed, Asking, Installing, Active}
use Rattle.group_world.specs.declared.party.Party.{Party}
use Rattle.group_world.specs.declared.message.MessageKind.TheVariants.{Query, Log as LogOf}
use Rattle.group_world.proofs.Lists.{primary, first_true, first_false, prefix_refl, spot_cases}
use Rattle.group_world.proofs.View.{View, acting, prev, first, HeldFrom, Covered, IsMade, HeldBy, Sound, Later, covered_later, covered_below}
use Rattle.group_world.proofs.Moves.{proper_later, move_view, move_later, move_sound}
use Rattle.group_world.proofs.Nodes.{MapOk, StatusOk, ChosenBefore, CommittedOk, NodeOk, LogOk, map_ok_later, Only, chosen_before_later, Kept, kept_nothing}
use Rattle.group_world.proofs.Steps.{all_packets_append, to_all_ok, kept_then}
use Rattle.group_world.proofs.Following.{kept_adopt}

pub option_cases : {X : Type 0} (o : Option X) → (o ≡ None) ⊎ ((x : X) × (o ≡ Some x))
option_cases None = inl refl
option_cases (Some x) = inr (x, refl)

-- what a node holds in its interval is its list
pub held_is_log : (v : View) (n : ℕ) (s : NodeState) (st : Status) (xs : List ClientRequest) → StatusOk v n s st → v.held s.interval n ≡ Some xs → xs ≡ s.log
held_is_log v n s Out xs h e = absurd (none-some xs (sym h ∙ e))
held_is_log v n s Waiting xs h e = absurd (none-some xs (sym h.0 ∙ e))
held_is_log v n s Asking xs h e = absurd (none-some xs (sym h.0 ∙ e))
held_is_log v n s Installed xs h e = same_Some _ _ (sym e ∙ h.0)
held_is_log v n s Installing xs h e = same_Some _ _ (sym e ∙ h.0)
held_is_log v n s Active xs h e = same_Some _ _ (sym e ∙ h.0)

-- the committed list of a node that leaves an interval was chosen before the next interval
pub leaves_chosen : (v : View) (s : NodeState) (st : Status) (e : ℕ) → s.interval < e → CommittedOk v s st → ChosenBefore v e (take s.committed s.log)
leaves_chosen v s Active e lt h = inr (s.interval, lt, h)
leaves_chosen v s Out e lt h = elim h [ inl z ↦ inl z | inr p ↦ inr (p.0, (let q : p.0 < s.interval = p.1 in omega arith), p.2) ]
leaves_chosen v s Waiting e lt h = elim h [ inl z ↦ inl z | inr p ↦ inr (p.0, (let q : p.0 < s.interval = p.1 in omega arith), p.2) ]
leaves_chosen v s Installed e lt h = elim h [ inl z ↦ inl z | inr p ↦ inr (p.0, (let q : p.0 < s.interval = p.1 in omega arith), p.2) ]
leaves_chosen v s Asking e lt h = elim h [ inl z ↦ inl z | inr p ↦ inr (p.0, (let q : p.0 < s.interval = p.1 in omega arith), p.2) ]
leaves_chosen v s Installing e lt h = elim h [ inl z ↦ inl z | inr p ↦ inr (p.0, (let q : p.0 < s.interval = p.1 in omega arith), p.2) ]

-- what holds of a node after a move to a map of a higher interval
pub record Moved (v : View) (n : ℕ) (s : NodeState) (m : GroupMap) : Type 0 where
  pub lt : s.interval < m.interval
  pub ok : MapOk v m

pub moved_at : (v : View) (n e : ℕ) → (move_view v n e).at n ≡ e
moved_at v n e = cond-true (eqb n n) e (v.at n) (eq-eqb n n refl)

pub moved_only : (v : View) (n e : ℕ) → Only v (move_view v n e) n
moved_only v n e = record {
  newest = refl;
  maps = λ k. refl;
  active = λ a. refl;
  asked = refl;
  at = λ k h. elim (spot_cases k n e (v.at k)) [ inl p ↦ absurd (h p.0) | inr p ↦ p.1 ];
  held = λ k m h. refl;
}

pub moved_none : (v : View) (n : ℕ) (s : NodeState) (m : GroupMap) → Sound v → NodeOk v n s → Moved v n s m → v.held m.interval n ≡ None
moved_none v n s m d k h =
    let ea : s.interval ≡ v.at n = k.at in
    let lt : s.interval < m.interval = h.lt in
    elim (option_cases (v.held m.interval n)) [
      | inl z ↦ z
      | inr p ↦ absurd (let b : HeldBy v m.interval n = d.held_by m.interval n p.0 p.1 in let c : m.interval ≤ v.at n = b.there in omega arith)
    ]

pub moved_covered : (v : View) (n : ℕ) (s : NodeState) (m : GroupMap) → Sound v → NodeOk v n s → (h : Moved v n s m)
    → (a : ℕ) → v.active a ≡ true → has n (acting v a) ≡ true → a < m.interval → Covered (move_view v n m.interval) a s.log
moved_covered v n s m d k h a act acts lt =
    let ea : s.interval ≡ v.at n = k.at in
    let sm : s.interval < m.interval = h.lt in
    let l : Later v (move_view v n m.interval) = move_later v n m.interval (omega arith) in
    let g : HeldFrom v a n [] = d.active_held a n act acts in
    let b : HeldBy v a n = d.held_by a n g.list g.held in
    let c : a ≤ v.at n = b.there in
    let at : (move_view v n m.interval).at n ≡ m.interval = moved_at v n m.interval in
    elim (cases_lt a s.interval) [
      | inl lo ↦ covered_later v (move_view v n m.interval) a s.log d l (k.covered a act acts lo)
      | inr hi ↦
          (let z : a ≡ s.interval = omega arith in
          let same : g.list ≡ s.log = held_is_log v n s s.status g.list k.status (ap (λ x. v.held x n) (sym z) ∙ g.held) in
          record { member = n; acts = acts; left = omega arith; from_held = (g.list, g.held, subst (λ x. IsPrefix g.list x) same (prefix_refl g.list)) })
    ]

-- the node after the move, with a status that fits
pub moved_node : (v : View) (n : ℕ) (s : NodeState) (m : GroupMap) (st : Status) → Sound v → NodeOk v n s → (h : Moved v n s m)
    → StatusOk (move_view v n m.interval) n (at_map s m st) st → CommittedOk (move_view v n m.interval) (at_map s m st) st → NodeOk (move_view v n m.interval) n (at_map s m st)
moved_node v n s m st d k h so co =
    let ea : s.interval ≡ v.at n = k.at in
    let sm : s.interval < m.interval = h.lt in
    let l : Later v (move_view v n m.interval) = move_later v n m.interval (omega arith) in
    record {
      at = sym (moved_at v n m.interval);
      members = λ one. h.ok.is;
      status = so;
      covered = moved_covered v n s m d k h;
      within = k.within;
      committed = co;
      proper = proper_later v (move_view v n m.interval) s.log l k.proper;
    }

-- if the other conditions hold, the last one decides
pub last_decides : (a b c f : Bool) → a ≡ true → b ≡ true → c ≡ true → (a && (b && (c && f))) ≡ f
last_decides true true true f p q r = refl
last_decides false b c f p q r = absurd (false≢true p)
last_decides true false c f p q r = absurd (false≢true q)
last_decides true true false f p q r = absurd (false≢true r)

-- a primary that may begin with the empty list has committed nothing
pub forgets_nothing : (n : ℕ) (s : NodeState) (m : GroupMap) → ltb s.interval m.interval ≡ true → is_primary n m ≡ true → eqb m.prev 0 ≡ true → would_forget n s m ≡ false → s.committed ≡ 0
forgets_nothing n s m lt p z free =
    let nc : ltb 0 s.committed ≡ false = sym (last_decides (ltb s.interval m.interval) (is_primary n m) (eqb m.prev 0) (ltb 0 s.committed) lt p z) ∙ free in
    let c0 : s.committed ≤ 0 = ltb-false _ _ nc in
    omega arith

pub kept_move : (v : View) (n : ℕ) (s : NodeState) (m : GroupMap) → Sound v → NodeOk v n s → Moved v n s m → would_forget n s m ≡ false → Kept v n (move_to n s m)
kept_move v n s m d k h free =
    let ea : s.interval ≡ v.at n = k.at in
    let sm : s.interval < m.interval = h.lt in
    let ok : MapOk v m = h.ok in
    let one : 1 ≤ m.interval = ok.one in
    let mn : m.interval ≤ v.newest = ok.made in
    let w : View = move_view v n m.interval in
    let l : Later v (move_view v n m.interval) = move_later v n m.interval (omega arith) in
    let dw : Sound (move_view v n m.interval) = move_sound v n m.interval d (omega arith) mn in
    let ow : Only v (move_view v n m.interval) n = moved_only v n m.interval in
    let none : v.held m.interval n ≡ None = moved_none v n s m d k h in
    let made : IsMade v m.interval = d.made m.interval one mn in
    let cb : ChosenBefore (move_view v n m.interval) m.interval (take s.committed s.log) =
    chosen_before_later v (move_view v n m.interval) m.interval (take s.committed s.log) d l (leaves_chosen v s s.status m.interval sm k.committed) in
    let pf : primary m ≡ first v m.interval = ap primary ok.is in
    let pp : m.prev ≡ prev v m.interval = ap (λ (x : GroupMap). x.prev) ok.is in
    cond_both (is_primary n m) _ _ (λ o. Kept v n o)
    (λ t.
    let pn : (primary m ≡ n) × (has n m.acting ≡ true) = first_true n m.acting t in
    let f : n ≡ first v m.interval = sym pn.0 ∙ pf in
    cond_both (eqb m.prev 0) _ _ (λ o. Kept v n o)
    (λ z.
    let pz : m.prev ≡ 0 = eqb-true _ _ z in
    let cz : s.committed ≡ 0 = forgets_nothing n s m (lt-ltb _ _ sm) t z free in
    kept_then v (move_view v n m.interval) n (adopt n (at_map s m Asking) []) d l ow
    (kept_adopt (move_view v n m.interval) n (at_map s m Asking) [] dw (record {
      at = sym (moved_at v n m.interval);
      one = one;
      members = ok.is;
      first = f;
      none = none;
      covered = λ a act lt. absurd (let q : a ≤ prev v m.interval = made.prev_last a act lt in let r : (1 ≤ a) × (a ≤ v.newest) = d.active_made a act in omega arith);
      proper = record { is_legal = d.log.empty v.classes; brought = tt };
      within = omega arith;
      committed = inl (ap (λ x. take x []) cz);
    })))
    (λ z.
    let pz : m.prev ≡ 0 → ⊥ = eqb-false _ _ z in
    let o : Kept v n (record { node = at_map s m Asking; sent = to_all n m.prev_acting (Query m); refusal = None }) = record {
      after = move_view v n m.interval;
      sound = dw;
      later = l;
      only = ow;
      node = moved_node v n s m Asking d k h (none, record { one = one; first = f }, omega arith) cb;
      sent = to_all_ok (move_view v n m.interval) n m.prev_acting (Query m) (λ j a. (
        record { one = one; made = mn; is = ok.is },
        (
          omega arith,
          ap (λ x. has j (acting v x)) pp ∙ ap (has j) (sym (made.prev_acting (omega arith))) ∙ ap (λ (x : GroupMap). has j x.prev_acting) (sym ok.is) ∙ a,
        ),
      ));
    } in o))
    (λ p. cond_both (has n m.acting) _ _ (λ o. Kept v n o)
    (λ t.
    let acts : has n (acting v m.interval) ≡ true = ap (λ (x : GroupMap). has n x.acting) (sym ok.is) ∙ t in
    let o : Kept v n (nothing (at_map s m Waiting)) = record {
      after = move_view v n m.interval;
      sound = dw;
      later = l;
      only = ow;
      node = moved_node v n s m Waiting d k h (none, record { one = one; acts = acts; other = λ e. first_false n m.acting p t (pf ∙ sym e) }) cb;
      sent = tt;
    } in o)
    (λ t.
    let o : Kept v n (nothing (at_map s m Out)) = record {
      after = move_view v n m.interval;
      sound = dw;
      later = l;
      only = ow;
      node = moved_node v n s m Out d k h none cb;
      sent = tt;
    } in o))

pub kept_arrive : (v : View) (n : ℕ) (s : NodeState) (m : GroupMap) → Sound v → NodeOk v n s → MapOk v m → would_forget n s m ≡ false → Kept v n (arrive n s m)
kept_arrive v n s m d k ok free =
    cond_both (ltb s.interval m.interval) _ (nothing s) (λ o. Kept v n o)
    (λ t. kept_move v n s m d k (record { lt = ltb-true _ _ t; ok = ok }) free)
    (λ t. kept_nothing v n s d k)

pub kept_learn_map : (v : View) (n : ℕ) (s : NodeState) (m : GroupMap) → Sound v → NodeOk v n s → MapOk v m → Kept v n (learn_map n s m)
kept_learn_map v n s m d k ok =
    cond_both (would_forget n s m) (nothing s) _ (λ o. Kept v n o) (λ t. kept_nothing v n s d k) (λ t. kept_arrive v n s m d k ok t)

-- The node after it learned the map of a message that it doesn't ignore: a move keeps the committed
-- length, and the log of a node that waits after it.
pub arrive_committed : (n : ℕ) (s : NodeState) (m : GroupMap) → (arrive n s m).node.committed ≡ s.committed
arrive_committed n s m =
    let P : Outcome → Type 0 = λ o. o.node.committed ≡ s.committed in
    cond_both (ltb s.interval m.interval) (move_to n s m) (nothing s) P
    (λ t. cond_both (is_primary n m) _ _ P
    (λ p. cond_both (eqb m.prev 0) _ _ P (λ z. refl) (λ z. refl))
    (λ p. cond_both (has n m.acting) _ _ P (λ a. refl) (λ a. refl)))
    (λ t. refl)

pub arrive_log : (n : ℕ) (s : NodeState) (m : GroupMap) → is_waiting (arrive n s m).node.status ≡ true → (arrive n s m).node.log ≡ s.log
arrive_log n s m =
    let P : Outcome → Type 0 = λ o. is_waiting o.node.status ≡ true → o.node.log ≡ s.log in
    cond_both (ltb s.interval m.interval) (move_to n s m) (nothing s) P
    (λ t. cond_both (is_primary n m) _ _ P
    (λ p. cond_both (eqb m.prev 0) _ _ P (λ z w. absurd (false≢true w)) (λ z w. refl))
    (λ p. cond_both (has n m.acting) _ _ P (λ a w. refl) (λ a w. refl)))
    (λ t w. refl)

pub arrive_interval : (n : ℕ) (s : NodeState) (m : GroupMap) → s.interval ≤ m.interval → (arrive n s m).node.interval ≡ m.interval
arrive_interval n s m le =
    let P : Outcome → Type 0 = λ o. o.node.interval ≡ m.interval in
    cond_both (ltb s.interval m.interval) (move_to n s m) (nothing s) P
    (λ t. cond_both (is_primary n m) _ _ P
    (λ a. cond_both (eqb m.prev 0) _ _ P (λ z. refl) (λ z. refl))
    (λ a. cond_both (has n m.acting) _ _ P (λ z. refl) (λ z. refl)))
    (λ t. let q : m.interval ≤ s.interval = ltb-false _ _ t in omega arith)

pub kept_query : (v : View) (n : ℕ) (s : NodeState) (asker : Party) (m : GroupMap) → Sound v → NodeOk v n s → MapOk v m → 1 ≤ m.prev → has n (acting v m.prev) ≡ true → Kept v n (answer_query n s asker m)
kept_query v n s asker m d k ok one acts =
    cond_both (ltb m.interval s.interval || would_forget n s m) (nothing s) _ (λ o. Kept v n o)
    (λ t. kept_nothing v n s d k)
    (λ t.
    let p : (ltb m.interval s.interval ≡ false) × (would_forget n s m ≡ false) = or_parts _ _ t in
    let le : s.interval ≤ m.interval = ltb-false _ _ p.0 in
    let o : Outcome = arrive n s m in
    let g : Kept v n (arrive n s m) = kept_arrive v n s m d k ok p.1 in
    let w : View = g.after in
    let e : (arrive n s m).node.interval ≡ m.interval = arrive_interval n s m le in
    let ow : MapOk g.after m = map_ok_later v g.after m g.later ok in
    let mn : m.interval ≤ g.after.newest = ow.made in
    let m1 : 1 ≤ m.interval = ow.one in
    let mv : m.interval ≤ v.newest = ok.made in
    let pp : m.prev ≡ prev g.after m.interval = ap (λ (x : GroupMap). x.prev) ow.is in
    let made : IsMade g.after m.interval = g.sound.made m.interval m1 mn in
    let pb : prev g.after m.interval < m.interval = made.prev_below in
    let aw : has n (acting g.after (prev g.after m.interval)) ≡ true =
    subst (λ x. has n (acting g.after x) ≡ true) pp (ap (λ (x : GroupMap). has n x.acting) (g.later.maps m.prev (omega arith)) ∙ acts) in
    let nk : NodeOk g.after n (arrive n s m).node = g.node in
    let cov : (a : ℕ) → g.after.active a ≡ true → a < m.interval → Covered g.after a (arrive n s m).node.log =
    covered_below g.after m.interval n (arrive n s m).node.log g.sound m1 mn aw (λ a b c lt. nk.covered a b c (omega arith)) in
    let lo : LogOk g.after (arrive n s m).node.interval (arrive n s m).node.log = record {
      made = omega arith;
      covered = λ a b lt. cov a b (omega arith);
      brought = nk.proper.brought;
    } in
    let r : Kept v n (and_sends (arrive n s m) (packet n asker (LogOf (arrive n s m).node.interval (arrive n s m).node.log))) = record {
      after = g.after;
      sound = g.sound;
      later = g.later;
      only = g.only;
      node = g.node;
      sent = all_packets_append g.after (arrive n s m).sent _ g.sent (lo, tt);
    } in r)
