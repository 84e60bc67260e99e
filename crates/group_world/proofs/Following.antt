-- The steps of a node that adopts, installs or follows.
use Rattle.std.proofs.Common.{◌≡◌, ℕ, ◌<◌, ◌≤◌, Bool, true, ◌&&◌, not, eqb, ltb, List, [], ◌∷◌, ◌++◌, length, take, Some, None, inl, inr, sym, ◌∙◌, refl, ap, subst, arith}
use Rattle.std.specs.Prelude.{is_none}
use Rattle.std.specs.List.{Contains, AllByRecursion, AllZip}
use Rattle.std.proofs.lemmas.List.{take_all}
use Rattle.std.proofs.lemmas.Option.{none-some, same_Some}
use Rattle.std.proofs.lemmas.Bool.{eqb-true, and_parts, cond_both, false≢true}
use mathlib.Core.List.{IsPrefix}
use Rattle.placement.specs.Placement.{has}
use Rattle.pg_log.specs.Requests.{ClientRequest}
use Rattle.pg_log.specs.Refusals.{refusal}
use Rattle.group_world.specs.Maps.{GroupMap, all_among}
use Rattle.group_world.specs.Node.{NodeState, nothing, and_sends, packet, is_installed, is_asking, is_installing}
use Rattle.group_world.specs.Rules.{is_usable, ask_if, adopt, adopt_log, note_installed, each_at, activate, says_ack, replicate}
use Rattle.group_world.specs.declared.status.Status.TheVariants.{Installed, Asking, Installing, Active}
use Rattle.group_world.specs.declared.party.Party.{Party}
use Rattle.group_world.specs.declared.party.Party.TheVariants.{Node as ANode, Monitor as TheMonitor, Client as AClient}
use Rattle.group_world.specs.declared.message.MessageKind.TheVariants.{Install, AskActivate}
use Rattle.group_world.proofs.Lists.{primary, has_head, has_tail, has_cases, has_push, all_among_has, prefix_refl, prefix_nil, prefix_trans, prefix_more, prefix_push, prefix_same, prefix_either, prefix_equal}
use Rattle.group_world.proofs.LogFacts.{is_none_true, push_legal}
use Rattle.group_world.proofs.View.{View, of_interval, acting, first, HeldFrom, Covered, Chosen, IsMade, Within, Proper, Sound, Later}
use Rattle.group_world.proofs.Holding.{hold_view, Holds, hold_later, hold_sound}
use Rattle.group_world.proofs.Nodes.{Brought, HeldLong, MapOk, IsFirst, IsFollower, StatusOk, ChosenBefore, CommittedOk, NodeOk, ToNode, LogOk, InstallOk, RepOk, AllHold, PacketOk, chosen_before_later, Kept, later_refl, only_refl, kept_nothing}
use Rattle.group_world.proofs.Steps.{installed_is, installing_is, asking_is, Usable, usable_true, usable_legal, usable_push, all_packets_append, to_others_ok, hold_only, hold_node, hold_held, hold_base}

-- the node may adopt the list
pub record MayAdopt (v : View) (n : ℕ) (s : NodeState) (xs : List ClientRequest) : Type 0 where
  pub at : s.interval ≡ v.at n
  pub one : 1 ≤ s.interval
  pub members : of_interval s.members ≡ v.map_at s.interval
  pub first : n ≡ first v s.interval
  pub none : v.held s.interval n ≡ None
  pub covered : (a : ℕ) → v.active a ≡ true → a < s.interval → Covered v a xs
  pub proper : Proper v xs
  pub within : s.committed ≤ length xs
  pub committed : ChosenBefore v s.interval (take s.committed xs)

pub ask_if_ok : (w : View) (n : ℕ) (s : NodeState) (b : Bool) → (b ≡ true → AllHold w s.interval) → AllByRecursion (PacketOk w) (ask_if n s b)
ask_if_ok w n s b h =
    cond_both b (packet n (TheMonitor) (AskActivate s.interval) ∷ []) [] (λ ps. AllByRecursion (PacketOk w) ps) (λ e. (h e, tt)) (λ e. tt)

pub kept_adopt : (v : View) (n : ℕ) (s : NodeState) (xs : List ClientRequest) → Sound v → MayAdopt v n s xs → Kept v n (adopt n s xs)
kept_adopt v n s xs d p =
    let e : s.interval ≡ v.at n = p.at in
    let am : v.at n ≤ v.newest = d.at_made n in
    let one : 1 ≤ s.interval = p.one in
    let made : IsMade v s.interval = d.made s.interval p.one (omega arith) in
    let no : (ys : List ClientRequest) → v.held (v.at n) n ≡ Some ys → ⊥ = λ ys h. none-some ys (sym p.none ∙ ap (λ k. v.held k n) e ∙ h) in
    let f : n ≡ first v (v.at n) = p.first ∙ ap (first v) e in
    let acts : has n (acting v s.interval) ≡ true = ap (λ k. has k (acting v s.interval)) p.first ∙ made.first_acts in
    let q : Holds v n xs xs = record {
      made = omega arith;
      acts = ap (λ k. has n (acting v k)) (sym e) ∙ acts;
      grows = λ ys h. absurd (no ys h);
      base_kept = λ ys h. absurd (no ys (ap (λ k. v.held (v.at n) k) f ∙ h));
      top = inl f;
      above = prefix_refl xs;
      covered = λ a h lt. p.covered a h (omega arith);
      proper = p.proper;
    } in
    let l : Later v (hold_view v n xs xs) = hold_later v n xs xs q in
    let own : (hold_view v n xs xs).held s.interval n ≡ Some xs = hold_held v n s.interval xs xs e in
    let self : HeldFrom (hold_view v n xs xs) s.interval n [] = record { list = xs; held = own; begins = prefix_nil xs } in
    let after : NodeState = (adopt n s xs).node in
    let in_joined : (m : ℕ) → has m (n ∷ []) ≡ true → HeldFrom (hold_view v n xs xs) s.interval m [] = λ m h.
    elim (has_cases m n [] h) [ inl z ↦ subst (λ k. HeldFrom (hold_view v n xs xs) s.interval k []) z self | inr z ↦ absurd (false≢true z) ] in
    let mo : MapOk (hold_view v n xs xs) s.members =
    let g : s.members.interval ≡ s.interval = ap (λ (x : GroupMap). x.interval) p.members ∙ made.interval in
    record { one = omega arith; made = omega arith; is = p.members ∙ ap v.map_at (sym g) } in
    let g : s.members.interval ≡ s.interval = ap (λ (x : GroupMap). x.interval) p.members ∙ made.interval in
    let io : InstallOk (hold_view v n xs xs) s.members xs = record {
      members = mo;
      top = subst (λ k. HeldFrom (hold_view v n xs xs) k (first v k) []) (sym g) (subst (λ k. HeldFrom (hold_view v n xs xs) s.interval k []) p.first self);
      base = hold_base v n s.members.interval xs xs (g ∙ e);
    } in
    record {
      after = hold_view v n xs xs;
      sound = hold_sound v n xs xs d q;
      later = l;
      only = hold_only v n xs xs;
      node = hold_node v n after xs d q e p.members
          (own, record { one = p.one; first = p.first }, hold_base v n s.interval xs xs e, in_joined)
          p.within
          (chosen_before_later v (hold_view v n xs xs) s.interval (take s.committed xs) d l p.committed);
      sent = all_packets_append (hold_view v n xs xs) _ _
          (to_others_ok (hold_view v n xs xs) n s.members.acting (Install s.members xs) (λ k a ne. (io, (a, λ z. ne (z ∙ ap primary p.members ∙ sym p.first)))))
          (ask_if_ok (hold_view v n xs xs) n s (all_among s.members.acting (n ∷ [])) (λ h. record {
            one = p.one;
            made = omega arith;
            all = λ m a. in_joined m (all_among_has m s.members.acting (n ∷ []) h (ap (λ (x : GroupMap). has m x.acting) p.members ∙ a));
          }));
    }

pub kept_log : (v : View) (n : ℕ) (s : NodeState) (interval : ℕ) (xs : List ClientRequest) → Sound v → NodeOk v n s → LogOk v interval xs → Kept v n (adopt_log v.classes n s interval xs)
kept_log v n s interval xs d k h =
    cond_both ((eqb interval s.interval) && (is_asking s.status && is_usable v.classes s xs)) (adopt n s xs) (nothing s) (λ o. Kept v n o)
    (λ t.
    let p : (eqb interval s.interval ≡ true) × ((is_asking s.status && is_usable v.classes s xs) ≡ true) = and_parts _ _ t in
    let q : (is_asking s.status ≡ true) × (is_usable v.classes s xs ≡ true) = and_parts _ _ p.1 in
    let e : interval ≡ s.interval = eqb-true _ _ p.0 in
    let z : s.status ≡ Asking = asking_is s.status q.0 in
    let so : StatusOk v n s Asking = subst (λ st. StatusOk v n s st) z k.status in
    let co : CommittedOk v s Asking = subst (λ st. CommittedOk v s st) z k.committed in
    let u : Usable s xs = usable_true v.classes s xs k.within q.1 in
    let f : IsFirst v n s = so.1 in
    kept_adopt v n s xs d (record {
      at = k.at;
      one = f.one;
      members = k.members f.one;
      first = f.first;
      none = so.0;
      covered = λ a b lt. h.covered a b (omega arith);
      proper = record { is_legal = usable_legal d.log v.classes s xs q.1; brought = h.brought };
      within = u.within;
      committed = subst (λ x. ChosenBefore v s.interval x) (sym u.same) co;
    }))
    (λ t. kept_nothing v n s d k)

-- what holds of the members that have joined also holds with one more
pub joined_more : (v : View) (s : NodeState) (m interval : ℕ) → interval ≡ s.interval → ((j : ℕ) → has j s.joined ≡ true → HeldFrom v s.interval j []) → HeldFrom v interval m []
    → (j : ℕ) → has j (s.joined ++ m ∷ []) ≡ true → HeldFrom v s.interval j []
joined_more v s m interval e all h j t =
    elim (has_push j m s.joined t) [ inl y ↦ subst (λ x. HeldFrom v s.interval x []) y (subst (λ x. HeldFrom v x m []) e h) | inr y ↦ all j y ]

pub kept_installed : (v : View) (n : ℕ) (s : NodeState) (from : Party) (interval : ℕ) → Sound v → NodeOk v n s → ToNode from (λ m. (interval ≤ v.newest) × HeldFrom v interval m []) → Kept v n (note_installed n s from interval)
kept_installed v n s TheMonitor interval d k h = kept_nothing v n s d k
kept_installed v n s (AClient c) interval d k h = kept_nothing v n s d k
kept_installed v n s (ANode m) interval d k h =
    cond_both ((eqb interval s.interval) && (is_installing s.status && (has m s.members.acting && not (has m s.joined)))) _ (nothing s) (λ o. Kept v n o)
    (λ t.
    let p : (eqb interval s.interval ≡ true) × ((is_installing s.status && (has m s.members.acting && not (has m s.joined))) ≡ true) = and_parts _ _ t in
    let q : (is_installing s.status ≡ true) × ((has m s.members.acting && not (has m s.joined)) ≡ true) = and_parts _ _ p.1 in
    let e : interval ≡ s.interval = eqb-true _ _ p.0 in
    let z : s.status ≡ Installing = installing_is s.status q.0 in
    let so : StatusOk v n s Installing = subst (λ st. StatusOk v n s st) z k.status in
    let f : IsFirst v n s = so.1 in
    let am : v.at n ≤ v.newest = d.at_made n in
    let ea : s.interval ≡ v.at n = k.at in
    let one : 1 ≤ s.interval = f.one in
    let joined : (j : ℕ) → has j (s.joined ++ m ∷ []) ≡ true → HeldFrom v s.interval j [] = joined_more v s m interval e so.3 h.1 in
    let r : Kept v n (record { node = record s { joined = s.joined ++ m ∷ [] }; sent = ask_if n s (all_among s.members.acting (s.joined ++ m ∷ [])); refusal = None }) = record {
      after = v;
      sound = d;
      later = later_refl v;
      only = only_refl v n;
      node = record {
        at = k.at;
        members = k.members;
        status = subst (λ st. StatusOk v n (record s { joined = s.joined ++ m ∷ [] }) st) (sym z) (so.0, record { one = f.one; first = f.first }, so.2, joined);
        covered = k.covered;
        within = k.within;
        committed = subst (λ st. CommittedOk v (record s { joined = s.joined ++ m ∷ [] }) st) (sym z) (subst (λ st. CommittedOk v s st) z k.committed);
        proper = k.proper;
      };
      sent = ask_if_ok v n s (all_among s.members.acting (s.joined ++ m ∷ [])) (λ a. record {
        one = f.one;
        made = omega arith;
        all = λ j b. joined j (all_among_has j s.members.acting (s.joined ++ m ∷ []) a (ap (λ (x : GroupMap). has j x.acting) (k.members f.one) ∙ b));
      });
    } in r)
    (λ t. kept_nothing v n s d k)

pub each_at_ok : (v : View) (e c : ℕ) (ns : List ℕ) → ((m : ℕ) → has m ns ≡ true → HeldLong v e c m) → AllZip (λ m k. HeldLong v e k m) ns (each_at ns c)
each_at_ok v e c [] h = tt
each_at_ok v e c (n ∷ ns) h = (h n (has_head n ns), each_at_ok v e c ns (λ m a. h m (has_tail m n ns a)))

pub kept_activated : (v : View) (n : ℕ) (s : NodeState) (interval : ℕ) → Sound v → NodeOk v n s → v.active interval ≡ true → Kept v n (activate s interval)
kept_activated v n s interval d k h =
    cond_both ((eqb interval s.interval) && is_installing s.status) _ (nothing s) (λ o. Kept v n o)
    (λ t.
    let p : (eqb interval s.interval ≡ true) × (is_installing s.status ≡ true) = and_parts _ _ t in
    let e : interval ≡ s.interval = eqb-true _ _ p.0 in
    let z : s.status ≡ Installing = installing_is s.status p.1 in
    let so : StatusOk v n s Installing = subst (λ st. StatusOk v n s st) z k.status in
    let f : IsFirst v n s = so.1 in
    let ac : v.active s.interval ≡ true = ap v.active (sym e) ∙ h in
    let all : (m : ℕ) → has m (acting v s.interval) ≡ true → HeldFrom v s.interval m s.log = λ m a.
    let g : HeldFrom v s.interval m [] = d.active_held s.interval m ac a in
    let w : Within v s.interval g.list = d.held_within s.interval m g.list g.held in
    record { list = g.list; held = g.held; begins = subst (λ x. IsPrefix x g.list) so.2 w.above } in
    let full : take (length s.log) s.log ≡ s.log = take_all (length s.log) s.log (omega arith) in
    let after : NodeState = record s { status = Active; committed = length s.log; acked = each_at s.members.acting (length s.log) } in
    let r : Kept v n (nothing (record s { status = Active; committed = length s.log; acked = each_at s.members.acting (length s.log) })) = record {
      after = v;
      sound = d;
      later = later_refl v;
      only = only_refl v n;
      node = record {
        at = k.at;
        members = k.members;
        status = (
          so.0,
          record { one = f.one; first = f.first },
          ac,
          subst (λ (x : GroupMap). AllZip (λ m c. HeldLong v s.interval c m) (acting v s.interval) (each_at x.acting (length s.log))) (sym (k.members f.one))
              (each_at_ok v s.interval (length s.log) (acting v s.interval) (λ m a. record { list = s.log; long = omega arith; held = all m a })),
        );
        covered = k.covered;
        within = omega arith;
        committed = subst (λ x. Chosen v s.interval x) (sym full) (record { active = ac; by_all = all });
        proper = k.proper;
      };
      sent = tt;
    } in r)
    (λ t. kept_nothing v n s d k)

pub brought_push : (v : View) (xs : List ClientRequest) (r : ClientRequest) → Brought v xs → Contains v.asked r → Brought v (xs ++ r ∷ [])
brought_push v [] r h c = (c, tt)
brought_push v (x ∷ xs) r h c = (h.0, brought_push v xs r h.1 c)

pub kept_rep : (v : View) (n : ℕ) (s : NodeState) (from : Party) (interval place : ℕ) (r : ClientRequest) → Sound v → NodeOk v n s → RepOk v interval place r → Kept v n (replicate v.classes n s from interval place r)
kept_rep v n s from interval place r d k h =
    cond_both ((eqb interval s.interval) && is_installed s.status) _ (nothing s) (λ o. Kept v n o)
    (λ t.
    let p : (eqb interval s.interval ≡ true) × (is_installed s.status ≡ true) = and_parts _ _ t in
    let e : interval ≡ s.interval = eqb-true _ _ p.0 in
    let z : s.status ≡ Installed = installed_is s.status p.1 in
    let so : StatusOk v n s Installed = subst (λ st. StatusOk v n s st) z k.status in
    let co : CommittedOk v s Installed = subst (λ st. CommittedOk v s st) z k.committed in
    let f : IsFollower v n s = so.1 in
    let am : v.at n ≤ v.newest = d.at_made n in
    let ea : s.interval ≡ v.at n = k.at in
    let one : 1 ≤ s.interval = f.one in
    cond_both (ltb place (length s.log)) _ _ (λ o. Kept v n o)
    (λ lt.
    let o : Kept v n (and_sends (nothing s) (says_ack n from s)) = record {
      after = v;
      sound = d;
      later = later_refl v;
      only = only_refl v n;
      node = k;
      sent = ((omega arith, record { list = s.log; long = omega arith; held = record { list = s.log; held = so.0; begins = prefix_refl s.log } }), tt);
    } in o)
    (λ ge. cond_both ((eqb place (length s.log)) && is_none (refusal v.classes s.log r)) _ (nothing s) (λ o. Kept v n o)
    (λ y.
    let q : (eqb place (length s.log) ≡ true) × (is_none (refusal v.classes s.log r) ≡ true) = and_parts _ _ y in
    let pl : place ≡ length s.log = eqb-true _ _ q.0 in
    let u : Usable s (s.log ++ r ∷ []) = usable_push s r k.within in
    let w : Within v s.interval s.log = d.held_within s.interval n s.log so.0 in
    let top : HeldFrom v s.interval (first v s.interval) (h.before ++ r ∷ []) = subst (λ x. HeldFrom v x (first v x) (h.before ++ r ∷ [])) e h.top in
    let same : top.list ≡ w.firsts = same_Some _ _ (sym top.held ∙ w.held) in
    let hb : length h.before ≡ place = h.place in
    let bp : IsPrefix h.before w.firsts = prefix_same _ _ _ same (prefix_trans _ _ _ (prefix_more h.before (r ∷ [])) top.begins) in
    let eq : h.before ≡ s.log = prefix_equal h.before s.log (prefix_either h.before s.log w.firsts bp w.below (omega arith)) (omega arith) in
    let xs : List ClientRequest = s.log ++ r ∷ [] in
    let hs : Holds v n (s.log ++ r ∷ []) (v.base (v.at n)) = record {
      made = omega arith;
      acts = ap (λ x. has n (acting v x)) (sym ea) ∙ f.acts;
      grows = λ ys g. subst (λ x. IsPrefix x (s.log ++ r ∷ [])) (same_Some _ _ (sym so.0 ∙ ap (λ x. v.held x n) ea ∙ g)) (prefix_more s.log (r ∷ []));
      base_kept = λ ys g. refl;
      top = inr (subst (λ x. HeldFrom v x (first v x) (s.log ++ r ∷ [])) ea (subst (λ x. HeldFrom v s.interval (first v s.interval) (x ++ r ∷ [])) eq top));
      above = prefix_push _ _ r (subst (λ x. IsPrefix (v.base x) s.log) ea w.above);
      covered = λ a b lt. subst (λ x. Covered v a (v.base x)) ea (d.covered a s.interval w.firsts b (omega arith) w.held);
      proper = record { is_legal = push_legal d.log v.classes s.log r k.proper.is_legal (is_none_true _ q.1); brought = brought_push v s.log r k.proper.brought h.brought };
    } in
    let l : Later v (hold_view v n (s.log ++ r ∷ []) (v.base (v.at n))) = hold_later v n (s.log ++ r ∷ []) (v.base (v.at n)) hs in
    let own : (hold_view v n (s.log ++ r ∷ []) (v.base (v.at n))).held s.interval n ≡ Some (s.log ++ r ∷ []) = hold_held v n s.interval (s.log ++ r ∷ []) (v.base (v.at n)) ea in
    let after : NodeState = record s { log = s.log ++ r ∷ [] } in
    let o : Kept v n (and_sends (nothing (record s { log = s.log ++ r ∷ [] })) (says_ack n from (record s { log = s.log ++ r ∷ [] }))) = record {
      after = hold_view v n (s.log ++ r ∷ []) (v.base (v.at n));
      sound = hold_sound v n (s.log ++ r ∷ []) (v.base (v.at n)) d hs;
      later = l;
      only = hold_only v n (s.log ++ r ∷ []) (v.base (v.at n));
      node = hold_node v n (record s { log = s.log ++ r ∷ [] }) (v.base (v.at n)) d hs ea (k.members f.one)
          (subst (λ st. StatusOk (hold_view v n (s.log ++ r ∷ []) (v.base (v.at n))) n (record s { log = s.log ++ r ∷ [] }) st) (sym z)
          (own, record { one = f.one; acts = f.acts; other = f.other }))
          u.within
          (subst (λ st. CommittedOk (hold_view v n (s.log ++ r ∷ []) (v.base (v.at n))) (record s { log = s.log ++ r ∷ [] }) st) (sym z)
          (subst (λ x. ChosenBefore (hold_view v n (s.log ++ r ∷ []) (v.base (v.at n))) s.interval x) (sym u.same)
          (chosen_before_later v (hold_view v n (s.log ++ r ∷ []) (v.base (v.at n))) s.interval _ d l co)));
      sent = ((omega arith, record { list = s.log ++ r ∷ []; long = omega arith; held = record { list = s.log ++ r ∷ []; held = own; begins = prefix_refl (s.log ++ r ∷ []) } }), tt);
    } in o)
    (λ y. kept_nothing v n s d k)))
    (λ t. kept_nothing v n s d k)
