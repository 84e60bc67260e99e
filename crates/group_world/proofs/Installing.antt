-- The steps of a node that installs.
use Rattle.std.proofs.Common.{◌≡◌, ℕ, ◌≤◌, false, ◌||◌, ltb, List, [], ◌∷◌, length, take, Some, None, inr, sym, ◌∙◌, refl, ap, subst, arith}
use Rattle.std.specs.List.{Contains}
use Rattle.std.proofs.lemmas.Option.{none-some}
use Rattle.std.proofs.lemmas.Bool.{ltb-false, or_parts, cond_both}
use mathlib.Core.List.{IsPrefix}
use Rattle.placement.specs.Placement.{has}
use Rattle.pg_log.specs.Requests.{ClientRequest}
use Rattle.pg_log.specs.Log.{Legal}
use Rattle.group_world.specs.Maps.{GroupMap}
use Rattle.group_world.specs.Node.{NodeState, Outcome, nothing, and_sends, is_waiting, is_installed}
use Rattle.group_world.specs.Rules.{is_usable, arrive, would_forget, says_installed, install_after, install}
use Rattle.group_world.specs.declared.status.Status.TheVariants.{Waiting, Installed}
use Rattle.group_world.specs.declared.party.Party.{Party}
use Rattle.group_world.proofs.Lists.{primary, prefix_refl, prefix_nil, prefix_cons}
use Rattle.group_world.proofs.View.{View, acting, first, HeldFrom, Covered, Within, Proper, Sound, Later, held_from_later}
use Rattle.group_world.proofs.Holding.{hold_view, Holds, hold_later, hold_sound}
use Rattle.group_world.proofs.Nodes.{Brought, IsFollower, StatusOk, ChosenBefore, CommittedOk, NodeOk, InstallOk, map_ok_later, packets_later, chosen_before_later, Kept, kept_nothing}
use Rattle.group_world.proofs.Steps.{installed_is, waiting_is, Usable, usable_true, usable_legal, all_packets_append, later_trans, only_trans, hold_only, hold_node, hold_held}
use Rattle.group_world.proofs.Moving.{kept_arrive, arrive_interval, arrive_committed, arrive_log}

pub brought_prefix : (v : View) (xs ys : List ClientRequest) → IsPrefix xs ys → Brought v ys → Brought v xs
brought_prefix v [] ys p h = tt
brought_prefix v (x ∷ xs) [] p h = absurd (cc (p.1))
brought_prefix v (x ∷ xs) (y ∷ ys) p h =
    let q : (x ≡ y) × IsPrefix xs ys = prefix_cons x y xs ys p in
    (subst (λ r. Contains v.asked r) (sym q.0) h.0, brought_prefix v xs ys q.1 h.1)

pub install_later : (v w : View) (m : GroupMap) (xs : List ClientRequest) → Later v w → InstallOk v m xs → InstallOk w m xs
install_later v w m xs l i =
    let g : w.map_at m.interval ≡ v.map_at m.interval = l.maps m.interval i.members.made in
    record {
      members = map_ok_later v w m l i.members;
      top = subst (λ (x : GroupMap). HeldFrom w m.interval (primary x) []) (sym g) (held_from_later v w m.interval (first v m.interval) [] l i.top);
      base = l.base m.interval i.top.list i.top.held ∙ i.base;
    }

-- a waiting node installs what its primary adopted
pub install_holds : (v : View) (n : ℕ) (s : NodeState) (m : GroupMap) (xs : List ClientRequest) → Sound v → NodeOk v n s → StatusOk v n s Waiting → s.interval ≡ m.interval → InstallOk v m xs → Legal v.classes xs → Holds v n xs (v.base (v.at n))
install_holds v n s m xs d k so e io le =
    let ea : s.interval ≡ v.at n = k.at in
    let ma : m.interval ≡ v.at n = sym e ∙ ea in
    let f : IsFollower v n s = so.1 in
    let one : 1 ≤ s.interval = f.one in
    let t : HeldFrom v m.interval (first v m.interval) [] = io.top in
    let w : Within v m.interval t.list = d.held_within m.interval (first v m.interval) t.list t.held in
    let pr : Proper v t.list = d.proper m.interval (first v m.interval) t.list t.held in
    let bx : v.base (v.at n) ≡ xs = ap v.base (sym ma) ∙ io.base in
    let xf : IsPrefix xs t.list = subst (λ y. IsPrefix y t.list) io.base w.above in
    record {
      made = omega arith;
      acts = ap (λ x. has n (acting v x)) (sym ea) ∙ f.acts;
      grows = λ ys g. absurd (none-some ys (sym so.0 ∙ ap (λ x. v.held x n) ea ∙ g));
      base_kept = λ ys g. refl;
      top = inr (subst (λ x. HeldFrom v x (first v x) xs) ma (record { list = t.list; held = t.held; begins = xf }));
      above = subst (λ y. IsPrefix y xs) (sym bx) (prefix_refl xs);
      covered = λ a b lt. subst (λ x. Covered v a (v.base x)) ma (d.covered a m.interval t.list b (omega arith) t.held);
      proper = record { is_legal = le; brought = brought_prefix v xs t.list xf pr.brought };
    }

-- a list that a node may take is one that a node with the same log and committed length may take
pub usable_at : (s t : NodeState) (xs : List ClientRequest) → t.committed ≡ s.committed → t.log ≡ s.log → Usable s xs → Usable t xs
usable_at s t xs e f u =
    let w : s.committed ≤ length xs = u.within in
    record { within = omega arith; same = ap (λ k. take k xs) e ∙ u.same ∙ ap (λ k. take k s.log) (sym e) ∙ ap (take t.committed) (sym f) }

pub kept_waiting : (v : View) (n : ℕ) (s : NodeState) (from : Party) (m : GroupMap) (xs : List ClientRequest) (o : Outcome) → Sound v → Usable o.node xs → Legal v.classes xs → InstallOk v m xs → Kept v n o
    → o.node.interval ≡ m.interval → o.node.status ≡ Waiting
    → Kept v n (and_sends (record { node = record (o.node) { status = Installed; log = xs }; sent = o.sent; refusal = None }) (says_installed n from o.node))
kept_waiting v n s from m xs o d us le io g e z =
    let du : Sound g.after = g.sound in
    let nk : NodeOk g.after n o.node = g.node in
    let iu : InstallOk g.after m xs = install_later v g.after m xs g.later io in
    let so : StatusOk g.after n o.node Waiting = subst (λ st. StatusOk g.after n o.node st) z nk.status in
    let co : CommittedOk g.after o.node Waiting = subst (λ st. CommittedOk g.after o.node st) z nk.committed in
    let lg : Legal g.after.classes xs = subst (λ t. Legal t xs) (sym g.later.classes) le in
    let ea : o.node.interval ≡ g.after.at n = nk.at in
    let f : IsFollower g.after n o.node = so.1 in
    let am : g.after.at n ≤ g.after.newest = du.at_made n in
    let hs : Holds g.after n xs (g.after.base (g.after.at n)) = install_holds g.after n o.node m xs du nk so e iu lg in
    let l : Later g.after (hold_view g.after n xs (g.after.base (g.after.at n))) = hold_later g.after n xs (g.after.base (g.after.at n)) hs in
    let own : (hold_view g.after n xs (g.after.base (g.after.at n))).held o.node.interval n ≡ Some xs = hold_held g.after n o.node.interval xs (g.after.base (g.after.at n)) ea in
    record {
      after = hold_view g.after n xs (g.after.base (g.after.at n));
      sound = hold_sound g.after n xs (g.after.base (g.after.at n)) du hs;
      later = later_trans v g.after (hold_view g.after n xs (g.after.base (g.after.at n))) d g.later l;
      only = only_trans v g.after (hold_view g.after n xs (g.after.base (g.after.at n))) n g.only (hold_only g.after n xs (g.after.base (g.after.at n)));
      node = hold_node g.after n (record (o.node) { status = Installed; log = xs }) (g.after.base (g.after.at n)) du hs ea (nk.members f.one)
          (own, record { one = f.one; acts = f.acts; other = f.other })
          us.within
          (subst (λ x. ChosenBefore (hold_view g.after n xs (g.after.base (g.after.at n))) o.node.interval x) (sym us.same)
          (chosen_before_later g.after (hold_view g.after n xs (g.after.base (g.after.at n))) o.node.interval _ du l co));
      sent = all_packets_append (hold_view g.after n xs (g.after.base (g.after.at n))) o.sent _
          (packets_later g.after (hold_view g.after n xs (g.after.base (g.after.at n))) o.sent du l g.sent)
          ((omega arith, record { list = xs; held = own; begins = prefix_nil xs }), tt);
    }

pub kept_installed_again : (v : View) (n : ℕ) (from : Party) (o : Outcome) → Kept v n o → o.node.status ≡ Installed → Kept v n (and_sends o (says_installed n from o.node))
kept_installed_again v n from o g z =
    let nk : NodeOk g.after n o.node = g.node in
    let so : StatusOk g.after n o.node Installed = subst (λ st. StatusOk g.after n o.node st) z nk.status in
    let ea : o.node.interval ≡ g.after.at n = nk.at in
    let am : g.after.at n ≤ g.after.newest = g.sound.at_made n in
    record {
      after = g.after;
      sound = g.sound;
      later = g.later;
      only = g.only;
      node = g.node;
      sent = all_packets_append g.after o.sent _ g.sent ((omega arith, record { list = o.node.log; held = so.0; begins = prefix_nil o.node.log }), tt);
    }

pub kept_install_at : (v : View) (n : ℕ) (s : NodeState) (from : Party) (m : GroupMap) (xs : List ClientRequest) → Sound v → Usable s xs → Legal v.classes xs → InstallOk v m xs → Kept v n (arrive n s m)
    → (arrive n s m).node.interval ≡ m.interval → Kept v n (install_after n from xs (arrive n s m))
kept_install_at v n s from m xs d us le io g e =
    let o : Outcome = arrive n s m in
    cond_both (is_waiting (arrive n s m).node.status) _ _ (λ x. Kept v n x)
    (λ t. kept_waiting v n s from m xs (arrive n s m) d (usable_at s o.node xs (arrive_committed n s m) (arrive_log n s m t) us) le io g e (waiting_is o.node.status t))
    (λ t. cond_both (is_installed (arrive n s m).node.status) _ (arrive n s m) (λ x. Kept v n x)
    (λ y. kept_installed_again v n from (arrive n s m) g (installed_is o.node.status y))
    (λ y. g))

pub kept_install : (v : View) (n : ℕ) (s : NodeState) (from : Party) (m : GroupMap) (xs : List ClientRequest) → Sound v → NodeOk v n s → InstallOk v m xs → Kept v n (install v.classes n s from m xs)
kept_install v n s from m xs d k io =
    cond_both (ltb m.interval s.interval || would_forget n s m) (nothing s) _ (λ o. Kept v n o)
    (λ t. kept_nothing v n s d k)
    (λ t.
    let p : (ltb m.interval s.interval ≡ false) × (would_forget n s m ≡ false) = or_parts _ _ t in
    let le : s.interval ≤ m.interval = ltb-false _ _ p.0 in
    cond_both (is_usable v.classes s xs) _ (nothing s) (λ o. Kept v n o)
    (λ y. kept_install_at v n s from m xs d (usable_true v.classes s xs k.within y) (usable_legal d.log v.classes s xs y) io (kept_arrive v n s m d k io.members p.1) (arrive_interval n s m le))
    (λ y. kept_nothing v n s d k))
