-- What the rules share: a list that replaces another, the same message to many nodes, and two steps
-- of one node.
use Rattle.std.proofs.Common.{◌≡◌, ℕ, ◌+◌, ◌≤◌, true, eqb, List, [], ◌∷◌, ◌++◌, length, take, Some, inl, inr, ◌∙◌, refl, ap, arith}
use Rattle.std.specs.Prelude.{is_none}
use Rattle.std.specs.List.{AllByRecursion}
use Rattle.std.proofs.lemmas.List.{take-append-le, length-append}
use Rattle.std.proofs.lemmas.Bool.{eqb-false, and_parts, cond_both}
use mathlib.Core.List.{IsPrefix}
use Rattle.placement.specs.Placement.{has}
use Rattle.pg_log.specs.Requests.{ClientRequest}
use Rattle.pg_log.specs.Log.{Classes, Legal}
use Rattle.pg_log.specs.Refusals.{first_refusal}
use Rattle.group_world.specs.Maps.{GroupMap}
use Rattle.group_world.specs.Node.{NodeState, Outcome, packet, to_all, to_others, is_waiting, is_installed, is_asking, is_installing, is_active}
use Rattle.group_world.specs.Rules.{begins, is_usable}
use Rattle.group_world.specs.declared.status.Status.{Status}
use Rattle.group_world.specs.declared.status.Status.TheVariants.{Waiting, Installed, Asking, Installing, Active}
use Rattle.group_world.specs.declared.party.Party.TheVariants.{Node as ANode}
use Rattle.group_world.specs.declared.message.MessageKind.{MessageKind}
use Rattle.group_world.specs.declared.message.Packet.{Packet}
use Rattle.group_world.proofs.Lists.{primary, has_head, has_tail, begins_true, take_kept, take_within, cell_cases, cell_same, spot_cases}
use Rattle.group_world.proofs.LogFacts.{LogLaws, list_legal}
use Rattle.group_world.proofs.View.{View, of_interval, first, HeldFrom, HeldBy, Sound, Later, covered_longer, covered_later, held_from_later}
use Rattle.group_world.proofs.Moves.{proper_later}
use Rattle.group_world.proofs.Holding.{hold_view, Holds, hold_later}
use Rattle.group_world.proofs.Nodes.{StatusOk, CommittedOk, NodeOk, MessageOk, PacketOk, Only, Kept}

pub installed_is : (st : Status) → is_installed st ≡ true → st ≡ Installed
installed_is Installed h = refl
installed_is _ h = cc

pub installing_is : (st : Status) → is_installing st ≡ true → st ≡ Installing
installing_is Installing h = refl
installing_is _ h = cc

pub asking_is : (st : Status) → is_asking st ≡ true → st ≡ Asking
asking_is Asking h = refl
asking_is _ h = cc

pub waiting_is : (st : Status) → is_waiting st ≡ true → st ≡ Waiting
waiting_is Waiting h = refl
waiting_is _ h = cc

pub active_is : (st : Status) → is_active st ≡ true → st ≡ Active
active_is Active h = refl
active_is _ h = cc

-- a list that a node may take in its log's place: it keeps what is committed
pub record Usable (s : NodeState) (xs : List ClientRequest) : Type 0 where
  pub within : s.committed ≤ length xs
  pub same : take s.committed xs ≡ take s.committed s.log

pub usable_true : (t : Classes) (s : NodeState) (xs : List ClientRequest) → s.committed ≤ length s.log → is_usable t s xs ≡ true → Usable s xs
usable_true t s xs l h =
    let p : (is_none (first_refusal t xs) ≡ true) × (begins (take s.committed s.log) xs ≡ true) = and_parts _ _ h in
    let q : IsPrefix (take s.committed s.log) xs = begins_true _ _ p.1 in
    record { within = take_within s.committed s.log xs l q; same = take_kept s.committed s.log xs l q }

pub usable_legal : LogLaws → (t : Classes) (s : NodeState) (xs : List ClientRequest) → is_usable t s xs ≡ true → Legal t xs
usable_legal g t s xs h =
    let p : (is_none (first_refusal t xs) ≡ true) × (begins (take s.committed s.log) xs ≡ true) = and_parts _ _ h in
    list_legal g t xs p.0

pub usable_push : (s : NodeState) (r : ClientRequest) → s.committed ≤ length s.log → Usable s (s.log ++ r ∷ [])
usable_push s r l =
    let k : length (s.log ++ r ∷ []) ≡ length s.log + 1 = length-append s.log (r ∷ []) in
    record { within = omega arith; same = take-append-le s.committed s.log (r ∷ []) l }

pub all_packets_append : (v : View) (ps qs : List Packet) → AllByRecursion (PacketOk v) ps → AllByRecursion (PacketOk v) qs → AllByRecursion (PacketOk v) (ps ++ qs)
all_packets_append v [] qs a b = b
all_packets_append v (p ∷ ps) qs a b = (a.0, all_packets_append v ps qs a.1 b)

pub to_others_ok : (v : View) (n : ℕ) (ns : List ℕ) (m : MessageKind)
    → ((k : ℕ) → has k ns ≡ true → (k ≡ n → ⊥) → MessageOk v (ANode n) (ANode k) m) → AllByRecursion (PacketOk v) (to_others n ns m)
to_others_ok v n [] m h = tt
to_others_ok v n (k ∷ ks) m h =
    let rest : AllByRecursion (PacketOk v) (to_others n ks m) = to_others_ok v n ks m (λ j a ne. h j (has_tail j k ks a) ne) in
    cond_both (eqb k n) (to_others n ks m) (packet n (ANode k) (m) ∷ to_others n ks m) (λ ps. AllByRecursion (PacketOk v) ps)
    (λ e. rest)
    (λ e. (h k (has_head k ks) (eqb-false k n e), rest))

pub to_all_ok : (v : View) (n : ℕ) (ns : List ℕ) (m : MessageKind)
    → ((k : ℕ) → has k ns ≡ true → MessageOk v (ANode n) (ANode k) m) → AllByRecursion (PacketOk v) (to_all n ns m)
to_all_ok v n [] m h = tt
to_all_ok v n (k ∷ ks) m h = (h k (has_head k ks), to_all_ok v n ks m (λ j a. h j (has_tail j k ks a)))

pub later_trans : (u v w : View) → Sound u → Later u v → Later v w → Later u w
later_trans u v w s k l =
    let a : u.newest ≤ v.newest = k.newest in
    let b : v.newest ≤ w.newest = l.newest in
    record {
      classes = l.classes ∙ k.classes;
      newest = omega arith;
      maps = λ e h. l.maps e (omega arith) ∙ k.maps e h;
      active = λ x h. l.active x (k.active x h);
      activated = λ x h. elim (l.activated x h) [ inl o ↦ k.activated x o | inr o ↦ inr (omega arith) ];
      at = λ n. let p : u.at n ≤ v.at n = k.at n in let q : v.at n ≤ w.at n = l.at n in omega arith;
      held = λ e n xs h. held_from_later v w e n xs l (k.held e n xs h);
      frozen = λ e n h. let p : u.at n ≤ v.at n = k.at n in l.frozen e n (omega arith) ∙ k.frozen e n h;
      base = λ e xs h.
          let hb : HeldBy u e (first u e) = s.held_by e (first u e) xs h in
          let am : u.at (first u e) ≤ u.newest = s.at_made (first u e) in
          let th : e ≤ u.at (first u e) = hb.there in
          let g : v.map_at e ≡ u.map_at e = k.maps e (omega arith) in
          let f : HeldFrom v e (first u e) xs = k.held e (first u e) xs h in
          l.base e f.list (ap (λ (x : GroupMap). v.held e (primary x)) g ∙ f.held) ∙ k.base e xs h;
      asked = λ r h. l.asked r (k.asked r h);
    }

pub only_trans : (u v w : View) (n : ℕ) → Only u v n → Only v w n → Only u w n
only_trans u v w n k l = record {
  newest = l.newest ∙ k.newest;
  maps = λ e. l.maps e ∙ k.maps e;
  active = λ a. l.active a ∙ k.active a;
  asked = l.asked ∙ k.asked;
  at = λ m h. l.at m h ∙ k.at m h;
  held = λ e m h. l.held e m h ∙ k.held e m h;
}

-- what holds after a step of the view
pub kept_then : (u v : View) (n : ℕ) (o : Outcome) → Sound u → Later u v → Only u v n → Kept v n o → Kept u n o
kept_then u v n o s l y k = record {
  after = k.after;
  sound = k.sound;
  later = later_trans u v k.after s l k.later;
  only = only_trans u v k.after n y k.only;
  node = k.node;
  sent = k.sent;
}

pub hold_only : (v : View) (n : ℕ) (xs b : List ClientRequest) → Only v (hold_view v n xs b) n
hold_only v n xs b = record {
  newest = refl;
  maps = λ e. refl;
  active = λ a. refl;
  asked = refl;
  at = λ m h. refl;
  held = λ e m h. elim (cell_cases e (v.at n) m n (Some xs) (v.held e m)) [ inl c ↦ absurd (h c.1) | inr c ↦ c.1 ];
}

-- a node that holds a new list in its interval
pub hold_node : (v : View) (n : ℕ) (s : NodeState) (b : List ClientRequest) → Sound v → Holds v n s.log b → s.interval ≡ v.at n
    → of_interval s.members ≡ v.map_at s.interval → StatusOk (hold_view v n s.log b) n s s.status → s.committed ≤ length s.log
    → CommittedOk (hold_view v n s.log b) s s.status → NodeOk (hold_view v n s.log b) n s
hold_node v n s b d p e m st wi co =
    let l : Later v (hold_view v n s.log b) = hold_later v n s.log b p in
    record {
      at = e;
      members = λ one. m;
      status = st;
      covered = λ a h acts lt. covered_later v (hold_view v n s.log b) a s.log d l (covered_longer v a b s.log (p.covered a h (omega arith)) p.above);
      within = wi;
      committed = co;
      proper = proper_later v (hold_view v n s.log b) s.log l p.proper;
    }

pub hold_held : (v : View) (n e : ℕ) (xs b : List ClientRequest) → e ≡ v.at n → (hold_view v n xs b).held e n ≡ Some xs
hold_held v n e xs b h = ap (λ k. (hold_view v n xs b).held k n) h ∙ cell_same (v.at n) n (Some xs) (v.held (v.at n) n)

pub hold_base : (v : View) (n e : ℕ) (xs b : List ClientRequest) → e ≡ v.at n → (hold_view v n xs b).base e ≡ b
hold_base v n e xs b h = elim (spot_cases e (v.at n) b (v.base e)) [ inl c ↦ c.1 | inr c ↦ absurd (c.0 h) ]
