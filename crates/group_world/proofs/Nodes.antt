-- What holds of each node and of each message ever sent, and that it lasts.
use Rattle.std.proofs.Common.{◌≡◌, ℕ, ◌<◌, ◌≤◌, true, List, [], ◌∷◌, ◌++◌, length, take, Some, None, ◌⊎◌, inl, inr, sym, ◌∙◌, refl, ap, subst, arith}
use Rattle.std.specs.List.{Contains, AllByRecursion, AllZip}
use Rattle.placement.specs.Placement.{has}
use Rattle.pg_log.specs.Requests.{ClientRequest}
use Rattle.group_world.specs.Maps.{GroupMap, ActingInterval, interval_of}
use Rattle.group_world.specs.Node.{NodeState, Outcome, nothing}
use Rattle.group_world.specs.World.{IsTrueOf}
use Rattle.group_world.specs.declared.status.Status.{Status}
use Rattle.group_world.specs.declared.status.Status.TheVariants.{Out, Waiting, Installed, Asking, Installing, Active}
use Rattle.group_world.specs.declared.party.Party.{Party}
use Rattle.group_world.specs.declared.party.Party.TheVariants.{Node as ANode, Monitor as TheMonitor, Client as AClient}
use Rattle.group_world.specs.declared.message.MessageKind.{MessageKind}
use Rattle.group_world.specs.declared.message.MessageKind.TheVariants.{Query, Log as LogOf, Install, Installed as InstalledIn, AskActivate, Activated, Rep, Ack, Reply as ReplyTo}
use Rattle.group_world.specs.declared.message.Packet.{Packet}
use Rattle.group_world.proofs.Lists.{primary, prefix_refl}
use Rattle.group_world.proofs.View.{View, of_interval, acting, prev, first, HeldFrom, Covered, Chosen, IsMade, Proper, Sound, Later, covered_later, held_from_later, chosen_later}
use Rattle.group_world.proofs.Moves.{brought_later, proper_later}

abbrev pub Brought : View → List ClientRequest → Type 0
Brought v xs = AllByRecursion (Contains v.asked) xs

-- the node holds at least k requests in the interval
pub record HeldLong (v : View) (e k n : ℕ) : Type 0 where
  pub list : List ClientRequest
  pub long : k ≤ length list
  pub held : HeldFrom v e n list

-- a map that was made
pub record MapOk (v : View) (m : GroupMap) : Type 0 where
  pub one : 1 ≤ m.interval
  pub made : m.interval ≤ v.newest
  pub is : of_interval m ≡ v.map_at m.interval

-- a map of the interval was made, and its acting nodes are those of that map
pub record ActedOk (v : View) (a : ActingInterval) : Type 0 where
  pub made : a.interval ≤ v.newest
  pub is : a.acting ≡ acting v a.interval

pub acted_of_map : (v : View) (m : GroupMap) → MapOk v m → ActedOk v (interval_of m)
acted_of_map v m h = record { made = h.made; is = ap (λ (x : GroupMap). x.acting) h.is }

pub record IsHolding (v : View) (n : ℕ) (s : NodeState) : Type 0 where
  pub held : v.held s.interval n ≡ Some s.log

pub record IsFirst (v : View) (n : ℕ) (s : NodeState) : Type 0 where
  pub one : 1 ≤ s.interval
  pub first : n ≡ first v s.interval

pub record IsFollower (v : View) (n : ℕ) (s : NodeState) : Type 0 where
  pub one : 1 ≤ s.interval
  pub acts : has n (acting v s.interval) ≡ true
  pub other : n ≡ first v s.interval → ⊥

abbrev pub StatusOk : View → ℕ → NodeState → Status → Type 0
StatusOk v n s Out = v.held s.interval n ≡ None
StatusOk v n s Waiting = (v.held s.interval n ≡ None) × IsFollower v n s
StatusOk v n s Installed = (v.held s.interval n ≡ Some s.log) × IsFollower v n s
StatusOk v n s Asking = (v.held s.interval n ≡ None) × IsFirst v n s × (1 ≤ prev v s.interval)
StatusOk v n s Installing = (v.held s.interval n ≡ Some s.log) × IsFirst v n s × (v.base s.interval ≡ s.log) × ((m : ℕ) → has m s.joined ≡ true → HeldFrom v s.interval m [])
StatusOk v n s Active = (v.held s.interval n ≡ Some s.log) × IsFirst v n s × (v.active s.interval ≡ true) × AllZip (λ m k. HeldLong v s.interval k m) (acting v s.interval) s.acked

-- the list is empty, or was chosen in an earlier interval
abbrev pub ChosenBefore : View → ℕ → List ClientRequest → Type 0
ChosenBefore v e xs = (xs ≡ []) ⊎ ((a : ℕ) × (a < e) × Chosen v a xs)

abbrev pub CommittedOk : View → NodeState → Status → Type 0
CommittedOk v s Active = Chosen v s.interval (take s.committed s.log)
CommittedOk v s Out = ChosenBefore v s.interval (take s.committed s.log)
CommittedOk v s Waiting = ChosenBefore v s.interval (take s.committed s.log)
CommittedOk v s Installed = ChosenBefore v s.interval (take s.committed s.log)
CommittedOk v s Asking = ChosenBefore v s.interval (take s.committed s.log)
CommittedOk v s Installing = ChosenBefore v s.interval (take s.committed s.log)

pub record NodeOk (v : View) (n : ℕ) (s : NodeState) : Type 0 where
  pub at : s.interval ≡ v.at n
  pub members : 1 ≤ s.interval → of_interval s.members ≡ v.map_at s.interval
  pub status : StatusOk v n s s.status
  pub covered : (a : ℕ) → v.active a ≡ true → has n (acting v a) ≡ true → a < s.interval → Covered v a s.log
  pub within : s.committed ≤ length s.log
  pub committed : CommittedOk v s s.status
  pub proper : Proper v s.log

-- it is a node, and this holds of it
abbrev pub ToNode : Party → (ℕ → Type 0) → Type 0
ToNode (ANode n) P = P n
ToNode TheMonitor P = ⊥
ToNode (AClient c) P = ⊥

pub record LogOk (v : View) (e : ℕ) (xs : List ClientRequest) : Type 0 where
  pub made : e ≤ v.newest
  pub covered : (a : ℕ) → v.active a ≡ true → a < e → Covered v a xs
  pub brought : Brought v xs

pub record InstallOk (v : View) (m : GroupMap) (xs : List ClientRequest) : Type 0 where
  pub members : MapOk v m
  pub top : HeldFrom v m.interval (first v m.interval) []
  pub base : v.base m.interval ≡ xs

pub record RepOk (v : View) (e k : ℕ) (r : ClientRequest) : Type 0 where
  pub made : e ≤ v.newest
  pub before : List ClientRequest
  pub place : length before ≡ k
  pub brought : Contains v.asked r
  pub top : HeldFrom v e (first v e) (before ++ r ∷ [])

pub record AllHold (v : View) (e : ℕ) : Type 0 where
  pub one : 1 ≤ e
  pub made : e ≤ v.newest
  pub all : (m : ℕ) → has m (acting v e) ≡ true → HeldFrom v e m []

pub record ReplyOk (v : View) (m : MessageKind) : Type 0 where
  pub interval : ℕ
  pub list : List ClientRequest
  pub chosen : Chosen v interval list
  pub reply : IsTrueOf v.classes list m

abbrev pub MessageOk : View → Party → Party → MessageKind → Type 0
MessageOk v from to (Query m) = MapOk v m × ToNode to (λ k. (1 ≤ m.prev) × (has k (acting v m.prev) ≡ true))
MessageOk v from to (LogOf e xs) = LogOk v e xs
MessageOk v from to (Install m xs) = InstallOk v m xs × ToNode to (λ k. (has k m.acting ≡ true) × (k ≡ primary m → ⊥))
MessageOk v from to (InstalledIn e) = ToNode from (λ n. (e ≤ v.newest) × HeldFrom v e n [])
MessageOk v from to (AskActivate e) = AllHold v e
MessageOk v from to (Activated e) = v.active e ≡ true
MessageOk v from to (Rep e k r) = RepOk v e k r
MessageOk v from to (Ack e k) = ToNode from (λ n. (e ≤ v.newest) × HeldLong v e k n)
MessageOk v from to (ReplyTo c number k a) = ReplyOk v (ReplyTo c number k a)

abbrev pub PacketOk : View → Packet → Type 0
PacketOk v p = MessageOk v p.message.sender p.receiver p.message.kind

pub held_long_later : (v w : View) (e k n : ℕ) → Later v w → HeldLong v e k n → HeldLong w e k n
held_long_later v w e k n l h = record { list = h.list; long = h.long; held = held_from_later v w e n h.list l h.held }

pub map_ok_later : (v w : View) (m : GroupMap) → Later v w → MapOk v m → MapOk w m
map_ok_later v w m l h =
    let a : m.interval ≤ v.newest = h.made in
    let b : v.newest ≤ w.newest = l.newest in
    record { one = h.one; made = omega arith; is = h.is ∙ sym (l.maps m.interval h.made) }

pub acted_ok_later : (v w : View) (a : ActingInterval) → Later v w → ActedOk v a → ActedOk w a
acted_ok_later v w a l h =
    let p : a.interval ≤ v.newest = h.made in
    let q : v.newest ≤ w.newest = l.newest in
    record { made = omega arith; is = h.is ∙ sym (ap (λ (x : GroupMap). x.acting) (l.maps a.interval h.made)) }

pub to_node_later : (to : Party) (P Q : ℕ → Type 0) → ((k : ℕ) → P k → Q k) → ToNode to P → ToNode to Q
to_node_later (ANode n) P Q f h = f n h
to_node_later TheMonitor P Q f h = h
to_node_later (AClient c) P Q f h = h

pub covered_all_later : (v w : View) (e : ℕ) (xs : List ClientRequest) → Sound v → Later v w → e ≤ v.newest
    → ((a : ℕ) → v.active a ≡ true → a < e → Covered v a xs) → (a : ℕ) → w.active a ≡ true → a < e → Covered w a xs
covered_all_later v w e xs s l made c a h lt =
    elim (l.activated a h) [ inl old ↦ covered_later v w a xs s l (c a old lt) | inr new ↦ absurd (omega arith) ]

pub message_later : (v w : View) (from to : Party) (m : MessageKind) → Sound v → Later v w → MessageOk v from to m → MessageOk w from to m
message_later v w from to (Query m) s l h =
    let b : v.newest ≤ w.newest = l.newest in
    let mk : MapOk v m = h.0 in
    let made : IsMade v m.interval = s.made m.interval mk.one mk.made in
    let pb : prev v m.interval < m.interval = made.prev_below in
    let pe : m.prev ≡ prev v m.interval = ap (λ (x : GroupMap). x.prev) mk.is in
    let mm : m.interval ≤ v.newest = mk.made in
    let g : w.map_at m.prev ≡ v.map_at m.prev = l.maps m.prev (omega arith) in
    (map_ok_later v w m l h.0, to_node_later to _ _ (λ k p. (p.0, ap (λ (x : GroupMap). has k x.acting) g ∙ p.1)) h.1)
message_later v w from to (LogOf e xs) s l h =
    let a : e ≤ v.newest = h.made in
    let b : v.newest ≤ w.newest = l.newest in
    record { made = omega arith; covered = covered_all_later v w e xs s l h.made h.covered; brought = brought_later v w xs l h.brought }
message_later v w from to (Install m xs) s l h =
    let i : InstallOk v m xs = h.0 in
    let g : w.map_at m.interval ≡ v.map_at m.interval = l.maps m.interval i.members.made in (
      record {
        members = map_ok_later v w m l i.members;
        top = subst (λ (x : GroupMap). HeldFrom w m.interval (primary x) []) (sym g) (held_from_later v w m.interval (first v m.interval) [] l i.top);
        base = l.base m.interval i.top.list i.top.held ∙ i.base;
      },
      h.1,
    )
message_later v w from to (InstalledIn e) s l h =
    let b : v.newest ≤ w.newest = l.newest in
    to_node_later from _ _ (λ n p. (let a : e ≤ v.newest = p.0 in omega arith, held_from_later v w e n [] l p.1)) h
message_later v w from to (AskActivate e) s l h =
    let a : e ≤ v.newest = h.made in
    let b : v.newest ≤ w.newest = l.newest in
    let g : w.map_at e ≡ v.map_at e = l.maps e h.made in
    record { one = h.one; made = omega arith; all = λ m acts. held_from_later v w e m [] l (h.all m (sym (ap (λ (x : GroupMap). has m x.acting) g) ∙ acts)) }
message_later v w from to (Activated e) s l h = l.active e h
message_later v w from to (Rep e k r) s l h =
    let a : e ≤ v.newest = h.made in
    let b : v.newest ≤ w.newest = l.newest in
    let g : w.map_at e ≡ v.map_at e = l.maps e h.made in
    record {
      made = omega arith;
      before = h.before;
      place = h.place;
      brought = l.asked r h.brought;
      top = subst (λ (x : GroupMap). HeldFrom w e (primary x) (h.before ++ r ∷ [])) (sym g) (held_from_later v w e (first v e) (h.before ++ r ∷ []) l h.top);
    }
message_later v w from to (Ack e k) s l h =
    let b : v.newest ≤ w.newest = l.newest in
    to_node_later from _ _ (λ n p. (let a : e ≤ v.newest = p.0 in omega arith, held_long_later v w e k n l p.1)) h
message_later v w from to (ReplyTo c number k a) s l h =
    record { interval = h.interval; list = h.list; chosen = chosen_later v w h.interval h.list s l h.chosen; reply = subst (λ t. IsTrueOf t h.list (ReplyTo c number k a)) (sym l.classes) h.reply }

pub packets_later : (v w : View) (ps : List Packet) → Sound v → Later v w → AllByRecursion (PacketOk v) ps → AllByRecursion (PacketOk w) ps
packets_later v w [] s l h = h
packets_later v w (p ∷ ps) s l h = (message_later v w p.message.sender p.receiver p.message.kind s l h.0, packets_later v w ps s l h.1)

-- nothing changes except for node n
pub record Only (v w : View) (n : ℕ) : Type 0 where
  pub newest : w.newest ≡ v.newest
  pub maps : (e : ℕ) → w.map_at e ≡ v.map_at e
  pub active : (a : ℕ) → w.active a ≡ v.active a
  pub asked : w.asked ≡ v.asked
  pub at : (m : ℕ) → (m ≡ n → ⊥) → w.at m ≡ v.at m
  pub held : (e m : ℕ) → (m ≡ n → ⊥) → w.held e m ≡ v.held e m

pub zip_later : (v w : View) (e : ℕ) (ns ks : List ℕ) → Later v w → AllZip (λ m k. HeldLong v e k m) ns ks → AllZip (λ m k. HeldLong w e k m) ns ks
zip_later v w e [] [] l h = h
zip_later v w e [] (k ∷ ks) l h = h
zip_later v w e (n ∷ ns) [] l h = h
zip_later v w e (n ∷ ns) (k ∷ ks) l h = (held_long_later v w e k n l h.0, zip_later v w e ns ks l h.1)

pub chosen_before_later : (v w : View) (e : ℕ) (xs : List ClientRequest) → Sound v → Later v w → ChosenBefore v e xs → ChosenBefore w e xs
chosen_before_later v w e xs s l h = elim h [ inl z ↦ inl z | inr p ↦ inr (p.0, p.1, chosen_later v w p.0 xs s l p.2) ]

pub committed_later : (v w : View) (s : NodeState) (st : Status) → Sound v → Later v w → CommittedOk v s st → CommittedOk w s st
committed_later v w s Active d l h = chosen_later v w s.interval _ d l h
committed_later v w s Out d l h = chosen_before_later v w s.interval _ d l h
committed_later v w s Waiting d l h = chosen_before_later v w s.interval _ d l h
committed_later v w s Installed d l h = chosen_before_later v w s.interval _ d l h
committed_later v w s Asking d l h = chosen_before_later v w s.interval _ d l h
committed_later v w s Installing d l h = chosen_before_later v w s.interval _ d l h

pub follower_later : (v w : View) (n : ℕ) (s : NodeState) → w.map_at s.interval ≡ v.map_at s.interval → IsFollower v n s → IsFollower w n s
follower_later v w n s g h = record {
  one = h.one;
  acts = ap (λ (x : GroupMap). has n x.acting) g ∙ h.acts;
  other = λ e. h.other (e ∙ ap primary g);
}

pub first_later : (v w : View) (n : ℕ) (s : NodeState) → w.map_at s.interval ≡ v.map_at s.interval → IsFirst v n s → IsFirst w n s
first_later v w n s g h = record { one = h.one; first = h.first ∙ sym (ap primary g) }

-- what holds of a node's status lasts while what it holds in its interval stays
pub status_later : (v w : View) (n : ℕ) (s : NodeState) (st : Status) → Later v w → w.map_at s.interval ≡ v.map_at s.interval → w.held s.interval n ≡ v.held s.interval n → StatusOk v n s st → StatusOk w n s st
status_later v w n s Out l g e h = e ∙ h
status_later v w n s Waiting l g e h = (e ∙ h.0, follower_later v w n s g h.1)
status_later v w n s Installed l g e h = (e ∙ h.0, follower_later v w n s g h.1)
status_later v w n s Asking l g e h = (e ∙ h.0, first_later v w n s g h.1, subst (λ (x : GroupMap). 1 ≤ x.prev) (sym g) h.2)
status_later v w n s Installing l g e h =
    let f : IsFirst v n s = h.1 in (
      e ∙ h.0,
      first_later v w n s g h.1,
      l.base s.interval s.log (ap (λ k. v.held s.interval k) (sym f.first) ∙ h.0) ∙ h.2,
      λ m j. held_from_later v w s.interval m [] l (h.3 m j),
    )
status_later v w n s Active l g e h = (
  e ∙ h.0,
  first_later v w n s g h.1,
  l.active s.interval h.2,
  subst (λ (x : GroupMap). AllZip (λ m k. HeldLong w s.interval k m) x.acting s.acked) (sym g) (zip_later v w s.interval (acting v s.interval) s.acked l h.3),
)

pub node_covered_later : (v w : View) (n e : ℕ) (xs : List ClientRequest) → Sound v → Later v w → e ≤ v.newest
    → ((a : ℕ) → v.active a ≡ true → has n (acting v a) ≡ true → a < e → Covered v a xs)
    → (a : ℕ) → w.active a ≡ true → has n (acting w a) ≡ true → a < e → Covered w a xs
node_covered_later v w n e xs s l made c a h acts lt =
    elim (l.activated a h) [
      | inl old ↦ covered_later v w a xs s l (c a old (sym (ap (λ (x : GroupMap). has n x.acting) (l.maps a (s.active_made a old).1)) ∙ acts) lt)
      | inr new ↦ absurd (omega arith)
    ]

pub node_later : (v w : View) (n : ℕ) (s : NodeState) → Sound v → Later v w → w.at n ≡ v.at n → w.held s.interval n ≡ v.held s.interval n → NodeOk v n s → NodeOk w n s
node_later v w n s d l e h k =
    let a : s.interval ≡ v.at n = k.at in
    let b : v.at n ≤ v.newest = d.at_made n in
    let c : s.interval ≤ v.newest = omega arith in
    let g : w.map_at s.interval ≡ v.map_at s.interval = l.maps s.interval c in
    record {
      at = k.at ∙ sym e;
      members = λ one. k.members one ∙ sym g;
      status = status_later v w n s s.status l g h k.status;
      covered = node_covered_later v w n s.interval s.log d l c k.covered;
      within = k.within;
      committed = committed_later v w s s.status d l k.committed;
      proper = proper_later v w s.log l k.proper;
    }

-- what holds after a step of node n
pub record Kept (v : View) (n : ℕ) (o : Outcome) : Type 0 where
  pub after : View
  pub sound : Sound after
  pub later : Later v after
  pub only : Only v after n
  pub node : NodeOk after n o.node
  pub sent : AllByRecursion (PacketOk after) o.sent

pub later_refl : (v : View) → Later v v
later_refl v = record {
  classes = refl;
  newest = omega arith;
  maps = λ e h. refl;
  active = λ a h. h;
  activated = λ a h. inl h;
  at = λ n. omega arith;
  held = λ e n xs h. record { list = xs; held = h; begins = prefix_refl xs };
  frozen = λ e n h. refl;
  base = λ e xs h. refl;
  asked = λ r h. h;
}

pub only_refl : (v : View) (n : ℕ) → Only v v n
only_refl v n = record { newest = refl; maps = λ e. refl; active = λ a. refl; asked = refl; at = λ m h. refl; held = λ e m h. refl }

pub kept_nothing : (v : View) (n : ℕ) (s : NodeState) → Sound v → NodeOk v n s → Kept v n (nothing s)
kept_nothing v n s d k = record { after = v; sound = d; later = later_refl v; only = only_refl v n; node = k; sent = tt }
