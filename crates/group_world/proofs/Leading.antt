-- The steps of an active primary.
use Rattle.std.proofs.Common.{◌≡◌, ℕ, zero, suc, ◌+◌, ◌<◌, ◌≤◌, true, ◌&&◌, ◌||◌, eqb, ltb, List, [], ◌∷◌, ◌++◌, length, take, drop, Option, Some, None, inl, inr, sym, ◌∙◌, refl, ap, subst, arith, min, max, append_assoc}
use Rattle.std.specs.List.{slice_get, Contains, AllByRecursion, AllZip}
use Rattle.std.proofs.lemmas.List.{take-append-drop, take-append-le, length-take-le, length-append, take-take}
use Rattle.std.proofs.lemmas.Option.{same_Some}
use Rattle.std.proofs.lemmas.Bool.{ltb-true, cases_lt, eqb-true, and_parts, cond_both, false≢true}
use mathlib.Core.List.{IsPrefix}
use Rattle.placement.specs.Placement.{has}
use Rattle.pg_log.specs.Requests.{ClientRequest}
use Rattle.pg_log.specs.Refusals.{place_of, refusal}
use Rattle.pg_log.specs.declared.log_error.LogError.{LogError}
use Rattle.group_world.specs.Maps.{GroupMap}
use Rattle.group_world.specs.Refusal.{of_log}
use Rattle.group_world.specs.Node.{NodeState, Outcome, nothing, refused, and_sends, to_others, is_asking, is_installing, is_active}
use Rattle.group_world.specs.Rules.{least_of, reply_packet, replies_from, commit, raised, append_new, append_unless, request_at, request, acknowledge}
use Rattle.group_world.specs.declared.status.Status.TheVariants.{Active}
use Rattle.group_world.specs.declared.party.Party.{Party}
use Rattle.group_world.specs.declared.party.Party.TheVariants.{Node as ANode, Monitor as TheMonitor, Client as AClient}
use Rattle.group_world.specs.declared.message.MessageKind.TheVariants.{Rep}
use Rattle.group_world.specs.declared.handle_error.HandleError.{HandleError}
use Rattle.group_world.specs.declared.handle_error.HandleError.TheVariants.{NotPrimary, Peering}
use Rattle.group_world.proofs.Lists.{has_cases, prefix_refl, prefix_more, prefix_push, prefix_same, prefix_length, take_prefix, take_in_front}
use Rattle.group_world.proofs.LogFacts.{LogLaws, push_legal, reply_answer}
use Rattle.group_world.proofs.View.{View, acting, first, HeldFrom, Covered, Chosen, Within, HeldBy, Sound, Later, chosen_later}
use Rattle.group_world.proofs.Holding.{hold_view, Holds, hold_later, hold_sound}
use Rattle.group_world.proofs.Nodes.{HeldLong, IsFirst, StatusOk, CommittedOk, NodeOk, ToNode, RepOk, PacketOk, zip_later, Kept, later_refl, only_refl, kept_nothing}
use Rattle.group_world.proofs.Steps.{active_is, all_packets_append, to_others_ok, hold_only, hold_node, hold_held}
use Rattle.group_world.proofs.Following.{brought_push}

-- a node leads its interval, and each member holds what it acknowledged
pub record Leads (v : View) (n : ℕ) (s : NodeState) : Type 0 where
  pub own : v.held s.interval n ≡ Some s.log
  pub first : IsFirst v n s
  pub active : v.active s.interval ≡ true
  pub acked : AllZip (λ m k. HeldLong v s.interval k m) (acting v s.interval) s.acked
  pub within : s.committed ≤ length s.log
  pub committed : Chosen v s.interval (take s.committed s.log)

pub least_of_le : (top : ℕ) (ks : List ℕ) → least_of top ks ≤ top
least_of_le top [] = omega arith
least_of_le top (k ∷ ks) = let h : least_of (min top k) ks ≤ min top k = least_of_le (min top k) ks in omega arith

-- each member holds at least the least acknowledged length
pub least_held : (v : View) (e top : ℕ) (ns ks : List ℕ) → AllZip (λ m k. HeldLong v e k m) ns ks → (m : ℕ) → has m ns ≡ true → HeldLong v e (least_of top ks) m
least_held v e top [] [] h m a = absurd (false≢true a)
least_held v e top [] (k ∷ ks) h m a = absurd h
least_held v e top (n ∷ ns) [] h m a = absurd h
least_held v e top (n ∷ ns) (k ∷ ks) h m a =
    elim (has_cases m n ns a) [
      | inl z ↦
          (let b : HeldLong v e k m = subst (λ x. HeldLong v e k x) z h.0 in
          let g : k ≤ length b.list = b.long in
          let le : least_of (min top k) ks ≤ min top k = least_of_le (min top k) ks in
          record { list = b.list; long = omega arith; held = b.held })
      | inr z ↦ least_held v e (min top k) ns ks h.1 m z
    ]

pub slice_get_mid : (xs ys : List ClientRequest) (r : ClientRequest) → slice_get (xs ++ r ∷ ys) (length xs) ≡ Some r
slice_get_mid [] ys r = refl
slice_get_mid (x ∷ xs) ys r = slice_get_mid xs ys r

pub replies_ok : LogLaws → (v : View) (e n : ℕ) (log front before rest : List ClientRequest) (k : ℕ) → Chosen v e front → IsPrefix front log → k ≡ length before → front ≡ before ++ rest
    → AllByRecursion (PacketOk v) (replies_from v.classes n log k rest)
replies_ok w v e n log front before [] k c p ke fe = tt
replies_ok w v e n log front before (r ∷ rs) k c p ke fe =
    let at : slice_get front k ≡ Some r = ap (λ x. slice_get x k) fe ∙ ap (slice_get (before ++ r ∷ rs)) ke ∙ slice_get_mid before rs r in
    let len : length front ≡ length before + length (r ∷ rs) = ap length fe ∙ length-append before (r ∷ rs) in
    let lt : k < length front = omega arith in
    let l1 : length (before ++ r ∷ []) ≡ length before + 1 = length-append before (r ∷ []) in (
      record { interval = e; list = front; chosen = c; reply = (record { request = r; stands = at; of_client = refl; of_number = refl }, reply_answer w v.classes front log k p lt) },
      replies_ok w v e n log front (before ++ r ∷ []) rs (suc k) c p (omega arith) (fe ∙ sym (append_assoc before (r ∷ []) rs)),
    )

-- what holds after a step that doesn't change the view
pub record Stays (v : View) (n : ℕ) (o : Outcome) : Type 0 where
  pub node : NodeOk v n o.node
  pub sent : AllByRecursion (PacketOk v) o.sent

pub kept_stays : (v : View) (n : ℕ) (o : Outcome) → Sound v → Stays v n o → Kept v n o
kept_stays v n o d h = record { after = v; sound = d; later = later_refl v; only = only_refl v n; node = h.node; sent = h.sent }

pub chosen_point : (v : View) (n : ℕ) (s : NodeState) (point : ℕ) → Sound v → Leads v n s → point ≡ max s.committed (least_of (length s.log) s.acked)
    → (point ≤ length s.log) × Chosen v s.interval (take point s.log)
chosen_point v n s point d k pe =
    let f : IsFirst v n s = k.first in
    let am : v.at n ≤ v.newest = d.at_made n in
    let hb : HeldBy v s.interval n = d.held_by s.interval n s.log k.own in
    let each : (m : ℕ) → has m (acting v s.interval) ≡ true → HeldLong v s.interval (least_of (length s.log) s.acked) m = λ m a. least_held v s.interval (length s.log) (acting v s.interval) s.acked k.acked m a in
    let front : (m : ℕ) (g : HeldLong v s.interval (least_of (length s.log) s.acked) m) → IsPrefix g.held.list s.log = λ m g.
    let w : Within v s.interval g.held.list = d.held_within s.interval m g.held.list g.held.held in
    let top : v.held s.interval (first v s.interval) ≡ Some s.log = ap (λ x. v.held s.interval x) (sym f.first) ∙ k.own in
    prefix_same _ _ _ (same_Some _ _ (sym w.held ∙ top)) w.below in
    let own : HeldLong v s.interval (least_of (length s.log) s.acked) n = each n hb.acts in
    let ol : length own.held.list ≤ length s.log = prefix_length _ _ (front n own) in
    let ob : length own.list ≤ length own.held.list = prefix_length _ _ own.held.begins in
    let oa : least_of (length s.log) s.acked ≤ length own.list = own.long in
    let wi : s.committed ≤ length s.log = k.within in
    let below : least_of (length s.log) s.acked ≤ length s.log = omega arith in
    let new : point ≡ least_of (length s.log) s.acked → (point ≤ length s.log) × Chosen v s.interval (take point s.log) = λ z. (
      omega arith,
      record {
        active = k.active;
        by_all = λ m a.
            let g : HeldLong v s.interval (least_of (length s.log) s.acked) m = each m a in
            let gl : length g.list ≤ length g.held.list = prefix_length _ _ g.held.begins in
            let ga : least_of (length s.log) s.acked ≤ length g.list = g.long in
            record { list = g.held.list; held = g.held.held; begins = take_in_front point g.held.list s.log (front m g) (omega arith) };
      },
    ) in
    let old : point ≡ s.committed → (point ≤ length s.log) × Chosen v s.interval (take point s.log) = λ z.
    (omega arith, subst (λ x. Chosen v s.interval (take x s.log)) (sym z) k.committed) in
    elim (cases_lt s.committed (least_of (length s.log) s.acked)) [ inl lt ↦ new (omega arith) | inr ge ↦ old (omega arith) ]

pub take_split : (a b : ℕ) (xs : List ClientRequest) → a ≤ b → b ≤ length xs → take b xs ≡ take a xs ++ drop a (take b xs)
take_split a b xs l h = sym (take-append-drop a (take b xs)) ∙ ap (λ x. x ++ drop a (take b xs)) (take-take a b xs l)

pub leads_commit : (v : View) (n : ℕ) (s : NodeState) → Sound v → NodeOk v n (record s { status = Active }) → Leads v n s → s.status ≡ Active → Stays v n (commit v.classes n s)
leads_commit v n s d k h z =
    let point : ℕ = max s.committed (least_of (length s.log) s.acked) in
    let c : (max s.committed (least_of (length s.log) s.acked) ≤ length s.log) × Chosen v s.interval (take (max s.committed (least_of (length s.log) s.acked)) s.log) = chosen_point v n s (max s.committed (least_of (length s.log) s.acked)) d h refl in
    record {
      node = record {
        at = k.at;
        members = k.members;
        status = subst (λ st. StatusOk v n (record s { committed = max s.committed (least_of (length s.log) s.acked) }) st) (sym z) (h.own, record { one = h.first.one; first = h.first.first }, h.active, h.acked);
        covered = k.covered;
        within = c.0;
        committed = subst (λ st. CommittedOk v (record s { committed = max s.committed (least_of (length s.log) s.acked) }) st) (sym z) c.1;
        proper = k.proper;
      };
      sent = replies_ok d.log v s.interval n s.log (take (max s.committed (least_of (length s.log) s.acked)) s.log) (take s.committed s.log) (drop s.committed (take (max s.committed (least_of (length s.log) s.acked)) s.log)) s.committed c.1
          (take_prefix (max s.committed (least_of (length s.log) s.acked)) s.log)
          (sym (length-take-le s.committed s.log h.within))
          (take_split s.committed (max s.committed (least_of (length s.log) s.acked)) s.log (omega arith) c.0);
    }

pub raise_ok : (v : View) (e m k : ℕ) (ns ks : List ℕ) → HeldLong v e k m → AllZip (λ j c. HeldLong v e c j) ns ks → AllZip (λ j c. HeldLong v e c j) ns (raised m k ns ks)
raise_ok v e m k [] [] g h = tt
raise_ok v e m k [] (c ∷ cs) g h = absurd h
raise_ok v e m k (n ∷ ns) [] g h = absurd h
raise_ok v e m k (n ∷ ns) (c ∷ cs) g h = (
  cond_both (eqb n m) (max c k) c (λ x. HeldLong v e x n)
      (λ z. let y : n ≡ m = eqb-true n m z in
      elim (cases_lt c k) [
        | inl lt ↦ subst (λ x. HeldLong v e x n) (omega arith) (subst (λ x. HeldLong v e k x) (sym y) g)
        | inr ge ↦ subst (λ x. HeldLong v e x n) (omega arith) h.0
      ])
      (λ z. h.0),
  raise_ok v e m k ns cs g h.1,
)

pub kept_ack : (v : View) (n : ℕ) (s : NodeState) (from : Party) (interval c : ℕ) → Sound v → NodeOk v n s → ToNode from (λ m. (interval ≤ v.newest) × HeldLong v interval c m) → Kept v n (acknowledge v.classes n s from interval c)
kept_ack v n s TheMonitor interval c d k h = kept_nothing v n s d k
kept_ack v n s (AClient client) interval c d k h = kept_nothing v n s d k
kept_ack v n s (ANode from) interval c d k h =
    cond_both ((eqb interval s.interval) && is_active s.status) _ (nothing s) (λ o. Kept v n o)
    (λ t.
    let p : (eqb interval s.interval ≡ true) × (is_active s.status ≡ true) = and_parts _ _ t in
    let e : interval ≡ s.interval = eqb-true _ _ p.0 in
    let z : s.status ≡ Active = active_is s.status p.1 in
    let so : StatusOk v n s Active = subst (λ st. StatusOk v n s st) z k.status in
    let co : CommittedOk v s Active = subst (λ st. CommittedOk v s st) z k.committed in
    let f : IsFirst v n s = so.1 in
    let s1 : NodeState = record s { acked = raised from c s.members.acting s.acked } in
    let ak : AllZip (λ j x. HeldLong v s.interval x j) (acting v s.interval) (raised from c s.members.acting s.acked) =
    subst (λ (x : GroupMap). AllZip (λ j x. HeldLong v s.interval x j) (acting v s.interval) (raised from c x.acting s.acked)) (sym (k.members f.one))
    (raise_ok v s.interval from c (acting v s.interval) s.acked (subst (λ x. HeldLong v x c from) e h.1) so.3) in
    kept_stays v n (commit v.classes n (record s { acked = raised from c s.members.acting s.acked })) d
    (leads_commit v n (record s { acked = raised from c s.members.acting s.acked }) d
    (record { at = k.at; members = k.members; status = (so.0, record { one = f.one; first = f.first }, so.2, ak); covered = k.covered; within = k.within; committed = co; proper = k.proper })
    (record { own = so.0; first = record { one = f.one; first = f.first }; active = so.2; acked = ak; within = k.within; committed = co }) z))
    (λ t. kept_nothing v n s d k)

pub slice_get_take : (n k : ℕ) (xs : List ClientRequest) → k < n → n ≤ length xs → slice_get (take n xs) k ≡ slice_get xs k
slice_get_take zero k xs l h = absurd (omega arith)
slice_get_take (suc n) k [] l h = refl
slice_get_take (suc n) zero (x ∷ xs) l h = refl
slice_get_take (suc n) (suc k) (x ∷ xs) l h = slice_get_take n k xs (omega arith) (omega arith)

-- a committed request is answered again
pub kept_again : (v : View) (n : ℕ) (s : NodeState) (r : ClientRequest) (j : ℕ) → Sound v → NodeOk v n s → s.status ≡ Active → place_of r.client r.number s.log ≡ Some j → Kept v n (request_at v.classes n s r (Some j))
kept_again v n s r j d k z e =
    let co : CommittedOk v s Active = subst (λ st. CommittedOk v s st) z k.committed in
    cond_both (ltb j s.committed) _ (nothing s) (λ o. Kept v n o)
    (λ t.
    let lt : j < s.committed = ltb-true j s.committed t in
    let wi : s.committed ≤ length s.log = k.within in
    let g = d.log.pairs s.log r.client r.number j e in
    let ll : length (take s.committed s.log) ≡ s.committed = length-take-le s.committed s.log wi in
    let o : Kept v n (and_sends (nothing s) (reply_packet v.classes n s.log j r)) = record {
      after = v;
      sound = d;
      later = later_refl v;
      only = only_refl v n;
      node = k;
      sent = (
        record {
          interval = s.interval;
          list = take s.committed s.log;
          chosen = co;
          reply = (
            record { request = g.1; stands = slice_get_take s.committed j s.log lt wi ∙ g.2; of_client = g.3; of_number = g.4 },
            reply_answer d.log v.classes (take s.committed s.log) s.log j (take_prefix s.committed s.log) (omega arith),
          );
        },
        tt,
      );
    } in o)
    (λ t. kept_nothing v n s d k)

-- a new request is appended
pub kept_append : (v : View) (n : ℕ) (s : NodeState) (r : ClientRequest) → Sound v → NodeOk v n s → s.status ≡ Active → Contains v.asked r → refusal v.classes s.log r ≡ None → Kept v n (append_new v.classes n s r)
kept_append v n s r d k z br t =
    let so : StatusOk v n s Active = subst (λ st. StatusOk v n s st) z k.status in
    let co : CommittedOk v s Active = subst (λ st. CommittedOk v s st) z k.committed in
    let f : IsFirst v n s = so.1 in
    let ea : s.interval ≡ v.at n = k.at in
    let one : 1 ≤ s.interval = f.one in
    let am : v.at n ≤ v.newest = d.at_made n in
    let hb : HeldBy v s.interval n = d.held_by s.interval n s.log so.0 in
    let w : Within v s.interval s.log = d.held_within s.interval n s.log so.0 in
    let hs : Holds v n (s.log ++ r ∷ []) (v.base (v.at n)) = record {
      made = omega arith;
      acts = ap (λ x. has n (acting v x)) (sym ea) ∙ hb.acts;
      grows = λ ys g. subst (λ x. IsPrefix x (s.log ++ r ∷ [])) (same_Some _ _ (sym so.0 ∙ ap (λ x. v.held x n) ea ∙ g)) (prefix_more s.log (r ∷ []));
      base_kept = λ ys g. refl;
      top = inl (f.first ∙ ap (first v) ea);
      above = prefix_push _ _ r (subst (λ x. IsPrefix (v.base x) s.log) ea w.above);
      covered = λ a b lt. subst (λ x. Covered v a (v.base x)) ea (d.covered a s.interval w.firsts b (omega arith) w.held);
      proper = record { is_legal = push_legal d.log v.classes s.log r k.proper.is_legal t; brought = brought_push v s.log r k.proper.brought br };
    } in
    let u : View = hold_view v n (s.log ++ r ∷ []) (v.base (v.at n)) in
    let l : Later v (hold_view v n (s.log ++ r ∷ []) (v.base (v.at n))) = hold_later v n (s.log ++ r ∷ []) (v.base (v.at n)) hs in
    let du : Sound (hold_view v n (s.log ++ r ∷ []) (v.base (v.at n))) = hold_sound v n (s.log ++ r ∷ []) (v.base (v.at n)) d hs in
    let own : (hold_view v n (s.log ++ r ∷ []) (v.base (v.at n))).held s.interval n ≡ Some (s.log ++ r ∷ []) = hold_held v n s.interval (s.log ++ r ∷ []) (v.base (v.at n)) ea in
    let lp : length (s.log ++ r ∷ []) ≡ length s.log + 1 = length-append s.log (r ∷ []) in
    let wi : s.committed ≤ length s.log = k.within in
    let self : HeldLong (hold_view v n (s.log ++ r ∷ []) (v.base (v.at n))) s.interval (length (s.log ++ r ∷ [])) n =
    record { list = s.log ++ r ∷ []; long = omega arith; held = record { list = s.log ++ r ∷ []; held = own; begins = prefix_refl (s.log ++ r ∷ []) } } in
    let ak : AllZip (λ j x. HeldLong (hold_view v n (s.log ++ r ∷ []) (v.base (v.at n))) s.interval x j) (acting v s.interval) (raised n (length (s.log ++ r ∷ [])) s.members.acting s.acked) =
    subst (λ (x : GroupMap). AllZip (λ j x. HeldLong (hold_view v n (s.log ++ r ∷ []) (v.base (v.at n))) s.interval x j) (acting v s.interval) (raised n (length (s.log ++ r ∷ [])) x.acting s.acked)) (sym (k.members f.one))
    (raise_ok (hold_view v n (s.log ++ r ∷ []) (v.base (v.at n))) s.interval n (length (s.log ++ r ∷ [])) (acting v s.interval) s.acked self
    (zip_later v (hold_view v n (s.log ++ r ∷ []) (v.base (v.at n))) s.interval (acting v s.interval) s.acked l so.3)) in
    let same : take s.committed (s.log ++ r ∷ []) ≡ take s.committed s.log = take-append-le s.committed s.log (r ∷ []) wi in
    let cu : Chosen (hold_view v n (s.log ++ r ∷ []) (v.base (v.at n))) s.interval (take s.committed (s.log ++ r ∷ [])) =
    subst (λ x. Chosen (hold_view v n (s.log ++ r ∷ []) (v.base (v.at n))) s.interval x) (sym same) (chosen_later v (hold_view v n (s.log ++ r ∷ []) (v.base (v.at n))) s.interval _ d l co) in
    let nu : NodeOk (hold_view v n (s.log ++ r ∷ []) (v.base (v.at n))) n (record s { log = s.log ++ r ∷ []; acked = raised n (length (s.log ++ r ∷ [])) s.members.acting s.acked; status = Active }) =
    hold_node v n (record s { log = s.log ++ r ∷ []; acked = raised n (length (s.log ++ r ∷ [])) s.members.acting s.acked; status = Active }) (v.base (v.at n)) d hs ea (k.members f.one)
    (own, record { one = f.one; first = f.first }, so.2, ak) (omega arith) cu in
    let st : Stays (hold_view v n (s.log ++ r ∷ []) (v.base (v.at n))) n (commit v.classes n (record s { log = s.log ++ r ∷ []; acked = raised n (length (s.log ++ r ∷ [])) s.members.acting s.acked })) =
    leads_commit (hold_view v n (s.log ++ r ∷ []) (v.base (v.at n))) n (record s { log = s.log ++ r ∷ []; acked = raised n (length (s.log ++ r ∷ [])) s.members.acting s.acked }) du nu
    (record { own = own; first = record { one = f.one; first = f.first }; active = so.2; acked = ak; within = omega arith; committed = cu }) z in
    let rep : RepOk (hold_view v n (s.log ++ r ∷ []) (v.base (v.at n))) s.interval (length s.log) r = record {
      made = omega arith;
      before = s.log;
      place = refl;
      brought = br;
      top = subst (λ x. HeldFrom (hold_view v n (s.log ++ r ∷ []) (v.base (v.at n))) s.interval x (s.log ++ r ∷ [])) f.first
          (record { list = s.log ++ r ∷ []; held = own; begins = prefix_refl (s.log ++ r ∷ []) });
    } in
    let o : Kept v n (record {
      node = (commit v.classes n (record s { log = s.log ++ r ∷ []; acked = raised n (length (s.log ++ r ∷ [])) s.members.acting s.acked })).node;
      sent = to_others n s.members.acting (Rep s.interval (length s.log) r) ++ (commit v.classes n (record s { log = s.log ++ r ∷ []; acked = raised n (length (s.log ++ r ∷ [])) s.members.acting s.acked })).sent;
      refusal = None;
    }) = record {
      after = hold_view v n (s.log ++ r ∷ []) (v.base (v.at n));
      sound = du;
      later = l;
      only = hold_only v n (s.log ++ r ∷ []) (v.base (v.at n));
      node = st.node;
      sent = all_packets_append (hold_view v n (s.log ++ r ∷ []) (v.base (v.at n))) _ _ (to_others_ok (hold_view v n (s.log ++ r ∷ []) (v.base (v.at n))) n s.members.acting (Rep s.interval (length s.log) r) (λ j a ne. rep)) st.sent;
    } in o

pub kept_refused : (v : View) (n : ℕ) (s : NodeState) (why : HandleError) → Sound v → NodeOk v n s → Kept v n (refused s why)
kept_refused v n s why d k = record { after = v; sound = d; later = later_refl v; only = only_refl v n; node = k; sent = tt }

pub kept_unless : (v : View) (n : ℕ) (s : NodeState) (r : ClientRequest) (o : Option LogError) → Sound v → NodeOk v n s → s.status ≡ Active → Contains v.asked r → refusal v.classes s.log r ≡ o → Kept v n (append_unless v.classes n s r o)
kept_unless v n s r None d k z br e = kept_append v n s r d k z br e
kept_unless v n s r (Some why) d k z br e = kept_refused v n s (of_log why) d k

pub kept_request_at : (v : View) (n : ℕ) (s : NodeState) (r : ClientRequest) (o : Option ℕ) → Sound v → NodeOk v n s → s.status ≡ Active → Contains v.asked r → place_of r.client r.number s.log ≡ o → Kept v n (request_at v.classes n s r o)
kept_request_at v n s r (Some j) d k z br e = kept_again v n s r j d k z e
kept_request_at v n s r None d k z br e = kept_unless v n s r (refusal v.classes s.log r) d k z br refl

pub kept_request : (v : View) (n : ℕ) (s : NodeState) (r : ClientRequest) → Sound v → NodeOk v n s → Contains v.asked r → Kept v n (request v.classes n s r)
kept_request v n s r d k br =
    cond_both (is_active s.status) _ _ (λ o. Kept v n o)
    (λ t. kept_request_at v n s r (place_of r.client r.number s.log) d k (active_is s.status t) br refl)
    (λ t. cond_both (is_asking s.status || is_installing s.status) _ _ (λ o. Kept v n o) (λ y. kept_refused v n s Peering d k) (λ y. kept_refused v n s NotPrimary d k))
