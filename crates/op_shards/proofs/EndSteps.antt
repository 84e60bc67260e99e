-- A step of one end is a step of its pass.
use Rattle.std.proofs.Common.{◌≡◌, ℕ, zero, suc, ◌+◌, ◌<◌, List, [], ◌∷◌, ◌++◌, length, map, set, get_or, Option, Some, None, Result, refl, sym, ap, ◌∙◌, subst, arith}
use Rattle.std.specs.Prelude.{All, MatchOption, MatchResult, slice_get}
use Rattle.std.proofs.lemmas.List.{map-set, get_or-map, get_or-set_same, set-get_or, length-map}
use Rattle.std.proofs.Math.ListN.{get_or-map as get_or-map'}
use Rattle.std.proofs.lemmas.List.Elements.{All-get_or, All-set}
use Rattle.std.proofs.lemmas.Result.{MatchResult-weaker}
use Rattle.std.proofs.lemmas.Option.{slice_get_within, get_or_from_slice_get}
use Rattle.std.proofs.Math.Seq.{map-set_same, lt-length-set}
use Rattle.crossbeam_queue.specs.Fifo.{Held}
use Rattle.atomic_table.specs.Seated.{TableId}
use Rattle.op_shards.specs.declared.rule.QueuePosition.{QueuePosition}
use Rattle.op_shards.specs.declared.rule.Ranked.{Ranked}
use Rattle.op_shards.specs.Order.{queue_position, sender, taker, of, IsPartOf, AreFirstOf, IsHere, IsNextAfter, KeptWith, WasKept}
use Rattle.op_shards.specs.Passes.{Spot, spot_of, Queues, queues_of, spots_from, spots, shard_of, Sent, Got, Sender, Taker, ranked, parts_of, at_shard, pushed_at, after_submit, after_take, SenderWasKept, SenderWasKeptAt, TakerWasKept, TakerWasKeptAt}

-- the spot of the queue at an index
spot_from : (k n s t : ℕ) (qs : List TableId) (i : ℕ) (q : TableId) (d : Spot) → i < length qs → q ≡ get_or qs i q → get_or (spots_from k n s t qs) i d ≡ spot_of q (queue_position (k + i) n s t)
spot_from k n s t [] i q d lt at = absurd (omega (arith, lt))
spot_from k n s t (x ∷ qs) zero q d lt at = let z : k ≡ k + 0 = omega arith in λ j. spot_of (sym at j) (queue_position (z j) n s t)
spot_from k n s t (x ∷ qs) (suc i) q d lt at =
    let z : suc k + i ≡ k + suc i = omega arith in
    spot_from (suc k) n s t qs i q d (omega (arith, lt)) at ∙ ap (λ m. spot_of q (queue_position m n s t)) z

pub spot_at : (n s t : ℕ) (qs : List TableId) (i : ℕ) (q : TableId) (d : Spot) → i < length qs → q ≡ get_or qs i q → get_or (spots_from 0 n s t qs) i d ≡ spot_of q (queue_position i n s t)
spot_at n s t qs i q d lt at = let z : 0 + i ≡ i = omega arith in spot_from 0 n s t qs i q d lt at ∙ ap (λ m. spot_of q (queue_position m n s t)) z

pub length-spots : (k n s t : ℕ) (qs : List TableId) → length (spots_from k n s t qs) ≡ length qs
length-spots k n s t [] = refl
length-spots k n s t (x ∷ qs) = ap suc (length-spots (suc k) n s t qs)

module _ {A : Type 0} (spot : A → Spot) (s t : ℕ) where
  -- the queues of these ends
  abbrev queues_by : List A → Queues
  queues_by ends = queues_of (map (λ l. (spot l).queue) ends) s t

  abbrev AreInPlace : List A → Type 0
  AreInPlace ends = map spot ends ≡ spots (queues_by ends)

  place_of_end : (ends : List A) (i : ℕ) (x : A) → i < length ends → x ≡ get_or ends i x → AreInPlace ends → (spot x).place ≡ shard_of (queues_by ends) i
  place_of_end ends i x lt at is =
      let q = (spot x).queue in
      let here : q ≡ get_or (map (λ l. (spot l).queue) ends) i q = ap (λ l. (spot l).queue) at ∙ sym (get_or-map' (λ l. (spot l).queue) ends i x) in
      let within : i < length (map (λ l. (spot l).queue) ends) = omega (arith, lt, length-map ends (λ l. (spot l).queue)) in
      let whole : spot x ≡ spot_of q (shard_of (queues_by ends) i) =
      ap spot at ∙ sym (get_or-map' spot ends i x) ∙ ap (λ l. get_or l i (spot x)) is
      ∙ spot_at (length (map (λ l. (spot l).queue) ends)) s t (map (λ l. (spot l).queue) ends) i q (spot x) within here in
      ap (λ p. p.place) whole

  module _ (ends : List A) (k : ℕ) (x y : A) (lt : k < length ends) (at : x ≡ get_or ends k x) (same : spot y ≡ spot x) where
    queues_same : queues_by (set ends k y) ≡ queues_by ends
    queues_same = ap (λ l. queues_of l s t) (map-set_same (λ l. (spot l).queue) ends k y x (ap (λ p. p.queue) same ∙ ap (λ l. (spot l).queue) at))

    in_place_still : AreInPlace ends → AreInPlace (set ends k y)
    in_place_still is = map-set_same spot ends k y x (same ∙ ap spot at) ∙ is ∙ ap spots (sym queues_same)

module _ {T A : Type 0} (f : A → List (Ranked T)) (ends : List A) (k : ℕ) (x : A) (lt : k < length ends) (at : x ≡ get_or ends k x) where
  at_old : f x ≡ at_shard (map f ends) k
  at_old = ap f at ∙ sym (get_or-map f ends k x [] lt)

  at_new : (y : A) → f y ≡ at_shard (map f (set ends k y)) k
  at_new y = sym (get_or-map f (set ends k y) k y [] (lt-length-set ends k y lt) ∙ ap f (get_or-set_same ends k y y lt))

  with_new : (y : A) (z : Ranked T) → f y ≡ f x ++ z ∷ [] → map f (set ends k y) ≡ pushed_at (map f ends) k z
  with_new y z e = map-set f ends k y ∙ ap (λ l. set (map f ends) k l) (e ∙ ap (λ l. l ++ z ∷ []) at_old)

  end_same : (y : A) → y ≡ x → set ends k y ≡ ends
  end_same y e = ap (λ w. set ends k w) (e ∙ at) ∙ set-get_or ends k x

pub same_set : {A : Type 0} (xs : List A) (k : ℕ) (x y : A) → x ≡ get_or xs k x → y ≡ x → set xs k y ≡ xs
same_set xs k x y at e = ap (λ w. set xs k w) (e ∙ at) ∙ set-get_or xs k x

MatchOption-weaker : {X : Type 0} (o : Option X) {P P' : Type 0} {Q Q' : X → Type 0} → MatchOption o P Q → (P → P') → ((x : X) → Q x → Q' x) → MatchOption o P' Q'
MatchOption-weaker None m f g = f m
MatchOption-weaker (Some x) m f g = g x m

-- the pass has an end of the shard
pub in_range : {A : Type 0} (n : A → TableId) (ends : List A) (queues : List TableId) (k : ℕ) (q : TableId) → map n ends ≡ queues → slice_get queues k ≡ Some q → k < length ends
in_range n ends queues k q is has = let e = ap length is in omega (arith, slice_get_within queues k q has, length-map ends n, e)

-- that end is of the shard's queue
pub queue_at : {A : Type 0} (n : A → TableId) (ends : List A) (queues : List TableId) (k : ℕ) (q : TableId) (x : A) → map n ends ≡ queues → slice_get queues k ≡ Some q → x ≡ get_or ends k x → n x ≡ q
queue_at n ends queues k q x is has at = ap n at ∙ sym (get_or-map' n ends k x) ∙ ap (λ l. get_or l k (n x)) is ∙ get_or_from_slice_get queues k q (n x) has

-- a property of all ends is one of the end at an index
pub one_of_all : {A B : Type 0} (f : A → B) (b : B) (ends : List A) (k : ℕ) (x : A) → k < length ends → x ≡ get_or ends k x → All (λ l. f l ≡ b) ends → f x ≡ b
one_of_all f b ends k x lt at all = ap f at ∙ All-get_or (λ l. f l ≡ b) ends k x lt all

module _ {T : Type 0} where
  abbrev pub send_view : ℕ → ℕ → ℕ → List (Sent T) → Sender T
  send_view s t p ends = record { queues = queues_of (map (λ l. l.spot.queue) ends) s t; sender = p; accepted = map (λ l. l.accepted) ends }

  abbrev pub take_view : ℕ → ℕ → List (Got T) → Taker T
  take_view s t ends = record { queues = queues_of (map (λ l. l.spot.queue) ends) s t; takers = parts_of ends; taken = map (λ l. l.taken) ends }

  abbrev pub SendInPlace : ℕ → ℕ → List (Sent T) → Type 0
  SendInPlace s t ends = map (λ l. l.spot) ends ≡ spots (queues_of (map (λ l. l.spot.queue) ends) s t)

  abbrev pub TakeInPlace : ℕ → ℕ → List (Got T) → Type 0
  TakeInPlace s t ends = map (λ l. l.spot) ends ≡ spots (queues_of (map (λ l. l.spot.queue) ends) s t)

  pub send_place : (s t : ℕ) (ends : List (Sent T)) (k : ℕ) (x : Sent T) → k < length ends → x ≡ get_or ends k x → SendInPlace s t ends → x.spot.place ≡ shard_of (queues_of (map (λ l. l.spot.queue) ends) s t) k
  send_place s t ends k x lt at is = place_of_end (λ (l : Sent T). l.spot) s t ends k x lt at is

  pub take_place : (s t : ℕ) (ends : List (Got T)) (k : ℕ) (x : Got T) → k < length ends → x ≡ get_or ends k x → TakeInPlace s t ends → x.spot.place ≡ shard_of (queues_of (map (λ l. l.spot.queue) ends) s t) k
  take_place s t ends k x lt at is = place_of_end (λ (l : Got T). l.spot) s t ends k x lt at is

  pub send_place_still : (s t : ℕ) (ends : List (Sent T)) (k : ℕ) (x y : Sent T) → k < length ends → x ≡ get_or ends k x → y.spot ≡ x.spot → SendInPlace s t ends → SendInPlace s t (set ends k y)
  send_place_still s t ends k x y lt at same is = in_place_still (λ (l : Sent T). l.spot) s t ends k x y lt at same is

  pub take_place_still : (s t : ℕ) (ends : List (Got T)) (k : ℕ) (x y : Got T) → k < length ends → x ≡ get_or ends k x → y.spot ≡ x.spot → TakeInPlace s t ends → TakeInPlace s t (set ends k y)
  take_place_still s t ends k x y lt at same is = in_place_still (λ (l : Got T). l.spot) s t ends k x y lt at same is

  -- the number of parts stays if a changed end keeps its own
  parts_still : (ends : List (Got T)) (k : ℕ) (x y : Got T) → x ≡ get_or ends k x → y.parts ≡ x.parts → parts_of (set ends k y) ≡ parts_of ends
  parts_still [] k x y at e = refl
  parts_still (l ∷ ls) zero x y at e = e ∙ ap (λ (l : Got T). l.parts) at
  parts_still (l ∷ ls) (suc k) x y at e = refl

  pub all_parts_still : (ends : List (Got T)) (k : ℕ) (x y : Got T) → k < length ends → x ≡ get_or ends k x → y.parts ≡ x.parts → (0 < parts_of ends) × All (λ (l : Got T). l.parts ≡ parts_of ends) ends
      → (0 < parts_of (set ends k y)) × All (λ (l : Got T). l.parts ≡ parts_of (set ends k y)) (set ends k y)
  all_parts_still ends k x y lt at e all =
      let same = parts_still ends k x y at e in
      let mine : y.parts ≡ parts_of ends = e ∙ ap (λ (l : Got T). l.parts) at ∙ All-get_or (λ (l : Got T). l.parts ≡ parts_of ends) ends k x lt all.1 in
      subst (λ (n : ℕ). (0 < n) × All (λ (l : Got T). l.parts ≡ n) (set ends k y)) (sym same) (all.0, All-set (λ (l : Got T). l.parts ≡ parts_of ends) ends k y mine all.1)

module _ {T : Type 0} (group : T → ℕ) where
  pub sends : {U : Type 0} (s t p : ℕ) (ends : List (Sent T)) (k : ℕ) (x y : Sent T) (n : ℕ) (op : T) (r : Result U T) → k < length ends → x ≡ get_or ends k x
      → SendInPlace s t ends → All (λ (l : Sent T). l.sender ≡ p) ends → y.spot ≡ x.spot → y.sender ≡ x.sender
      → MatchResult r (λ _. (y.accepted ≡ x.accepted ++ ranked x.sender (length x.accepted) op ∷ []) × WasKept group (sender x.spot.place x.sender y.accepted))
      (λ o. (o ≡ op) × (y ≡ x) × Held n (KeptWith group (sender x.spot.place x.sender x.accepted)))
      → (v : Sender T) → send_view s t p ends ≡ v
      → MatchResult r (λ _. (send_view s t p (set ends k y) ≡ after_submit v k op) × SenderWasKept group (send_view s t p (set ends k y)) k)
      (λ o. (o ≡ op) × (send_view s t p (set ends k y) ≡ v) × SenderWasKeptAt group n v k)
  sends s t p ends k x y n op r lt at placed all spot same answer v is =
      let acc : Sent T → List (Ranked T) = λ l. l.accepted in
      let mine = one_of_all (λ (l : Sent T). l.sender) p ends k x lt at all in
      let old : x.accepted ≡ at_shard (map acc ends) k = at_old acc ends k x lt at in
      let place = send_place s t ends k x lt at placed in
      let queues = queues_same (λ (l : Sent T). l.spot) s t ends k x y lt at spot in
      subst (λ (w : Sender T). MatchResult r (λ _. (send_view s t p (set ends k y) ≡ after_submit w k op) × SenderWasKept group (send_view s t p (set ends k y)) k) (λ o. (o ≡ op) × (send_view s t p (set ends k y) ≡ w) × SenderWasKeptAt group n w k)) is
      (MatchResult-weaker r answer
      (λ u a.
      let more = with_new acc ends k x lt at y (ranked p (length (at_shard (map acc ends) k)) op) (a.0 ∙ (λ i. x.accepted ++ ranked (mine i) (length (old i)) op ∷ [])) in
      ((λ i. record { queues = queues i; sender = p; accepted = more i }), subst (WasKept group) (λ i. sender ((place ∙ ap (λ q. shard_of q k) (sym queues)) i) (mine i) (at_new acc ends k x lt at y i)) a.1))
      (λ o a. (a.0, ap (send_view s t p) (end_same acc ends k x lt at y a.1), subst (λ w. Held n (KeptWith group w)) (λ i. sender (place i) (mine i) (old i)) a.2)))

  pub takes_one : (s t : ℕ) (ends : List (Got T)) (k : ℕ) (x y : Got T) (r : Option (Ranked T)) → k < length ends → x ≡ get_or ends k x
      → TakeInPlace s t ends → All (λ (l : Got T). l.parts ≡ parts_of ends) ends → y.spot ≡ x.spot → y.parts ≡ x.parts
      → MatchOption r ((y ≡ x) × Held 0 (KeptWith group (taker x.spot.place x.parts x.taken)))
      (λ z. (y.taken ≡ x.taken ++ z ∷ []) × IsHere group x.spot.place z × IsNextAfter x.taken z × WasKept group (taker x.spot.place x.parts y.taken))
      → (v : Taker T) → take_view s t ends ≡ v
      → MatchOption r ((take_view s t (set ends k y) ≡ v) × TakerWasKeptAt group 0 v k)
      (λ z. (take_view s t (set ends k y) ≡ after_take v k z) × IsHere group (shard_of v.queues k) z × IsNextAfter (at_shard v.taken k) z × TakerWasKept group (take_view s t (set ends k y)) k)
  takes_one s t ends k x y r lt at placed all spot same answer v is =
      let acc : Got T → List (Ranked T) = λ l. l.taken in
      let old : x.taken ≡ at_shard (map acc ends) k = at_old acc ends k x lt at in
      let place = take_place s t ends k x lt at placed in
      let queues = queues_same (λ (l : Got T). l.spot) s t ends k x y lt at spot in
      let mine = one_of_all (λ (l : Got T). l.parts) (parts_of ends) ends k x lt at all in
      let parts = parts_still ends k x y at same in
      subst (λ (w : Taker T). MatchOption r ((take_view s t (set ends k y) ≡ w) × TakerWasKeptAt group 0 w k) (λ z. (take_view s t (set ends k y) ≡ after_take w k z) × IsHere group (shard_of w.queues k) z × IsNextAfter (at_shard w.taken k) z × TakerWasKept group (take_view s t (set ends k y)) k)) is
      (MatchOption-weaker r answer
      (λ a. (ap (take_view s t) (end_same acc ends k x lt at y a.0), subst (λ w. Held 0 (KeptWith group w)) (λ i. taker (place i) (mine i) (old i)) a.1))
      (λ z a.
      let more = with_new acc ends k x lt at y z a.0 in (
        (λ i. record { queues = queues i; takers = parts i; taken = more i }),
        subst (λ (q : QueuePosition). IsHere group q z) place a.1,
        subst (λ (l : List (Ranked T)). IsNextAfter l z) old a.2,
        subst (WasKept group) (λ i. taker ((place ∙ ap (λ q. shard_of q k) (sym queues)) i) ((mine ∙ sym parts) i) (at_new acc ends k x lt at y i)) a.3,
      )))

  -- the operations that the queue held at an end's look are those at its pass's look
  pub sender_held : (s t p : ℕ) (ends : List (Sent T)) (k : ℕ) (x : Sent T) (n : ℕ) → k < length ends → x ≡ get_or ends k x → SendInPlace s t ends → All (λ (l : Sent T). l.sender ≡ p) ends
      → Held n (KeptWith group (sender x.spot.place x.sender x.accepted)) → (v : Sender T) → send_view s t p ends ≡ v → SenderWasKeptAt group n v k
  sender_held s t p ends k x n lt at placed all held v is =
      let mine = one_of_all (λ (l : Sent T). l.sender) p ends k x lt at all in
      let old : x.accepted ≡ at_shard (map (λ (l : Sent T). l.accepted) ends) k = at_old (λ (l : Sent T). l.accepted) ends k x lt at in
      let place = send_place s t ends k x lt at placed in
      subst (λ (w : Sender T). SenderWasKeptAt group n w k) is (subst (λ w. Held n (KeptWith group w)) (λ i. sender (place i) (mine i) (old i)) held)

  pub taker_held : (s t : ℕ) (ends : List (Got T)) (k : ℕ) (x : Got T) (n : ℕ) → k < length ends → x ≡ get_or ends k x → TakeInPlace s t ends → All (λ (l : Got T). l.parts ≡ parts_of ends) ends
      → Held n (KeptWith group (taker x.spot.place x.parts x.taken)) → (v : Taker T) → take_view s t ends ≡ v → TakerWasKeptAt group n v k
  taker_held s t ends k x n lt at placed all held v is =
      let mine = one_of_all (λ (l : Got T). l.parts) (parts_of ends) ends k x lt at all in
      let old : x.taken ≡ at_shard (map (λ (l : Got T). l.taken) ends) k = at_old (λ (l : Got T). l.taken) ends k x lt at in
      let place = take_place s t ends k x lt at placed in
      subst (λ (w : Taker T). TakerWasKeptAt group n w k) is (subst (λ w. Held n (KeptWith group w)) (λ i. taker (place i) (mine i) (old i)) held)

-- changing an element keeps a list of values if the element keeps its value
pub same_map : {A B : Type 0} (f : A → B) (xs : List A) (ys : List B) (i : ℕ) (x y : A) → x ≡ get_or xs i x → f y ≡ f x → map f xs ≡ ys → map f (set xs i y) ≡ ys
same_map f xs ys i x y at e is = map-set_same f xs i y x (e ∙ ap f at) ∙ is

-- if two lists have the same values, so have their elements at one place
pub same_at : {A C B : Type 0} (f : A → B) (g : C → B) (xs : List A) (ys : List C) (i : ℕ) (x : A) (y : C) → i < length ys → map f xs ≡ map g ys → x ≡ get_or xs i x → y ≡ get_or ys i y → f x ≡ g y
same_at f g xs ys i x y lt same at here = ap f at ∙ sym (get_or-map' f xs i x) ∙ ap (λ l. get_or l i (f x)) same ∙ get_or-map g ys i y (f x) lt ∙ sym (ap g here)

pub length_by : {A C B : Type 0} (f : A → B) (g : C → B) (xs : List A) (ys : List C) → map f xs ≡ map g ys → length xs ≡ length ys
length_by f g xs ys e = sym (length-map xs f) ∙ ap length e ∙ length-map ys g

-- the ends' knowledge of a shard is that of their passes
pub part_of_ends : {T : Type 0} (s t p : ℕ) (mine : List (Sent T)) (s' t' : ℕ) (theirs : List (Got T)) (k : ℕ) (x : Sent T) (z : Got T) → k < length mine → k < length theirs → x ≡ get_or mine k x → z ≡ get_or theirs k z
    → All (λ (l : Sent T). l.sender ≡ p) mine → IsPartOf (of x.sender z.taken) x.accepted
    → (v : Sender T) (u : Taker T) → send_view s t p mine ≡ v → take_view s' t' theirs ≡ u
    → IsPartOf (of v.sender (at_shard u.taken k)) (at_shard v.accepted k)
part_of_ends {T} s t p mine s' t' theirs k x z lt gt at here senders learned v u is is' =
    let who = one_of_all (λ (l : Sent T). l.sender) p mine k x lt at senders ∙ ap (λ (w : Sender T). w.sender) is in
    let accepted = at_old (λ (l : Sent T). l.accepted) mine k x lt at ∙ ap (λ (w : Sender T). at_shard w.accepted k) is in
    let taken = at_old (λ (l : Got T). l.taken) theirs k z gt here ∙ ap (λ (w : Taker T). at_shard w.taken k) is' in
    subst (λ (q : ℕ × List (Ranked T) × List (Ranked T)). IsPartOf (of q.0 q.1) q.2) (λ i. (who i, taken i, accepted i)) learned

pub first_of_ends : {T : Type 0} (s t p : ℕ) (mine : List (Sent T)) (s' t' : ℕ) (theirs : List (Got T)) (k : ℕ) (x : Sent T) (z : Got T) → k < length mine → k < length theirs → x ≡ get_or mine k x → z ≡ get_or theirs k z
    → SendInPlace s t mine → All (λ (l : Sent T). l.sender ≡ p) mine → All (λ (l : Got T). l.parts ≡ parts_of theirs) theirs
    → (z.parts ≡ x.spot.place.takers → AreFirstOf (of x.sender z.taken) x.accepted)
    → (v : Sender T) (u : Taker T) → send_view s t p mine ≡ v → take_view s' t' theirs ≡ u → u.queues ≡ v.queues → u.takers ≡ u.queues.takers
    → AreFirstOf (of v.sender (at_shard u.taken k)) (at_shard v.accepted k)
first_of_ends {T} s t p mine s' t' theirs k x z lt gt at here placed senders parts learned v u is is' same whole =
    let same_sender = one_of_all (λ (l : Sent T). l.sender) p mine k x lt at senders in
    let part = one_of_all (λ (l : Got T). l.parts) (parts_of theirs) theirs k z gt here parts in
    let takers = ap (λ q. q.takers) (send_place s t mine k x lt at placed) in
    let all : parts_of theirs ≡ t = ap (λ (w : Taker T). w.takers) is' ∙ whole ∙ ap (λ (q : Queues). q.takers) same ∙ sym (ap (λ (w : Sender T). w.queues.takers) is) in
    let accepted = at_old (λ (l : Sent T). l.accepted) mine k x lt at ∙ ap (λ (w : Sender T). at_shard w.accepted k) is in
    let taken = at_old (λ (l : Got T). l.taken) theirs k z gt here ∙ ap (λ (w : Taker T). at_shard w.taken k) is' in
    let who = same_sender ∙ ap (λ (w : Sender T). w.sender) is in
    subst (λ (q : ℕ × List (Ranked T) × List (Ranked T)). AreFirstOf (of q.0 q.1) q.2) (λ i. (who i, taken i, accepted i)) (learned (part ∙ all ∙ sym takers))
