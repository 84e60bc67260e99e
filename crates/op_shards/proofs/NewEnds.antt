-- The ends of a new pass.
use Rattle.std.proofs.Common.{◌≡◌, ℕ, zero, suc, ◌+◌, ◌<◌, ◌≤◌, List, [], ◌∷◌, ◌++◌, length, map, set, take, drop, get_or, refl, sym, ap, ◌∙◌, subst, arith}
use Rattle.std.specs.Prelude.{All}
use Rattle.std.proofs.lemmas.List.{length-map, map_more, take_all}
use Rattle.std.proofs.Math.ListN.{get_or-map as get_or-map'}
use Rattle.std.specs.List.{range_with_len}
use Rattle.std.proofs.lemmas.List.FromFn.{map-range_with_len_more}
use Rattle.crossbeam_queue.specs.declared.array_queue.Slotted.{Slotted}
use Rattle.atomic_table.specs.Seated.{TableId}
use Rattle.op_shards.specs.declared.rule.Ranked.{Ranked}
use Rattle.op_shards.specs.Order.{queue_position}
use Rattle.op_shards.specs.Passes.{name, names, Spot, spot_of, queues_of, spots_from, spots, FreeEndState, free_end_state, Sent, Got, new_send, new_take, parts_of, new_sender, new_taker}
use Rattle.op_shards.proofs.EndSteps.{spot_at, length-spots, take_view, SendInPlace, TakeInPlace}

-- one more element of a list that a loop goes over by its index
one_more_from : {A B : Type 0} (f g : A → B) (xs : List A) (i : ℕ) (q : A) (y : B) → i < length xs → y ≡ f (get_or xs i q) → set (map f (take i xs) ++ map g (drop i xs)) i y ≡ map f (take (suc i) xs) ++ map g (drop (suc i) xs)
one_more_from f g [] i q y lt e = absurd (omega arith)
one_more_from f g (x ∷ xs) zero q y lt e = ap (λ w. w ∷ map g xs) e
one_more_from f g (x ∷ xs) (suc i) q y lt e = ap (λ l. f x ∷ l) (one_more_from f g xs i q y (omega arith) e)

pub one_more : {A B : Type 0} (f g : A → B) (xs : List A) (ys : List B) (i : ℕ) (q : A) (y : B) → i < length xs → ys ≡ map f (take i xs) ++ map g (drop i xs) → y ≡ f (get_or xs i q)
    → set ys i y ≡ map f (take (i + 1) xs) ++ map g (drop (i + 1) xs)
one_more f g xs ys i q y lt is e =
    let n : suc i ≡ i + 1 = omega arith in
    subst (λ n. set ys i y ≡ map f (take n xs) ++ map g (drop n xs)) n (ap (λ l. set l i y) is ∙ one_more_from f g xs i q y lt e)

-- the element at the loop's index isn't changed yet
pub at_turn : {A B : Type 0} (f g : A → B) (xs : List A) (ys : List B) (i : ℕ) (q : A) (x : B) → i < length xs → ys ≡ map f (take i xs) ++ map g (drop i xs) → q ≡ get_or xs i q → x ≡ get_or ys i x → x ≡ g q
at_turn {A} {B} f g xs ys i q x lt is here at = at ∙ ap (λ l. get_or l i x) is ∙ turn xs i lt ∙ sym (ap g here)
  where
    turn : (xs : List A) (i : ℕ) → i < length xs → get_or (map f (take i xs) ++ map g (drop i xs)) i x ≡ g (get_or xs i q)
    turn [] i lt = absurd (omega arith)
    turn (y ∷ ys) zero lt = refl
    turn (y ∷ ys) (suc i) lt = turn ys i (omega arith)

pub more_ends : {A B : Type 0} (f : A → B) (xs : List A) (ys zs : List B) (i : ℕ) (q : A) (y : B) → i < length xs → q ≡ get_or xs i q → ys ≡ map f (take i xs) → y ≡ f q → zs ≡ ys ++ y ∷ [] → zs ≡ map f (take (i + 1) xs)
more_ends f xs ys zs i q y lt here so is more = more ∙ (λ k. so k ++ (is ∙ ap f here) k ∷ []) ∙ sym (map_more f xs i q lt)

pub whole : {A B : Type 0} (f : A → B) (xs : List A) (ys : List B) (i : ℕ) → length xs ≤ i → ys ≡ map f (take i xs) → ys ≡ map f xs
whole f xs ys i le is = is ∙ ap (map f) (take_all i xs le)

all_done : {A B : Type 0} (f g : A → B) (xs : List A) (i : ℕ) → length xs ≤ i → map f (take i xs) ++ map g (drop i xs) ≡ map f xs
all_done f g [] zero le = refl
all_done f g [] (suc i) le = refl
all_done f g (x ∷ xs) zero le = absurd (omega arith)
all_done f g (x ∷ xs) (suc i) le = ap (λ l. f x ∷ l) (all_done f g xs i (omega arith))

split_length : {A B : Type 0} (f g : A → B) (xs : List A) (i : ℕ) → length (map f (take i xs) ++ map g (drop i xs)) ≡ length xs
split_length f g [] zero = refl
split_length f g [] (suc i) = refl
split_length f g (x ∷ xs) zero = length-map (x ∷ xs) g
split_length f g (x ∷ xs) (suc i) = ap suc (split_length f g xs i)

-- the loop keeps the list's length
pub still_long : {A B : Type 0} (f g : A → B) (xs : List A) (ys : List B) (i : ℕ) → ys ≡ map f (take i xs) ++ map g (drop i xs) → length ys ≡ length xs
still_long f g xs ys i is = ap length is ∙ split_length f g xs i

-- after the last element all are changed
pub done : {A B : Type 0} (f g : A → B) (xs : List A) (ys : List B) (i : ℕ) → length xs ≤ i → ys ≡ map f (take i xs) ++ map g (drop i xs) → ys ≡ map f xs
done f g xs ys i le is = is ∙ all_done f g xs i le

pub map_twice : {A B C : Type 0} (f : A → B) (g : B → C) (xs : List A) → map g (map f xs) ≡ map (λ x. g (f x)) xs
map_twice f g [] = refl
map_twice f g (x ∷ xs) = ap (λ l. g (f x) ∷ l) (map_twice f g xs)

-- one more queue, at the next shard
pub spots_more : (k n s t : ℕ) (qs : List TableId) (q : TableId) → spots_from k n s t (qs ++ q ∷ []) ≡ spots_from k n s t qs ++ spot_of q (queue_position (k + length qs) n s t) ∷ []
spots_more k n s t [] q = let z : k ≡ k + 0 = omega arith in λ j. spot_of q (queue_position (z j) n s t) ∷ []
spots_more k n s t (x ∷ qs) q =
    let z : suc k + length qs ≡ k + suc (length qs) = omega arith in
    ap (λ l. spot_of x (queue_position k n s t) ∷ l) (spots_more (suc k) n s t qs q ∙ ap (λ m. spots_from (suc k) n s t qs ++ spot_of q (queue_position m n s t) ∷ []) z)

-- taking the queues from the spots of a list of queues gives the list again
queues_of_spots : (k n s t : ℕ) (qs : List TableId) → map (λ p. p.queue) (spots_from k n s t qs) ≡ qs
queues_of_spots k n s t [] = refl
queues_of_spots k n s t (q ∷ qs) = ap (λ l. q ∷ l) (queues_of_spots (suc k) n s t qs)

map_same : {A : Type 0} (xs : List A) → map (λ x. x) xs ≡ xs
map_same [] = refl
map_same (x ∷ xs) = ap (λ l. x ∷ l) (map_same xs)

-- the spot of the queue at an index
map_snoc : {A B : Type 0} (f : A → B) (xs : List A) (x : A) → map f (xs ++ x ∷ []) ≡ map f xs ++ f x ∷ []
map_snoc f [] x = refl
map_snoc f (y ∷ ys) x = ap (λ l. f y ∷ l) (map_snoc f ys x)

all_snoc : {X : Type 0} (P : X → Type 0) (xs : List X) (x : X) → All P xs → P x → All P (xs ++ x ∷ [])
all_snoc P [] x all p zero d lt = p
all_snoc P [] x all p (suc k) d lt = absurd (omega (arith, lt))
all_snoc P (y ∷ ys) x all p zero d lt = all 0 y (omega arith)
all_snoc P (y ∷ ys) x all p (suc k) d lt = all_snoc P ys x (λ j u l. all (suc j) u (omega (arith, l))) p k d (omega (arith, lt))

pub all_more_of : {X : Type 0} (P : X → Type 0) (xs ys : List X) (x : X) → ys ≡ xs ++ x ∷ [] → All P xs → P x → All P ys
all_more_of P xs ys x more all p = subst (All P) (sym more) (all_snoc P xs x all p)

-- one more queue, and its free end with all senders and takers
pub more_free_ends : {S D Q A : Type 0} (n s t k : ℕ) (queues queues' : List (Slotted S D Q A)) (q : Slotted S D Q A) (ds ds' : List FreeEndState) (d : FreeEndState) → length queues ≡ k → ds ≡ map (free_end_state 0 t) (spots_from 0 n s t (names queues))
    → d ≡ free_end_state 0 t (spot_of (name q) (queue_position k n s t)) → queues' ≡ queues ++ q ∷ [] → ds' ≡ ds ++ d ∷ [] → ds' ≡ map (free_end_state 0 t) (spots_from 0 n s t (names queues'))
more_free_ends n s t k queues queues' q ds ds' d long is new more more' =
    let all = ap names more ∙ map_snoc (λ q. name q) queues q in
    let at : 0 + length (names queues) ≡ k = omega (arith, long, length-map queues (λ q. name q)) in
    let spots' = ap (spots_from 0 n s t) all ∙ spots_more 0 n s t (names queues) (name q) ∙ ap (λ m. spots_from 0 n s t (names queues) ++ spot_of (name q) (queue_position m n s t) ∷ []) at in
    more' ∙ (λ i. is i ++ new i ∷ []) ∙ sym (ap (map (free_end_state 0 t)) spots' ∙ map_snoc (free_end_state 0 t) (spots_from 0 n s t (names queues)) (spot_of (name q) (queue_position k n s t)))

-- the spots, given the number of queues
pub all_spots : {S D Q A : Type 0} (n s t : ℕ) (queues : List (Slotted S D Q A)) → length queues ≡ n → spots_from 0 n s t (names queues) ≡ spots (queues_of (names queues) s t)
all_spots n s t queues long = let e : n ≡ length (names queues) = sym (length-map queues (λ q. name q) ∙ long) in ap (λ m. spots_from 0 m s t (names queues)) e

pub spot_here : {S D Q A : Type 0} (queues : List (Slotted S D Q A)) (s t i : ℕ) (q : Slotted S D Q A) → i < length queues → q ≡ get_or queues i q
    → (i < length (spots (queues_of (names queues) s t))) × (spot_of (name q) (queue_position i (length (names queues)) s t) ≡ get_or (spots (queues_of (names queues) s t)) i (spot_of (name q) (queue_position i (length (names queues)) s t)))
spot_here queues s t i q lt at =
    let n = length (names queues) in
    let within : i < n = omega (arith, lt, length-map queues (λ q. name q)) in
    let d = spot_of (name q) (queue_position i n s t) in
    (omega (arith, within, length-spots 0 n s t (names queues)), sym (spot_at n s t (names queues) i (name q) d within (ap (λ q. name q) at ∙ sym (get_or-map' (λ q. name q) queues i q))))

pub length_spots_of : {S D Q A : Type 0} (queues : List (Slotted S D Q A)) (s t : ℕ) → length (spots (queues_of (names queues) s t)) ≡ length queues
length_spots_of queues s t = length-spots 0 (length (names queues)) s t (names queues) ∙ length-map queues (λ q. name q)

pub no_more_spots : {S D Q A : Type 0} (queues : List (Slotted S D Q A)) (s t i : ℕ) → length queues ≤ i → length (spots (queues_of (names queues) s t)) ≤ i
no_more_spots queues s t i le = let e = length_spots_of queues s t in omega (arith, le, e)

pub some_spots : {S D Q A : Type 0} (queues : List (Slotted S D Q A)) (s t : ℕ) → 0 < length queues → 0 < length (spots (queues_of (names queues) s t))
some_spots queues s t some = let e = length_spots_of queues s t in omega (arith, some, e)

pub some_names : {S D Q A : Type 0} (queues : List (Slotted S D Q A)) → 0 < length queues → 0 < length (names queues)
some_names queues some = omega (arith, some, length-map queues (λ q. name q))

module _ (T : Type 0) where
  abbrev empty : TableId → List (Ranked T)
  empty q = []

  -- new ends at these spots
  pub new_send_view : (s t p : ℕ) (qs : List TableId) → record { queues = queues_of (map (λ (l : Sent T). l.spot.queue) (map (new_send p) (spots (queues_of qs s t)))) s t; sender = p; accepted = map (λ (l : Sent T). l.accepted) (map (new_send p) (spots (queues_of qs s t))) } ≡ new_sender {T = T} (queues_of qs s t) p
  new_send_view s t p qs =
      let xs = spots (queues_of qs s t) in
      let queues = map_twice (new_send {T = T} p) (λ l. l.spot.queue) xs ∙ queues_of_spots 0 (length qs) s t qs in
      let none = map_twice (new_send {T = T} p) (λ l. l.accepted) xs ∙ sym (map_twice (λ (x : Spot). x.queue) empty xs) ∙ ap (map empty) (queues_of_spots 0 (length qs) s t qs) in
      λ i. record { queues = queues_of (queues i) s t; sender = p; accepted = none i }

  pub new_send_placed : (s t p : ℕ) (qs : List TableId) → SendInPlace {T = T} s t (map (new_send p) (spots (queues_of qs s t)))
  new_send_placed s t p qs =
      let xs = spots (queues_of qs s t) in
      map_twice (new_send {T = T} p) (λ l. l.spot) xs ∙ map_same xs ∙ ap (λ (l : List TableId). spots (queues_of l s t)) (sym (map_twice (new_send {T = T} p) (λ l. l.spot.queue) xs ∙ queues_of_spots 0 (length qs) s t qs))

  pub new_send_all : (p : ℕ) (xs : List Spot) → All (λ (l : Sent T). l.sender ≡ p) (map (new_send p) xs)
  new_send_all p [] k d lt = absurd (omega arith)
  new_send_all p (x ∷ xs) zero d lt = refl
  new_send_all p (x ∷ xs) (suc k) d lt = new_send_all p xs k d (omega arith)

  parts_of_new : (xs : List Spot) → 0 < length xs → parts_of {T = T} (map new_take xs) ≡ 1
  parts_of_new [] lt = absurd (omega arith)
  parts_of_new (x ∷ xs) lt = refl

  pub new_take_view : (s t : ℕ) (qs : List TableId) → 0 < length qs → take_view {T = T} s t (map new_take (spots (queues_of qs s t))) ≡ new_taker (queues_of qs s t)
  new_take_view s t qs some =
      let xs = spots (queues_of qs s t) in
      let within : 0 < length xs = omega (arith, some, length-spots 0 (length qs) s t qs) in
      let queues = map_twice (new_take {T = T}) (λ l. l.spot.queue) xs ∙ queues_of_spots 0 (length qs) s t qs in
      let none = map_twice (new_take {T = T}) (λ l. l.taken) xs ∙ sym (map_twice (λ (x : Spot). x.queue) empty xs) ∙ ap (map empty) (queues_of_spots 0 (length qs) s t qs) in
      λ i. record { queues = queues_of (queues i) s t; takers = parts_of_new xs within i; taken = none i }

  pub new_take_placed : (s t : ℕ) (qs : List TableId) → TakeInPlace {T = T} s t (map new_take (spots (queues_of qs s t)))
  new_take_placed s t qs =
      let xs = spots (queues_of qs s t) in
      map_twice (new_take {T = T}) (λ l. l.spot) xs ∙ map_same xs ∙ ap (λ (l : List TableId). spots (queues_of l s t)) (sym (map_twice (new_take {T = T}) (λ l. l.spot.queue) xs ∙ queues_of_spots 0 (length qs) s t qs))

  new_take_ones : (xs : List Spot) → All (λ (l : Got T). l.parts ≡ 1) (map new_take xs)
  new_take_ones [] k d lt = absurd (omega arith)
  new_take_ones (x ∷ xs) zero d lt = refl
  new_take_ones (x ∷ xs) (suc k) d lt = new_take_ones xs k d (omega arith)

  pub new_take_parts : (xs : List Spot) → 0 < length xs → (0 < parts_of {T = T} (map new_take xs)) × All (λ (l : Got T). l.parts ≡ parts_of {T = T} (map new_take xs)) (map new_take xs)
  new_take_parts xs some = subst (λ (n : ℕ). (0 < n) × All (λ (l : Got T). l.parts ≡ n) (map new_take xs)) (sym (parts_of_new xs some)) (omega arith, new_take_ones xs)

pub more_passes : {B : Type 0} (f : ℕ → B) (n : ℕ) (xs ys : List B) (y : B) → xs ≡ map f (range_with_len 0 n) → y ≡ f n → ys ≡ xs ++ y ∷ [] → ys ≡ map f (range_with_len 0 (n + 1))
more_passes f n xs ys y is so more = more ∙ (λ k. is k ++ so k ∷ []) ∙ sym (map-range_with_len_more f 0 n n (omega arith))
