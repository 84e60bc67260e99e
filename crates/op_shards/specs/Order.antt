-- One queue: the operations that it holds, those taken from it, and what each of its passes knows.
-- Each operation of a sender is taken once, and in the order in which the queue accepted it.
use Rattle.std.specs.Prelude.{◌≡◌, ◌⊎◌, ℕ, suc, ◌+◌, ◌%◌, ◌<◌, ◌≤◌, ◌==◌, cond, List, [], ◌∷◌, ◌++◌, length, take}
use mathlib.Core.Option.{some}
use lib.ListN.{get_elem?}
use Rattle.op_shards.specs.declared.rule.QueuePosition.{QueuePosition}
use Rattle.op_shards.specs.declared.rule.Ranked.{Ranked}
use Rattle.op_shards.specs.declared.rule.PassState.{PassState}

-- the position of a shard's queue among all shards, with the numbers of senders and takers
abbrev pub queue_position : ℕ → ℕ → ℕ → ℕ → QueuePosition
queue_position shard shards senders takers =
    record { shard = shard; shards = shards; senders = senders; takers = takers }

module _ {T : Type 0} where
  -- a pass by its parts
  abbrev pub pass_state : QueuePosition → ℕ → ℕ → ℕ → List (Ranked T) → List (Ranked T) → PassState T
  pass_state place first end parts put got =
      record { place = place; first = first; end = end; parts = parts; put = put; got = got }

  -- the pass of a new queue whose position isn't known yet
  abbrev pub unopened : PassState T
  unopened = pass_state (queue_position 1 0 0 0) 0 0 0 [] []

  -- a pass after another took it in
  abbrev pub spent : PassState T
  spent = pass_state (queue_position 0 0 0 0) 0 0 0 [] []

  -- the pass of one sender, from which the queue accepted these operations
  abbrev pub sender : QueuePosition → ℕ → List (Ranked T) → PassState T
  sender place number put = pass_state place number (suc number) 0 put []

  -- a pass that has a number of takers' parts, and took these operations
  abbrev pub taker : QueuePosition → ℕ → List (Ranked T) → PassState T
  taker place parts got = pass_state place 0 0 parts [] got

  -- the pass of all senders from a number on and of a number of takers, before any of them sent or
  -- took
  abbrev pub free_end : QueuePosition → ℕ → ℕ → PassState T
  free_end place next parts = pass_state place next place.senders parts [] []

  -- a free end's pass is cut in two: the pass of its other senders, and that of its first sender
  abbrev pub other_senders : PassState T → PassState T
  other_senders v = pass_state v.place (suc v.first) v.end v.parts v.put v.got

  abbrev pub one_sender : PassState T → PassState T
  one_sender v = sender v.place v.first v.put

  -- the two halves of a pass: all that it put in, and all that it took
  abbrev pub put_alone : PassState T → PassState T
  put_alone v = pass_state v.place v.first v.end 0 v.put []

  abbrev pub got_alone : PassState T → PassState T
  got_alone v = taker v.place v.parts v.got

  -- a pass with the parts of another, and with all that the other took
  abbrev pub together : PassState T → PassState T → PassState T
  together v w = pass_state v.place v.first v.end (v.parts + w.parts) v.put (v.got ++ w.got)

  -- the operations of a sender
  abbrev pub of : ℕ → List (Ranked T) → List (Ranked T)
  of p [] = []
  of p (x ∷ xs) = cond (x.sender == p) (x ∷ of p xs) (of p xs)

  -- the operations' ranks are k, k + 1, and so on
  abbrev pub IsRanked : ℕ → List (Ranked T) → Type 0
  IsRanked k [] = Unit {0}
  IsRanked k (x ∷ xs) = (x.rank ≡ k) × IsRanked (suc k) xs

  -- each operation has the property P
  abbrev pub Each : (Ranked T → Type 0) → List (Ranked T) → Type 0
  Each P [] = Unit {0}
  Each P (x ∷ xs) = P x × Each P xs

  -- the sum of the operations' weights
  abbrev pub weigh : (Ranked T → ℕ) → List (Ranked T) → ℕ
  weigh h [] = 0
  weigh h (x ∷ xs) = h x + weigh h xs

  -- the sum of a number of each pass
  abbrev pub total : (PassState T → ℕ) → List (PassState T) → ℕ
  total f [] = 0
  total f (v ∷ vs) = f v + total f vs

  -- each operation occurs in ys at least as often as in xs
  abbrev pub IsPartOf : List (Ranked T) → List (Ranked T) → Type 0
  IsPartOf xs ys = (h : Ranked T → ℕ) → weigh h xs ≤ weigh h ys

  -- the operations of xs are the first ones of ys, each once, in some order
  abbrev pub AreFirstOf : List (Ranked T) → List (Ranked T) → Type 0
  AreFirstOf xs ys = (h : Ranked T → ℕ) → weigh h xs ≡ weigh h (take (length xs) ys)

  -- its rank is above those of all operations of its sender in xs
  abbrev pub IsNextAfter : List (Ranked T) → Ranked T → Type 0
  IsNextAfter xs x = Each (λ y. y.sender ≡ x.sender → y.rank < x.rank) xs

  -- the operation belongs to this queue: its group's number modulo the number of shards is the
  -- shard, and its sender is one of the queue's
  abbrev pub IsHere : (T → ℕ) → QueuePosition → Ranked T → Type 0
  IsHere group place x = (group x.op % place.shards ≡ place.shard) × (x.sender < place.senders)

  -- the sender is one of the own senders of the pass with this number
  abbrev pub HasSender : List (PassState T) → ℕ → ℕ → Type 0
  HasSender views by p = (v : PassState T) × (get_elem? views by ≡ some v) × (v.first ≤ p) × (p < v.end)

  -- The pass with this number is of this queue, unless it is spent. It knows all operations that
  -- the queue accepted from its own senders. Each operation that it took has a rank below the
  -- number of its sender's operations that were taken. A pass without a part took nothing.
  pub record Fits (place : QueuePosition) (taken : List (Ranked T)) (sent : ℕ → List (Ranked T)) (seat : ℕ →
      ℕ) (by : ℕ) (v : PassState T) : Type 0 where
    pub opened : 0 < v.place.shard → 0 < v.place.shards
    pub placed : 0 < v.place.shards → v.place ≡ place
    pub senders : (p : ℕ) → v.first ≤ p → p < v.end → (p < place.senders) × (seat p ≡ by) × (v.put ≡ sent p)
    pub past : Each (λ y. y.rank < length (of y.sender taken)) v.got
    pub idle : v.parts ≡ 0 → v.got ≡ []

  -- Of each sender, the operations taken and then those held are the ones that the queue accepted,
  -- with ranks from 0 on. So those taken have the ranks below some number, and those held have the
  -- ranks from there on, in order. Each of these operations belongs to the queue. The operations
  -- taken are those that the passes took, each once. Each sender has a pass.
  pub record Kept (group : T → ℕ) (items : List (Ranked T)) (views : List (PassState T)) : Type 0 where
    pub place : QueuePosition
    pub taken : List (Ranked T)
    pub sent : ℕ → List (Ranked T)
    pub seat : ℕ → ℕ
    pub some_shards : 0 < place.shards
    pub order : (p : ℕ) → of p (taken ++ items) ≡ sent p
    pub ranks : (p : ℕ) → IsRanked 0 (sent p)
    pub here : Each (IsHere group place) (taken ++ items)
    pub once : (h : Ranked T → ℕ) → weigh h taken ≡ total (λ v. weigh h v.got) views
    pub parts : total (λ v. v.parts) views ≡ place.takers
    pub seats : (p : ℕ) → p < place.senders → HasSender views (seat p) p
    pub passes : (by : ℕ) (v : PassState T) → get_elem? views by ≡ some v → Fits place taken sent seat by v

  -- the queue's position isn't known yet, it is empty, and it has one pass
  abbrev pub IsUnopened : List (Ranked T) → List (PassState T) → Type 0
  IsUnopened items views = (items ≡ []) × (views ≡ unopened ∷ [])

  -- the rule of a queue: it is unopened, or it is in order
  abbrev pub Rule : (T → ℕ) → List (Ranked T) → List (PassState T) → Type 0
  Rule group items views = IsUnopened items views ⊎ Kept group items views

  -- the queue was in order while it held these operations, and this was the state of one of its
  -- passes
  pub record KeptWith (group : T → ℕ) (v : PassState T) (items : List (Ranked T)) : Type 0 where
    pub views : List (PassState T)
    pub by : ℕ
    pub kept : Kept group items views
    pub mine : get_elem? views by ≡ some v

  -- there was a moment at which the queue was in order, with this pass
  abbrev pub WasKept : (T → ℕ) → PassState T → Type 0
  WasKept group v = (items : List (Ranked T)) × KeptWith group v items

  -- the effects of a push and of a pop on a pass
  abbrev pub Puts : (T → ℕ) → PassState T → Ranked T → PassState T → Type 0
  Puts group v x w = (w ≡ pass_state v.place v.first v.end v.parts (v.put ++ x ∷ []) v.got) × WasKept group w

  abbrev pub Takes : (T → ℕ) → PassState T → Ranked T → PassState T → Type 0
  Takes group v x w =
      (w ≡ pass_state v.place v.first v.end v.parts v.put (v.got ++ x ∷ []))
      × IsHere group v.place x × IsNextAfter v.got x × WasKept group w

  -- A sender's pass that took others in learns that the queue accepted each of the sender's
  -- operations that they took. If it has all parts, these operations are the first ones accepted.
  abbrev pub Accounts : PassState T → List (Ranked T) → Type 0
  Accounts v items =
      IsPartOf (of v.first v.got) v.put × (v.parts ≡ v.place.takers → AreFirstOf (of v.first v.got) v.put)
