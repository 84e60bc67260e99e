-- All queues and the passes, as callers see them.
use Rattle.std.specs.Prelude.{◌≡◌, ℕ, suc, ◌+◌, ◌≤◌, List, [], ◌∷◌, ◌++◌, length, map, Some, slice_get, slice_set}
use Rattle.std.specs.Prelude.{slice_index_or}
use mathlib.Core.List.{IsPrefix}
use Rattle.crossbeam_queue.specs.Fifo.{Held}
use Rattle.crossbeam_queue.specs.declared.array_queue.Slotted.{Slotted}
use Rattle.atomic_table.specs.Seated.{TableId}
use Rattle.op_shards.specs.declared.rule.QueuePosition.{QueuePosition}
use Rattle.op_shards.specs.declared.rule.Ranked.{Ranked}
use Rattle.op_shards.specs.Order.{queue_position, sender, taker, KeptWith, WasKept}

-- the identity of a queue
abbrev pub name : {S D Q A : Type 0} → Slotted S D Q A → TableId
name q = q.table.shared.table_id

-- the identities of queues
abbrev pub names : {S D Q A : Type 0} → List (Slotted S D Q A) → List TableId
names queues = map (λ q. name q) queues

-- a queue and its position
pub record Spot : Type 0 where
  pub queue : TableId
  pub place : QueuePosition

-- by its parts
abbrev pub spot_of : TableId → QueuePosition → Spot
spot_of queue place = record { queue = queue; place = place }

-- the queues by shard, and the numbers of senders and takers that have passes of them
pub record Queues : Type 0 where
  pub names : List TableId
  pub senders : ℕ
  pub takers : ℕ

-- by their parts
abbrev pub queues_of : List TableId → ℕ → ℕ → Queues
queues_of names senders takers = record { names = names; senders = senders; takers = takers }

-- the spots of these queues, the first at shard k of all shards
abbrev pub spots_from : ℕ → ℕ → ℕ → ℕ → List TableId → List Spot
spots_from k shards senders takers [] = []
spots_from k shards senders takers (q ∷ qs) =
    spot_of q (queue_position k shards senders takers) ∷ spots_from (suc k) shards senders takers qs

-- all of them
abbrev pub spots : Queues → List Spot
spots q = spots_from 0 (length q.names) q.senders q.takers q.names

-- the queues, and the number of operations that each can hold
pub record Shards : Type 0 where
  pub queues : Queues
  pub places : ℕ

-- the end of a queue that still has all senders from a number on, and a number of takers
pub record FreeEndState : Type 0 where
  pub spot : Spot
  pub next : ℕ
  pub parts : ℕ

-- by its parts
abbrev pub free_end_state : ℕ → ℕ → Spot → FreeEndState
free_end_state next parts spot = record { spot = spot; next = next; parts = parts }

-- a sender's end of a queue, and the operations that the queue accepted from this sender, in order
pub record Sent (T : Type 0) : Type 0 where
  pub spot : Spot
  pub sender : ℕ
  pub accepted : List (Ranked T)

-- a taker's end of a queue, the number of takers' parts in it, and the operations that they took
pub record Got (T : Type 0) : Type 0 where
  pub spot : Spot
  pub parts : ℕ
  pub taken : List (Ranked T)

-- a sender: the queues that its pass came with, its number, and the operations that each shard's
-- queue accepted from it, in order
pub record Sender (T : Type 0) : Type 0 where
  pub queues : Queues
  pub sender : ℕ
  pub accepted : List (List (Ranked T))

-- a taker, or several whose passes were put together: the queues that the passes came with, the
-- number of takers, and the operations that they took from each shard
pub record Taker (T : Type 0) : Type 0 where
  pub queues : Queues
  pub takers : ℕ
  pub taken : List (List (Ranked T))

-- the position of this shard's queue
abbrev pub shard_of : Queues → ℕ → QueuePosition
shard_of q shard = queue_position shard (length q.names) q.senders q.takers

module _ {T : Type 0} where
  -- an operation with its sender and its rank
  abbrev pub ranked : ℕ → ℕ → T → Ranked T
  ranked sender rank op = record { sender = sender; rank = rank; op = op }

  -- the ends of a new sender, and of a new taker
  abbrev pub new_send : ℕ → Spot → Sent T
  new_send number spot = record { spot = spot; sender = number; accepted = [] }

  abbrev pub new_take : Spot → Got T
  new_take spot = record { spot = spot; parts = 1; taken = [] }

  -- the parts of a taker's ends, which are the same in each
  abbrev pub parts_of : List (Got T) → ℕ
  parts_of [] = 0
  parts_of (l ∷ ls) = l.parts

  -- two takers' ends of one queue as one
  abbrev pub joined_end : Got T → Got T → Got T
  joined_end x y = record { spot = x.spot; parts = x.parts + y.parts; taken = x.taken ++ y.taken }

  -- the same of each queue's ends
  abbrev pub join_ends : List (Got T) → List (Got T) → List (Got T)
  join_ends [] ys = []
  join_ends (x ∷ xs) [] = x ∷ xs
  join_ends (x ∷ xs) (y ∷ ys) = joined_end x y ∷ join_ends xs ys

  -- a shard's list
  abbrev pub at_shard : List (List (Ranked T)) → ℕ → List (Ranked T)
  at_shard lists shard = slice_index_or lists shard []

  -- the lists with one more operation at the end of a shard's list
  abbrev pub pushed_at : List (List (Ranked T)) → ℕ → Ranked T → List (List (Ranked T))
  pushed_at lists shard x = slice_set lists shard (at_shard lists shard ++ x ∷ [])

  -- for each shard, the first list followed by the second
  abbrev pub put_together : List (List (Ranked T)) → List (List (Ranked T)) → List (List (Ranked T))
  put_together [] ys = []
  put_together (x ∷ xs) [] = x ∷ xs
  put_together (x ∷ xs) (y ∷ ys) = (x ++ y) ∷ put_together xs ys

  -- the next rank of a sender in a shard
  abbrev pub next_rank : Sender T → ℕ → ℕ
  next_rank s shard = length (at_shard s.accepted shard)

  -- a sender after an accepted operation, and a taker after one that it took
  abbrev pub after_submit : Sender T → ℕ → T → Sender T
  after_submit s shard op = record {
    queues = s.queues;
    sender = s.sender;
    accepted = pushed_at s.accepted shard (ranked s.sender (next_rank s shard) op);
  }

  abbrev pub after_take : Taker T → ℕ → Ranked T → Taker T
  after_take t shard x = record { queues = t.queues; takers = t.takers; taken = pushed_at t.taken shard x }

  -- the two takers as one
  abbrev pub after_gather : Taker T → Taker T → Taker T
  after_gather t u = record { queues = t.queues; takers = t.takers + u.takers; taken = put_together t.taken u.taken }

  -- a pass of these queues before anything was accepted or taken
  abbrev pub new_sender : Queues → ℕ → Sender T
  new_sender queues number = record { queues = queues; sender = number; accepted = map (λ _. []) queues.names }

  -- the same of a taker
  abbrev pub new_taker : Queues → Taker T
  new_taker queues = record { queues = queues; takers = 1; taken = map (λ _. []) queues.names }

  -- there was a moment at which the shard's queue was in order, and this was one of its passes
  abbrev pub SenderWasKept : (T → ℕ) → Sender T → ℕ → Type 0
  SenderWasKept group s shard = WasKept group (sender (shard_of s.queues shard) s.sender (at_shard s.accepted shard))

  -- the same of a taker's pass
  abbrev pub TakerWasKept : (T → ℕ) → Taker T → ℕ → Type 0
  TakerWasKept group t shard = WasKept group (taker (shard_of t.queues shard) t.takers (at_shard t.taken shard))

  -- the same, at a moment at which the queue held n operations
  abbrev pub SenderWasKeptAt : (T → ℕ) → ℕ → Sender T → ℕ → Type 0
  SenderWasKeptAt group n s shard =
      Held n (KeptWith group (sender (shard_of s.queues shard) s.sender (at_shard s.accepted shard)))

  -- the same of a taker's pass
  abbrev pub TakerWasKeptAt : (T → ℕ) → ℕ → Taker T → ℕ → Type 0
  TakerWasKeptAt group n t shard =
      Held n (KeptWith group (taker (shard_of t.queues shard) t.takers (at_shard t.taken shard)))

  -- For each shard, the operations accepted earlier are the beginning of those accepted later.
  pub record Grew (s t : Sender T) : Type 0 where
    pub begins : (shard : ℕ) → IsPrefix (at_shard s.accepted shard) (at_shard t.accepted shard)

  -- Between the two states of a pass an operation was accepted that has the property P.
  pub record WasSent (s t : Sender T) (P : T → Type 0) : Type 0 where
    pub shard : ℕ
    pub rank : ℕ
    pub x : Ranked T
    pub new : length (at_shard s.accepted shard) ≤ rank
    pub there : slice_get (at_shard t.accepted shard) rank ≡ Some x
    pub so : P x.op
