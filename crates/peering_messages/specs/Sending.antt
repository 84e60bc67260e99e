-- The messages of a primary that adopts a list, and what a reply is made from.
use Rattle.std.specs.Prelude.{◌≡◌, ℕ, List, [], ◌∷◌, ◌++◌, length, slice_get, Some, Bool, if◌then◌else◌}
use Rattle.std.specs.Int.{w64, cast_unsigned}
use mathlib.Core.List.{IsPrefix}
use Rattle.pg_log.specs.Requests.{ClientRequest}
use Rattle.pg_log.specs.Log.{Classes, Reply, Legal, reply_at}
use Rattle.pg_log.specs.declared.entry.Entry.{Entry}
use Rattle.group_world.specs.Maps.{GroupMap, all_among}
use Rattle.group_world.specs.Node.{packet, to_others}
use Rattle.group_world.specs.declared.party.Party.TheVariants.{Monitor as TheMonitor}
use Rattle.group_world.specs.declared.message.MessageKind.TheVariants.{Install, AskActivate}
use Rattle.group_world.specs.declared.message.Packet.{Packet}

-- AskActivate to the monitor, if all have installed
abbrev pub asked_if : ℕ → ℕ → Bool → List Packet
asked_if n interval all = if all then packet n TheMonitor (AskActivate interval) ∷ [] else []

-- what a primary sends when it adopts a list
abbrev pub adopted_sent : ℕ → ℕ → GroupMap → List ClientRequest → List Packet
adopted_sent n interval m list =
    to_others n m.acting (Install m list) ++ asked_if n interval (all_among m.acting (n ∷ []))

-- The table has the first of all classes, and the log is legal by it.
pub record IsLegalBy (table all : Classes) (log : List ClientRequest) : Type 0 where
  pub first : IsPrefix table all
  pub legal : Legal table log

-- the answer to its request that an entry keeps
abbrev pub answer_in : Entry → Reply
answer_in e = record { code = cast_unsigned w64 e.code; output = e.output.items }

-- The entry's request is at the place, and its answer is the reply there.
pub record IsEntryAt (classes : Classes) (log : List ClientRequest) (place : ℕ) (e : Entry) : Type 0 where
  pub request : slice_get log place ≡ Some e.request
  pub reply : reply_at classes log place ≡ Some (answer_in e)

-- The list with the entry's request added is legal, and the entry's answer is the reply there.
pub record IsNextReply (classes : Classes) (log : List ClientRequest) (e : Entry) : Type 0 where
  pub legal : Legal classes (log ++ e.request ∷ [])
  pub reply : reply_at classes (log ++ e.request ∷ []) (length log) ≡ Some (answer_in e)
