-- What goes out of a cell by one operation.
use Rattle.std.specs.Prelude.{◌≡◌, ◌⊎◌, ℕ, List, [], ◌∷◌, Bool, true, false, not, Option, Some, None}
use Rattle.std.specs.List.{AllZip}
use Rattle.pg_log.specs.Log.{Classes, Reply}
use Rattle.group_world.specs.Rules.{local_step}
use Rattle.group_world.specs.declared.party.Party.{Party}
use Rattle.group_world.specs.declared.party.Party.TheVariants.{Node as ANode, Monitor as TheMonitor, Client as AClient}
use Rattle.group_world.specs.declared.message.MessageKind.{MessageKind}
use Rattle.group_world.specs.declared.message.MessageKind.TheVariants.{Query, Log as LogOf, Install}
use Rattle.group_world.specs.declared.message.MessageKind.TheVariants.{Installed as InstalledIn, AskActivate, Activated}
use Rattle.group_world.specs.declared.message.MessageKind.TheVariants.{Rep, Ack, Reply as ReplyTo}
use Rattle.group_world.specs.declared.message.Packet.{Packet}
use Rattle.group_world.specs.declared.event.Event.{Event}
use Rattle.group_world.specs.declared.event.Event.TheVariants.{Request as ARequest, Map as AMap, Message as AMessage}
use Rattle.group_world.specs.declared.handle_error.HandleError.{HandleError}
use Rattle.peering.specs.Numbered.{IsDone, IsRefusal}
use Rattle.carried.specs.Carried.{packed_as}
use Rattle.group_cell.specs.Cell.{CellState}
use Rattle.group_cell.specs.Posts.{PostedReply, IsReplyOf}
use Rattle.group_cell.specs.declared.post.Post.TheVariants as post
use Rattle.group_cell.specs.declared.outgoing.Outgoing.{Outgoing}
use Rattle.group_cell.specs.declared.outgoing.Outgoing.TheVariants.{ToNode, ToMonitor, ToClient}

-- REPLIES. A message gives a client this reply: it has the message's place and answer, its request
-- is of the message's client and number, and its note knows what the cell has committed.
pub record IsReplyTo (cell : CellState) (by nth at : ℕ) (reply : Reply) (r : PostedReply) : Type 0 where
  pub of_cell : IsReplyOf cell at r
  pub answer : r.answer ≡ reply
  pub client : r.request.client ≡ by
  pub number : r.request.number ≡ nth

-- a message that gives a client a reply
abbrev pub GivesReply : CellState → MessageKind → PostedReply → Type 0
GivesReply cell (Query m) r = ⊥
GivesReply cell (LogOf interval list) r = ⊥
GivesReply cell (Install m list) r = ⊥
GivesReply cell (InstalledIn interval) r = ⊥
GivesReply cell (AskActivate interval) r = ⊥
GivesReply cell (Activated interval) r = ⊥
GivesReply cell (Rep interval place request) r = ⊥
GivesReply cell (Ack interval length) r = ⊥
GivesReply cell (ReplyTo client number place answer) r = IsReplyTo cell client number place answer r

-- A MESSAGE GOES OUT to a node packed for a receiver that reported that many entries, to the
-- monitor as its question, and to a client as a reply.
abbrev pub GoesOutAs : {N : Type 0} → CellState → ℕ → Packet → Outgoing N → Type 0
GoesOutAs cell reported p (ToNode n m) = packed_as cell.node.state.committed reported p ≡ (ANode n, m)
GoesOutAs cell reported p (ToMonitor interval) = (p.receiver ≡ TheMonitor) × (p.message.kind ≡ AskActivate interval)
GoesOutAs cell reported p (ToClient client (post.Reply r)) =
    (p.receiver ≡ AClient client) × GivesReply cell p.message.kind r
GoesOutAs cell reported p (ToClient client (post.Refused r)) = ⊥

-- a message by which a node asks the monitor
abbrev pub asks_activation : MessageKind → Bool
asks_activation (AskActivate interval) = true
asks_activation _ = false

-- A message may be left out if its receiver is a client, since a reply takes memory, or if it means
-- nothing to its receiver: the monitor takes AskActivate alone, and a client replies alone. Any
-- other goes out.
abbrev pub may_be_left_out : Party → MessageKind → Bool
may_be_left_out (ANode n) kind = false
may_be_left_out TheMonitor kind = not (asks_activation kind)
may_be_left_out (AClient client) kind = true

-- what goes out of a message, if it isn't left out
abbrev pub MayGoOutAs : {N : Type 0} → CellState → ℕ → Packet → Option (Outgoing N) → Type 0
MayGoOutAs cell reported p None = may_be_left_out p.receiver p.message.kind ≡ true
MayGoOutAs cell reported p (Some o) = GoesOutAs cell reported p o

-- messages go out one by one, in their order
abbrev pub GoOutAs : {N : Type 0} → CellState → ℕ → List Packet → List (Option (Outgoing N)) → Type 0
GoOutAs cell reported sent out = AllZip (MayGoOutAs cell reported) sent out

-- A TURN. The node takes the event: its step is done, and its messages go out.
pub record IsTaken {N : Type 0} (classes : Classes) (old new : CellState) (reported : ℕ) (event : Event)
    (went : List (Option (Outgoing N))) : Type 0 where
  pub done : IsDone old.node new.node (local_step classes old.node.number old.node.state event).sent
      (local_step classes old.node.number old.node.state event)
  pub row : new.row ≡ old.row
  pub out : GoOutAs new reported (local_step classes old.node.number old.node.state event).sent went

-- what goes out for a refused event: the refusal of a request goes to its client
abbrev pub refusal_to : {N : Type 0} → Event → HandleError → List (Option (Outgoing N))
refusal_to (ARequest r) why = Some (ToClient r.client (post.Refused (record { request = r; why = why }))) ∷ []
refusal_to (AMap m) why = []
refusal_to (AMessage m) why = []

-- an event whose refusal goes to nobody
abbrev pub IsQuiet : Event → Type 0
IsQuiet (ARequest r) = ⊥
IsQuiet (AMap m) = Unit {0}
IsQuiet (AMessage m) = Unit {0}

-- or it refuses the event, and is as before
pub record IsTurnedDown {N : Type 0} (classes : Classes) (old new : CellState) (event : Event)
    (went : List (Option (Outgoing N))) : Type 0 where
  pub why : HandleError
  pub refusal : IsRefusal (local_step classes old.node.number old.node.state event) why
  pub same : new ≡ old
  pub out : went ≡ refusal_to event why

-- if no event comes, nothing happens
abbrev pub IsTurn : {N : Type 0} → Classes → CellState → CellState → ℕ → Option Event → List (Option (Outgoing N)) →
    Type 0
IsTurn classes old new reported None out = (new ≡ old) × (out ≡ [])
IsTurn classes old new reported (Some event) out =
    IsTaken classes old new reported event out ⊎ IsTurnedDown classes old new event out

-- If memory is refused before the event comes, nothing has happened; if it is refused after that,
-- all messages of the event are lost.
abbrev pub IsCutShort : Classes → CellState → CellState → Option Event → Type 0
IsCutShort classes old new None = new ≡ old
IsCutShort classes old new (Some event) = (new ≡ old) ⊎ ((new.row ≡ old.row)
    × IsDone old.node new.node (local_step classes old.node.number old.node.state event).sent
    (local_step classes old.node.number old.node.state event))
