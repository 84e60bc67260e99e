-- How a message is carried to its receiver, and what it comes as there.
use Rattle.std.specs.Prelude.{ℕ, List, length, nat_lt, Option, Some, None, if◌then◌else◌}
use Rattle.std.specs.Option.{option_map}
use Rattle.pg_log.specs.Requests.{ClientRequest}
use Rattle.replication.specs.Packed.{Packed, packed, spread}
use Rattle.group_world.specs.declared.party.Party.{Party}
use Rattle.group_world.specs.declared.message.MessageKind.{MessageKind}
use Rattle.group_world.specs.declared.message.MessageKind.TheVariants as sent
use Rattle.group_world.specs.declared.message.Message.{Message}
use Rattle.group_world.specs.declared.message.Packet.{Packet}
use Rattle.group_world.specs.declared.event.Event.{Event}
use Rattle.group_world.specs.declared.event.Event.TheVariants as event
use Rattle.carried.specs.declared.message.CarriedKind.{CarriedKind}
use Rattle.carried.specs.declared.message.CarriedKind.TheVariants.{Query, Log, Install, Installed, AskActivate}
use Rattle.carried.specs.declared.message.CarriedKind.TheVariants.{Activated, Rep, Ack, Reply}
use Rattle.carried.specs.declared.message.CarriedMessage.{CarriedMessage}
use Rattle.carried.specs.declared.operation.Carried.{Carried}
use Rattle.carried.specs.declared.operation.Carried.TheVariants as carried

-- PACKING. A sender that has committed that number of entries says so in a question for a list. A
-- list goes without its first requests, as many as its receiver reported. All else goes as it is.
abbrev pub kind_as : ℕ → ℕ → MessageKind → CarriedKind
kind_as committed reported (sent.Query map) = Query map committed
kind_as committed reported (sent.Log interval list) = Log interval (packed list reported)
kind_as committed reported (sent.Install map list) = Install map list
kind_as committed reported (sent.Installed interval) = Installed interval
kind_as committed reported (sent.AskActivate interval) = AskActivate interval
kind_as committed reported (sent.Activated interval) = Activated interval
kind_as committed reported (sent.Rep interval place request) = Rep interval place request
kind_as committed reported (sent.Ack interval count) = Ack interval count
kind_as committed reported (sent.Reply client number place answer) = Reply client number place answer

-- the same of a message
abbrev pub carried_as : ℕ → ℕ → Message → CarriedMessage
carried_as committed reported m = record { sender = m.sender; kind = kind_as committed reported m.kind }

-- a message of a node, and its receiver
abbrev pub packed_as : ℕ → ℕ → Packet → Party × CarriedMessage
packed_as committed reported p = (p.receiver, carried_as committed reported p.message)

-- how many entries the sender of a question has committed
abbrev pub reported_by : CarriedKind → ℕ
reported_by (Query map reported) = reported
reported_by (Log interval log) = 0
reported_by (Install map list) = 0
reported_by (Installed interval) = 0
reported_by (AskActivate interval) = 0
reported_by (Activated interval) = 0
reported_by (Rep interval place request) = 0
reported_by (Ack interval count) = 0
reported_by (Reply client number place answer) = 0

-- of an operation: none but such a question reports anything
abbrev pub reported_of : Carried → ℕ
reported_of (carried.Request request) = 0
reported_of (carried.Map map) = 0
reported_of (carried.Message m) = reported_by m.kind

-- UNPACKING. A list has its beginning from the receiver's own log; if that is too short, it is
-- lost.
abbrev pub whole_list : List ClientRequest → ℕ → Packed → Option MessageKind
whole_list local interval log =
    if nat_lt (length local) log.common then None else Some (sent.Log interval (spread local log))

-- what a message says to a node with that log
abbrev pub kind_of : List ClientRequest → CarriedKind → Option MessageKind
kind_of local (Query map reported) = Some (sent.Query map)
kind_of local (Log interval log) = whole_list local interval log
kind_of local (Install map list) = Some (sent.Install map list)
kind_of local (Installed interval) = Some (sent.Installed interval)
kind_of local (AskActivate interval) = Some (sent.AskActivate interval)
kind_of local (Activated interval) = Some (sent.Activated interval)
kind_of local (Rep interval place request) = Some (sent.Rep interval place request)
kind_of local (Ack interval count) = Some (sent.Ack interval count)
kind_of local (Reply client number place answer) = Some (sent.Reply client number place answer)

-- the message that comes to a node with that log; none if its list is lost
abbrev pub message_of : List ClientRequest → CarriedMessage → Option Message
message_of local m = option_map (λ kind. record { sender = m.sender; kind = kind }) (kind_of local m.kind)

-- the event that comes to a node with that log
abbrev pub unpacked_as : List ClientRequest → Carried → Option Event
unpacked_as local (carried.Request request) = Some (event.Request request)
unpacked_as local (carried.Map map) = Some (event.Map map)
unpacked_as local (carried.Message m) = option_map event.Message (message_of local m)
