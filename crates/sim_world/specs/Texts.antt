-- The texts of messages, and of what comes of a line.
use Rattle.std.specs.Prelude.{ℕ, suc, ◌-◌, ◌==◌, Bool, true, false, List, [], ◌∷◌, ◌++◌, length, drop, if◌then◌else◌}
use Rattle.std.specs.Prelude.{codes}
use Rattle.std.specs.Fmt.{decimal, signed_decimal}
use Rattle.std.specs.Int.{w64, cast_signed}
use Rattle.hex.specs.Hex.{encode_lower}
use Rattle.pg_log.specs.Log.{Reply}
use Rattle.group_world.specs.Maps.{GroupMap}
use Rattle.group_world.specs.Node.{NodeState}
use Rattle.group_world.specs.Refusal.{handle_error_text, monitor_error_text}
use Rattle.group_world.specs.declared.party.Party.{Party}
use Rattle.group_world.specs.declared.party.Party.TheVariants.{Node as ANode, Monitor as TheMonitor, Client as AClient}
use Rattle.group_world.specs.declared.message.MessageKind.{MessageKind}
use Rattle.group_world.specs.declared.message.MessageKind.TheVariants.{Query, Log as LogOf, Install}
use Rattle.group_world.specs.declared.message.MessageKind.TheVariants.{Installed as InstalledIn, AskActivate, Activated}
use Rattle.group_world.specs.declared.message.MessageKind.TheVariants.{Rep, Ack, Reply as ReplyTo}
use Rattle.group_world.specs.declared.message.Packet.{Packet}
use Rattle.group_world.specs.declared.status.Status.{Status}
use Rattle.group_world.specs.declared.status.Status.TheVariants.{Out, Waiting, Installed, Asking, Installing, Active}
use Rattle.sim_world.specs.declared.taken.MapMade.{MapMade}
use Rattle.sim_world.specs.declared.taken.NodeShown.{NodeShown}
use Rattle.sim_world.specs.declared.taken.Taken.{Taken}
use Rattle.sim_world.specs.declared.taken.Taken.TheVariants.{Bad, Skipped, Stopped, Sent, Refused, MonitorRefused, Made}
use Rattle.sim_world.specs.declared.taken.Taken.TheVariants.{Shown, Again}

-- MESSAGES

-- who sends or receives: a node's number, `mon`, a client as `c1`
abbrev pub party_text : Party → List ℕ
party_text (ANode n) = decimal n
party_text TheMonitor = codes "mon"
party_text (AClient c) = codes "c" ++ decimal c

-- a word and one or two numbers
abbrev pub word_and_number : List ℕ → ℕ → List ℕ
word_and_number word n = word ++ (codes " " ++ decimal n)

abbrev pub word_and_two_numbers : List ℕ → ℕ → ℕ → List ℕ
word_and_two_numbers word n k = word ++ (codes " " ++ (decimal n ++ (codes " " ++ decimal k)))

-- hexadecimal digits, with a sign for none
abbrev pub digits_or_dash : List ℕ → List ℕ
digits_or_dash [] = codes "-"
digits_or_dash (digit ∷ digits) = digit ∷ digits

-- a request's number, its place, the code as a signed number, and the output
abbrev pub reply_text : ℕ → ℕ → Reply → List ℕ
reply_text number place answer =
    codes "Reply " ++
    (decimal number ++ (codes " " ++ (decimal place ++ (codes " " ++ (signed_decimal (cast_signed w64 answer.code)
    ++ (codes " " ++ digits_or_dash (encode_lower answer.output)))))))

-- what a message says: its kind, its interval, and how long a list is, a place or an acknowledged
-- length
abbrev pub kind_text : MessageKind → List ℕ
kind_text (Query m) = word_and_number (codes "Query") m.interval
kind_text (LogOf interval list) = word_and_two_numbers (codes "Log") interval (length list)
kind_text (Install m list) = word_and_two_numbers (codes "Install") m.interval (length list)
kind_text (InstalledIn interval) = word_and_number (codes "Installed") interval
kind_text (AskActivate interval) = word_and_number (codes "AskActivate") interval
kind_text (Activated interval) = word_and_number (codes "Activated") interval
kind_text (Rep interval place r) = word_and_two_numbers (codes "Rep") interval place
kind_text (Ack interval k) = word_and_two_numbers (codes "Ack") interval k
kind_text (ReplyTo client number place answer) = reply_text number place answer

-- a message with its number: `m7 1->2 Rep 1 0`
abbrev pub text_between : ℕ → Party → Party → List ℕ → List ℕ
text_between number sender receiver says =
    codes "m" ++ (decimal number ++ (codes " " ++ (party_text sender ++ (codes "->" ++ (party_text receiver
    ++ (codes " " ++ (says ++ codes "\n")))))))

-- of one that was sent
abbrev pub message_line : ℕ → Packet → List ℕ
message_line number p = text_between number p.message.sender p.receiver (kind_text p.message.kind)

-- messages, from a number on
abbrev pub message_lines : ℕ → List Packet → List ℕ
message_lines number [] = []
message_lines number (p ∷ ps) = message_line number p ++ message_lines (suc number) ps

-- messages, or that there are none
abbrev pub sent_text : ℕ → List Packet → List ℕ
sent_text number [] = codes "nothing\n"
sent_text number (p ∷ ps) = message_lines number (p ∷ ps)

-- messages that are sent again, by their numbers, or that there are none
abbrev pub again_lines : List ℕ → List ℕ
again_lines [] = []
again_lines (number ∷ numbers) = codes "again m" ++ decimal number ++ codes "\n" ++ again_lines numbers

-- the same, or that there are none
abbrev pub again_text : List ℕ → List ℕ
again_text [] = codes "nothing\n"
again_text (number ∷ numbers) = again_lines (number ∷ numbers)

-- WHAT COMES OF A LINE

-- the line was bad
abbrev pub is_bad : Taken → Bool
is_bad Bad = true
is_bad Skipped = false
is_bad Stopped = false
is_bad (Sent count) = false
is_bad (Refused why) = false
is_bad (MonitorRefused why) = false
is_bad (Made m) = false
is_bad (Shown s) = false
is_bad (Again numbers) = false

-- a refusal, by its text
abbrev pub refused_text : List ℕ → List ℕ
refused_text why = codes "refused " ++ why

-- a new map: a new interval, which is its epoch, and the one activated before it; or the interval
-- that it keeps
abbrev pub map_text : MapMade → List ℕ
map_text m = if m.epoch == m.interval then codes "map " ++ (decimal m.epoch ++ (codes " prev " ++ decimal m.prev))
    else codes "map " ++ (decimal m.epoch ++ (codes " same " ++ decimal m.interval))

-- the words of a node's states
abbrev pub status_text : Status → List ℕ
status_text Out = codes "out"
status_text Waiting = codes "waiting"
status_text Installed = codes "installed"
status_text Asking = codes "asking"
status_text Installing = codes "installing"
status_text Active = codes "active"

-- a node: `node 1 epoch 1 active length 1 committed 1`
abbrev pub node_text : NodeShown → List ℕ
node_text s =
    codes "node " ++ (decimal s.node ++ (codes " epoch " ++ (decimal s.interval ++ (codes " " ++ (status_text s.status
    ++ (codes " length " ++ (decimal s.length ++ (codes " committed " ++ decimal s.committed))))))))

-- what is said of it in a line, but of messages; of those, and of what is passed over, nothing
abbrev pub said_text : Taken → List ℕ
said_text Bad = []
said_text Skipped = []
said_text Stopped = codes "stopped"
said_text (Sent count) = []
said_text (Refused why) = refused_text (handle_error_text why)
said_text (MonitorRefused why) = refused_text (monitor_error_text why)
said_text (Made m) = map_text m
said_text (Shown s) = node_text s
said_text (Again numbers) = []

-- the last `count` of the messages that were sent
abbrev pub last_text : List Packet → ℕ → List ℕ
last_text sent count = sent_text (suc (length sent - count)) (drop (length sent - count) sent)

-- The text that is printed of a line which isn't bad, by the messages that were sent up to it.
abbrev pub taken_text : List Packet → Taken → List ℕ
taken_text sent Bad = []
taken_text sent Skipped = []
taken_text sent Stopped = said_text Stopped ++ codes "\n"
taken_text sent (Sent count) = last_text sent count
taken_text sent (Refused why) = said_text (Refused why) ++ codes "\n"
taken_text sent (MonitorRefused why) = said_text (MonitorRefused why) ++ codes "\n"
taken_text sent (Made m) = said_text (Made m) ++ codes "\n"
taken_text sent (Shown s) = said_text (Shown s) ++ codes "\n"
taken_text sent (Again numbers) = again_text numbers

-- what a map and a node say of themselves
abbrev pub made_of : GroupMap → MapMade
made_of m = record { epoch = m.epoch; interval = m.interval; prev = m.prev }

-- what is shown of node n
abbrev pub shown_of : ℕ → NodeState → NodeShown
shown_of n s =
    record { node = n; interval = s.interval; status = s.status; length = length s.log; committed = s.committed }
