-- How the program holds a played world: it has the nodes 0 to 15 alone, and of a list that was sent
-- only what its receiver lacked.
use Rattle.std.specs.Prelude.{◌≡◌, ℕ, ◌≤◌, ◌<◌, List, [], ◌∷◌, length, map, Option, Some, None, if◌then◌else◌}
use Rattle.pg_log.specs.Log.{Classes}
use Rattle.group_world.specs.Node.{NodeState}
use Rattle.group_world.specs.declared.party.Party.{Party}
use Rattle.group_world.specs.declared.party.Party.TheVariants.{Node as ANode, Monitor as TheMonitor, Client as AClient}
use Rattle.group_world.specs.declared.message.Packet.{Packet}
use Rattle.peering.specs.Numbered.{NumberedNode}
use Rattle.sim_world.specs.Kept.{carried_text}
use Rattle.sim_world.specs.Texts.{kind_text, taken_text}
use Rattle.sim_world.specs.declared.line.Line.{Line}
use Rattle.sim_world.specs.declared.taken.Taken.{Taken}
use Rattle.sim_world.specs.Agreed.{EventsLead, GoesOn}
use Rattle.sim_world.specs.Keeping.{kept_as}
use Rattle.sim_world.specs.Step.{Played, is_node, step}
use Rattle.sim_world.specs.inner.Parts.{Parts, nth_node}
use Rattle.sim_world.specs.declared.kept.KeptMessage.{KeptMessage}

-- A MESSAGE IS KEPT as it is carried; its receiver, if it is a node, reported no more entries than
-- it has committed now.
abbrev pub HasCommitted : (ℕ → NodeState) → Party → ℕ → Type 0
HasCommitted nodes (ANode n) reported = reported ≤ (nodes n).committed
HasCommitted nodes TheMonitor reported = Unit {0}
HasCommitted nodes (AClient client) reported = Unit {0}

-- the message is kept as one that was sent
pub record IsKept (nodes : ℕ → NodeState) (k : KeptMessage) (p : Packet) : Type 0 where
  pub committed : ℕ
  pub reported : ℕ
  pub same : k ≡ kept_as committed reported p
  pub enough : HasCommitted nodes p.receiver reported

-- each message is kept at its number
abbrev pub AreKept : (ℕ → NodeState) → List KeptMessage → List Packet → Type 0
AreKept nodes [] [] = Unit {0}
AreKept nodes [] (p ∷ ps) = ⊥
AreKept nodes (k ∷ ks) [] = ⊥
AreKept nodes (k ∷ ks) (p ∷ ps) = IsKept nodes k p × AreKept nodes ks ps

-- These parts hold a played world, to which its events lead.
pub record Holds (classes : Classes) (parts : Parts) (p : Played) : Type 0 where
  pub reached : EventsLead classes p
  pub maps : parts.maps ≡ p.world.maps
  pub monitor : parts.monitor ≡ p.world.monitor
  pub count : length parts.nodes ≡ 16
  pub nodes : (n : ℕ) → n < 16 → nth_node parts.nodes n ≡ record { number = n; state = p.world.nodes n }
  pub stopped : parts.stopped ≡ p.stopped
  pub flags : length p.stopped ≡ 16
  pub sent : AreKept p.world.nodes parts.sent p.world.sent

-- they hold some played world
abbrev pub IsPlayed : Classes → Parts → Type 0
IsPlayed classes parts = (p : Played) × Holds classes parts p

-- A LINE WAS DONE: the parts hold the played world after the line, the result is the line's, and
-- nothing is taken back.
pub record IsStep (classes : Classes) (new : Parts) (p : Played) (line : Line) (taken : Taken) : Type 0 where
  pub held : Holds classes new (step p line).played
  pub came : taken ≡ (step p line).taken
  pub goes_on : GoesOn p line

-- so from each played world that the parts hold
abbrev pub Steps : Classes → Parts → Parts → Line → Taken → Type 0
Steps classes old new line taken = (p : Played) → Holds classes old p → IsStep classes new p line taken

-- that text is printed for a line's result
abbrev pub Says : Classes → Parts → Taken → List ℕ → Type 0
Says classes parts taken text = (p : Played) → Holds classes parts p → text ≡ taken_text p.world.sent taken

-- THE NODE OF A NUMBER and its state; none if there is no such node
abbrev pub node_at : Played → ℕ → Option NumberedNode
node_at p n = if is_node p n then Some (record { number = n; state = p.world.nodes n }) else None

-- the code's node of a number
abbrev pub IsNodeAt : Classes → Parts → ℕ → Option NumberedNode → Type 0
IsNodeAt classes parts n node = (p : Played) → Holds classes parts p → node ≡ node_at p n

-- A MESSAGE AS IT IS SHOWN: its sender, receiver and text, of one that was sent and of one as it is
-- kept.
pub record MessageShown : Type 0 where
  pub sender : Party
  pub receiver : Party
  pub text : List ℕ

-- of a message that was sent, and of one as it is kept:
abbrev pub message_shown : Packet → MessageShown
message_shown p = record { sender = p.message.sender; receiver = p.receiver; text = kind_text p.message.kind }

abbrev pub kept_shown : KeptMessage → MessageShown
kept_shown k = record { sender = k.message.sender; receiver = k.receiver; text = carried_text k.message.kind }

-- all messages are shown as they were sent
abbrev pub AreShown : Classes → Parts → List KeptMessage → Type 0
AreShown classes parts sent =
    (p : Played) → Holds classes parts p → map kept_shown sent ≡ map message_shown p.world.sent
