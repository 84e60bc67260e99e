-- Each played world that lines lead to is an agreed one, by the events that happened, and a line
-- takes nothing back.
use Rattle.std.specs.Prelude.{◌≡◌, ◌≤◌, List, [], ◌∷◌, ◌++◌, length}
use Rattle.pg_log.specs.Requests.{ClientRequest}
use Rattle.pg_log.specs.Log.{Classes}
use Rattle.group_world.specs.World.{WorldEvent, IsAgreed, IsUncut, brought, opening, run}
use Rattle.sim_world.specs.declared.line.Line.{Line}
use Rattle.sim_world.specs.declared.line.Line.TheVariants as lines
use Rattle.sim_world.specs.declared.taken.Taken.{Taken}
use Rattle.sim_world.specs.declared.taken.Taken.TheVariants as taken
use Rattle.sim_world.specs.Step.{Played, beginning, step}

-- the events of a played world lead to its world, from the opening one
abbrev pub EventsLead : Classes → Played → Type 0
EventsLead classes p = p.world ≡ run p.events (opening classes)

-- AN AGREED PLAYED WORLD: its events lead there, with these classes, and of those events its world
-- is an agreed one.
pub record IsAgreedPlayed (classes : Classes) (p : Played) : Type 0 where
  pub leads : EventsLead classes p
  pub named : p.world.classes ≡ classes
  pub agreed : IsAgreed p.events p.world

-- a line's own events, none or one, come after those before
pub record EventsGrew (old new : List WorldEvent) : Type 0 where
  pub own : List WorldEvent
  pub few : length own ≤ 1
  pub is : new ≡ old ++ own

-- the request of a `req` line that the node took
abbrev pub taken_by : Line → Taken → List ClientRequest
taken_by (lines.Ask n r) (taken.Sent count) = r ∷ []
taken_by _ _ = []

-- A LINE TAKES NOTHING BACK: its own events come after those before, and bring the request of a
-- `req` line that the node took, and no other; no node's committed list is cut.
pub record GoesOn (p : Played) (line : Line) : Type 0 where
  pub events : EventsGrew p.events (step p line).played.events
  pub brought : brought (step p line).played.events ≡ brought p.events ++ taken_by line (step p line).taken
  pub uncut : IsUncut p.world (step p line).played.world

-- EACH WORLD ON THE WAY IS AGREED: that before the first line is; and what a line makes of one to
-- which its events lead goes on from there, and is one.
pub record WorldsAgree : Type 0 where
  pub first : (classes : Classes) → IsAgreedPlayed classes (beginning classes)
  pub next : (classes : Classes) (p : Played) (line : Line) → EventsLead classes p →
      IsAgreedPlayed classes (step p line).played × GoesOn p line
