-- The lines of a file are done one after another up to the first bad one, in the group's world: the
-- text that is printed.
use Rattle.std.specs.Prelude.{◌≡◌, ℕ, suc, ◌≤◌, List, [], ◌∷◌, ◌++◌, length, take, Bool, true, false, Option}
use Rattle.std.specs.Prelude.{Some, None, is_some, if◌then◌else◌, codes}
use Rattle.std.specs.Fmt.{decimal}
use Rattle.std.specs.Io.KnownBytes.{Appends}
use Rattle.std.specs.List.{AllByRecursion, Contains}
use Rattle.pg_log.specs.Requests.{ClientRequest}
use Rattle.object_texts.specs.Shown.{objects_text}
use Rattle.pg_log.specs.Log.{Classes, fold}
use Rattle.group_world.specs.World.{IsUncut, brought}
use Rattle.group_world.specs.declared.message.Packet.{Packet}
use Rattle.peering.specs.Numbered.{NumberedNode}
use Rattle.sim.specs.declared.file.SimulationEnd.{SimulationEnd}
use Rattle.sim.specs.declared.file.SimulationEnd.TheVariants.{Done, Bad, NoMemory, Unprinted}
use Rattle.program_files.specs.Output.{Begins}
use Rattle.verifier.specs.Verified.{IsVerifiedClass}
use Rattle.sim.specs.Replies.{ReplyHasRun}
use Rattle.sim_world.specs.Lines.{line_of}
use Rattle.sim_world.specs.Texts.{is_bad, taken_text}
use Rattle.sim_world.specs.declared.line.Line.{Line}
use Rattle.sim_world.specs.declared.line.Line.TheVariants.{Ask}
use Rattle.sim_world.specs.declared.taken.Taken.{Taken}
use Rattle.sim_world.specs.declared.taken.Taken.TheVariants.{Shown}
use Rattle.sim_world.specs.Step.{Played, Happened, beginning, step}
use Rattle.sim_world.specs.Agreed.{EventsGrew, IsAgreedPlayed}
use Rattle.sim_world.specs.Holds.{Holds, node_at}
use Rattle.sim_world.specs.inner.Parts.{Parts}

-- a line that can't be done, by its number from 1
abbrev pub bad_line : ℕ → List ℕ
bad_line number = codes "line " ++ decimal number ++ codes ": bad\n"

-- the text of a line, by the messages that were sent up to it
abbrev pub line_text : ℕ → List Packet → Taken → List ℕ
line_text number sent taken = if is_bad taken then bad_line number else taken_text sent taken

-- THE OBJECTS OF A NODE: those that its log makes, each by its name
abbrev pub node_objects : Classes → Option NumberedNode → List ℕ
node_objects classes None = []
node_objects classes (Some node) = objects_text (fold classes node.state.log)

-- what stands below the text of a line: the objects of the node that it shows
abbrev pub below : Classes → Played → Taken → List ℕ
below classes p (Shown s) = node_objects classes (node_at p s.node)
below classes p _ = []

-- what is printed of a line, without objects or with them
abbrev pub text_of : Bool → Classes → ℕ → Happened → List ℕ
text_of false classes number h = line_text number h.played.world.sent h.taken
text_of true classes number h = line_text number h.played.world.sent h.taken ++ below classes h.played h.taken

-- The text of lines, whether one is bad, and the played world after them.
pub record Printed : Type 0 where
  pub text : List ℕ
  pub bad : Bool
  pub played : Played

-- a line's text before that of the rest
abbrev pub before_rest : List ℕ → Printed → Printed
before_rest text rest = record { text = text ++ rest.text; bad = rest.bad; played = rest.played }

-- a line, of which that is printed, and then the rest from the world after it; nothing follows a bad
-- line
abbrev pub go_on : (ℕ → Happened → List ℕ) → ℕ → (Played → Printed) → Happened → Printed
go_on say number rest h = let text = say number h in
    if is_bad h.taken then record { text = text; bad = true; played = h.played } else before_rest text (rest h.played)

-- from a played world, after this number of lines
abbrev pub run_from : (ℕ → Happened → List ℕ) → List (List ℕ) → ℕ → Played → List (List ℕ) → Printed
run_from say names number p [] = record { text = []; bad = false; played = p }
run_from say names number p (line ∷ lines) =
    go_on say (suc number) (λ q. run_from say names (suc number) q lines) (step p (line_of names line))

-- THE LINES OF A FILE, with these classes and their names, and with objects or without them.
abbrev pub run_lines : Bool → Classes → List (List ℕ) → List (List ℕ) → Printed
run_lines shown classes names lines = run_from (text_of shown classes) names 0 (beginning classes) lines

-- THE WORLDS ON THE WAY: the played world after the given number of lines.
abbrev pub played_after : Classes → List (List ℕ) → List (List ℕ) → ℕ → Played
played_after classes names lines above = (run_lines false classes names (take above lines)).played

-- the requests of the `req` lines
abbrev pub asked_in : Line → List ClientRequest
asked_in (Ask n r) = r ∷ []
asked_in _ = []

-- of all lines
abbrev pub asked : List (List ℕ) → List (List ℕ) → List ClientRequest
asked names [] = []
asked names (line ∷ lines) = asked_in (line_of names line) ++ asked names lines

-- EACH WORLD ON THE WAY IS AGREED, by the events that happened up to it. A line's events follow
-- those before it; the requests that events brought are those of the `req` lines above; no
-- committed list is cut between two lines; and if the classes are verified, each reply that was
-- sent is its method's run in every layout.
pub record IsAgreedRun (classes : Classes) (names lines : List (List ℕ)) : Type 0 where
  pub agreed : (above : ℕ) → IsAgreedPlayed classes (played_after classes names lines above)
  pub brought : (above : ℕ) (r : ClientRequest) → Contains (brought (played_after classes names lines above).events) r →
      Contains (asked names (take above lines)) r
  pub events : (above : ℕ) →
      EventsGrew (played_after classes names lines above).events (played_after classes names lines (suc above)).events
  pub uncut : (above : ℕ) →
      IsUncut (played_after classes names lines above).world (played_after classes names lines (suc above)).world
  pub replies : AllByRecursion IsVerifiedClass classes → (above : ℕ) (q : Packet) →
      Contains (played_after classes names lines above).world.sent q
      → ReplyHasRun classes (agreed above).agreed.list q.message.kind

-- the printed text, if it is known, grew by that text, and no write or flush failed
pub record Grew (old new : Option (List ℕ)) (failed fails : Bool) (text : List ℕ) : Type 0 where
  pub grew : Appends old new text
  pub well : fails ≡ failed

-- All text of the file's lines was printed; one of them is bad, or none is.
pub record Prints (printed : Printed) (bad : Bool) (old new : Option (List ℕ)) (failed fails : Bool) : Type 0 where
  pub shown : Grew old new failed fails printed.text
  pub is : printed.bad ≡ bad

-- Memory was refused at a line: the lines above it were done and printed, and none of them is bad.
pub record Stops (shown : Bool) (classes : Classes) (names lines : List (List ℕ)) (old new : Option (List ℕ))
    (failed fails : Bool) : Type 0 where
  pub above : ℕ
  pub within : above ≤ length lines
  pub printed : Prints (run_lines shown classes names (take above lines)) false old new failed fails

-- A write or a flush failed: a beginning of the text of all lines was printed.
pub record BreaksOff (printed : Printed) (old new : Option (List ℕ)) (fails : Bool) : Type 0 where
  pub begun : Begins old new printed.text
  pub failed : fails ≡ true

-- The end of a run.
abbrev pub EndsBy : Bool → Classes → List (List ℕ) → List (List ℕ) → Option (List ℕ) → Option (List ℕ) → Bool →
    Bool → SimulationEnd → Type 0
EndsBy shown classes names lines old new failed fails Done =
    Prints (run_lines shown classes names lines) false old new failed fails
EndsBy shown classes names lines old new failed fails Bad =
    Prints (run_lines shown classes names lines) true old new failed fails
EndsBy shown classes names lines old new failed fails NoMemory = Stops shown classes names lines old new failed fails
EndsBy shown classes names lines old new failed fails Unprinted =
    BreaksOff (run_lines shown classes names lines) old new fails

-- a line was done: the world that is held after it, its text, and whether it is bad
pub record IsLine (shown : Bool) (classes : Classes) (h : Happened) (number : ℕ) (new : Parts) (text : List ℕ)
    (bad : Bool) : Type 0 where
  pub held : Holds classes new h.played
  pub says : text ≡ text_of shown classes number h
  pub is : bad ≡ is_bad h.taken

-- so from each played world that the parts hold
abbrev pub Takes : Bool → Classes → List (List ℕ) → List ℕ → ℕ → Parts → Parts → List ℕ → Bool → Type 0
Takes shown classes names line number old new text bad =
    (p : Played) → Holds classes old p → IsLine shown classes (step p (line_of names line)) number new text bad

-- a line was done: the world that is held after it, and whether it is bad
pub record IsDone (classes : Classes) (h : Happened) (new : Parts) (bad : Bool) : Type 0 where
  pub held : Holds classes new h.played
  pub is : bad ≡ is_bad h.taken

-- so from each played world that the parts hold
abbrev pub Does : Classes → List (List ℕ) → List ℕ → Parts → Parts → Bool → Type 0
Does classes names line old new bad =
    (p : Played) → Holds classes old p → IsDone classes (step p (line_of names line)) new bad

-- the printed text ends with the bad line of that number
pub record EndsAt (printed : Printed) (number : ℕ) : Type 0 where
  pub is : printed.bad ≡ true
  pub above : List ℕ
  pub says : printed.text ≡ above ++ bad_line number

-- the number of the bad line, if one is bad
abbrev pub HasBad : Printed → Option ℕ → Type 0
HasBad printed None = printed.bad ≡ false
HasBad printed (Some number) = EndsAt printed number

-- the bad line of a number, if there is one
abbrev pub bad_of : Option ℕ → List ℕ
bad_of None = []
bad_of (Some number) = bad_line number

-- some picture, and then the bad line, if there is one
pub record IsPicture (number : Option ℕ) (text : List ℕ) (bad : Bool) : Type 0 where
  pub picture : List ℕ
  pub text_is : text ≡ picture ++ bad_of number
  pub bad_is : bad ≡ is_some number

-- the text is what stands below a line
abbrev pub IsBelow : Classes → Parts → Taken → List ℕ → Type 0
IsBelow classes parts taken text = (p : Played) → Holds classes parts p → text ≡ below classes p taken

-- the text is that of the line, by the messages of the played world
abbrev pub SaysOf : Classes → Parts → ℕ → Taken → List ℕ → Type 0
SaysOf classes parts number taken text =
    (p : Played) → Holds classes parts p → text ≡ line_text number p.world.sent taken

-- and with what stands below it, or without that
abbrev pub SaysAll : Bool → Classes → Parts → ℕ → Taken → List ℕ → Type 0
SaysAll shown classes parts number taken text =
    (p : Played) → Holds classes parts p → text ≡ text_of shown classes number (record { played = p; taken = taken })
