-- The text that a simulation prints, and why it didn't begin.
use Rattle.std.specs.Prelude.{◌≡◌, ◌⊎◌, ℕ, List, ◌++◌, Option, Bool, true, false}
use Rattle.std.specs.List.{AllByRecursion}
use Rattle.program_files.specs.Assembly.{TextFails}
use Rattle.program_files.specs.Files.{Disk, Holds}
use Rattle.program_files.specs.declared.failure.Failure.{Failure}
use Rattle.pg_log.specs.Log.{Classes}
use Rattle.sim_world.specs.Lines.{lines_of}
use Rattle.program_files.specs.Output.{Begins}
use Rattle.sim.specs.Run.{EndsBy, Grew, IsAgreedRun, Printed, bad_line, run_lines}
pub use Rattle.sim.specs.declared.file.SimulationEnd.{SimulationEnd}
pub use Rattle.sim.specs.declared.file.SimulationEnd.TheVariants.{Done, Bad, NoMemory, Unprinted}
use Rattle.verifier.specs.Verified.{IsVerifiedClass}
use Rattle.tenant_classes.specs.Classes.{AreClasses, ClassesFail, names_of}
use Rattle.sim.specs.declared.asked.Simulation.{Simulation}

-- two texts end with the same bad line
pub record EndAlike (printed drawn : List ℕ) : Type 0 where
  pub number : ℕ
  pub above : List ℕ
  pub picture : List ℕ
  pub printed_is : printed ≡ above ++ bad_line number
  pub drawn_is : drawn ≡ picture ++ bad_line number

-- A DRAWING OF LINES says whether one is bad, and if so ends with the line that says which, as the
-- printed text does. What it looks like above that line is no promise.
pub record Draws (run : Printed) (text : List ℕ) (bad : Bool) : Type 0 where
  pub is : run.bad ≡ bad
  pub ends : bad ≡ true → EndAlike run.text text

-- a drawing was printed, and no write or flush failed
pub record Shows (run : Printed) (bad : Bool) (old new : Option (List ℕ)) (failed fails : Bool) : Type 0 where
  pub text : List ℕ
  pub drawing : Draws run text bad
  pub shown : Grew old new failed fails text

-- a write or a flush failed: what was printed is a beginning of a drawing
pub record BreaksDrawing (run : Printed) (old new : Option (List ℕ)) (fails : Bool) : Type 0 where
  pub text : List ℕ
  pub bad : Bool
  pub drawing : Draws run text bad
  pub begun : Begins old new text
  pub failed : fails ≡ true

-- The end of a drawing: all of it was printed, with no bad line or with one; or memory was refused
-- and nothing was printed; or a write or a flush failed and a beginning was printed.
abbrev pub IsDrawn : Printed → Option (List ℕ) → Option (List ℕ) → Bool → Bool → SimulationEnd → Type 0
IsDrawn run old new failed fails Done = Shows run false old new failed fails
IsDrawn run old new failed fails Bad = Shows run true old new failed fails
IsDrawn run old new failed fails NoMemory = (new ≡ old) × (fails ≡ failed)
IsDrawn run old new failed fails Unprinted = BreaksDrawing run old new fails

-- A text was played: its lines were drawn, or their text was printed as defined, with objects or
-- without them.
abbrev pub Plays : Bool → Bool → Classes → List (List ℕ) → List ℕ → Option (List ℕ) → Option (List ℕ) → Bool → Bool →
    SimulationEnd → Type 0
Plays true shown classes names text old new failed fails ending =
    IsDrawn (run_lines false classes names (lines_of text)) old new failed fails ending
Plays false shown classes names text old new failed fails ending =
    EndsBy shown classes names (lines_of text) old new failed fails ending

-- each world on the way is an agreed one, of any lines
abbrev pub AllWorldsKnown : Type 0
AllWorldsKnown = (classes : Classes) (names lines : List (List ℕ)) → IsAgreedRun classes names lines

-- A SIMULATION: the text of the file of events was played with the built-in classes and those of
-- the tenants' files, in agreed worlds.
pub record Simulates (disk : Option Disk) (s : Simulation) (old new : Option (List ℕ)) (failed fails : Bool)
    (ending : SimulationEnd) : Type 0 where
  pub classes : Classes
  pub loaded : AreClasses disk s.tenants.items classes
  pub verified : AllByRecursion IsVerifiedClass classes
  pub text : List ℕ
  pub held : Holds disk s.file.now text
  pub played : Plays s.is_drawn s.has_objects classes (names_of s.tenants.items) text old new failed fails ending
  pub worlds : IsAgreedRun classes (names_of s.tenants.items) (lines_of text)

-- the classes were loaded, and the file of events can't be read or is no text; or memory was
-- refused
pub record FileFails (disk : Option Disk) (s : Simulation) (failure : Failure) : Type 0 where
  pub classes : Classes
  pub loaded : AreClasses disk s.tenants.items classes
  pub why : TextFails disk s.file.now failure

-- Why no line was done, in the order of the checks: because of the classes, or of the file of
-- events.
abbrev pub SimulationFails : Option Disk → Simulation → Failure → Type 0
SimulationFails disk s failure = ClassesFail disk s.tenants.items failure ⊎ FileFails disk s failure
