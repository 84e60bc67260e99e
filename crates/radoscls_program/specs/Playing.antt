-- The run of a file of events, and the text that it printed.
use Rattle.std.specs.Prelude.{◌⊎◌, ℕ, List, Option}
use Rattle.program_files.specs.Files.{Disk}
use Rattle.class_tool.specs.Note.{IsNote}
use Rattle.program_files.specs.declared.failure.Failure.{Failure}
use Rattle.program_files.specs.declared.failure.Failure.TheVariants.{NoMemory}
use Rattle.sim.specs.Simulating.{Simulates, SimulationFails}
use Rattle.sim.specs.declared.file.SimulationEnd.{SimulationEnd}
use Rattle.sim.specs.declared.file.SimulationEnd.TheVariants as ending
use Rattle.sim.specs.declared.asked.Simulation.{Simulation}
use Rattle.radoscls_program.specs.Streams.{Stream, IsPrinted, IsTold, failure_line}
use Rattle.radoscls_program.specs.declared.status.ExitStatus.{ExitStatus}
use Rattle.radoscls_program.specs.declared.status.ExitStatus.TheVariants.{Done, Refused, Usage}

-- the file was played to that end
abbrev pub Plays : Option Disk → Stream → Stream → Simulation → SimulationEnd → Type 0
Plays disk old new s ending = Simulates disk s old.printed new.printed old.failed new.failed ending

-- a line is bad, and with --explain a note follows
pub record IsBad (disk : Option Disk) (old new : Stream) (s : Simulation) : Type 0 where
  pub middle : Stream
  pub played : Plays disk old middle s ending.Bad
  pub note : List ℕ
  pub noted : IsNote s.is_explained note
  pub printed : IsPrinted middle new note

-- memory was refused at a line, and one more line says so
abbrev pub IsCut : Option Disk → Stream → Stream → Simulation → Type 0
IsCut disk old new s =
    (middle : Stream) × Plays disk old middle s ending.NoMemory × IsPrinted middle new (failure_line NoMemory)

-- no line was done, and one line says why; with --explain a note follows
abbrev pub IsBarred : Option Disk → Stream → Stream → Simulation → Type 0
IsBarred disk old new s =
    (failure : Failure) × SimulationFails disk s failure × IsTold old new failure s.is_explained

-- The ends of a run of a file: each line was done and printed; or one is bad, a write or a flush
-- failed, memory was refused at a line, or no line was done.
abbrev pub SimEnds : Option Disk → Stream → Stream → Simulation → ExitStatus → Type 0
SimEnds disk old new s Done = Plays disk old new s ending.Done
SimEnds disk old new s Refused =
    IsBad disk old new s ⊎ Plays disk old new s ending.Unprinted ⊎ IsCut disk old new s ⊎ IsBarred disk old new s
SimEnds disk old new s Usage = ⊥
