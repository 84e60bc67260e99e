-- The end of `sim`.
use Rattle.std.proofs.Common.{◌≡◌, inl, inr, ℕ, List, Option, subst, sym}
use Rattle.program_files.specs.Files.{Disk}
use Rattle.class_tool.specs.Note.{IsNote}
use Rattle.program_files.specs.declared.failure.Failure.{Failure}
use Rattle.sim.specs.Simulating.{SimulationFails}
use Rattle.sim.specs.declared.asked.Simulation.{Simulation}
use Rattle.sim.specs.declared.file.SimulationEnd.TheVariants as ending
use Rattle.radoscls_program.specs.Playing.{Plays, SimEnds}
use Rattle.radoscls_program.specs.Streams.{IsPrinted, IsTold, Stream}
use Rattle.radoscls_program.specs.declared.status.ExitStatus.{ExitStatus}
use Rattle.radoscls_program.specs.declared.status.ExitStatus.TheVariants.{Done, Refused, Usage}

-- a line is bad, and a note was printed below it
pub bad_ended : (disk : Option Disk) (old middle new : Stream) (s : Simulation) (note : List ℕ) (status : ExitStatus) → status ≡ Refused
    → Plays disk old middle s ending.Bad → IsNote s.is_explained note → IsPrinted middle new note → SimEnds disk old new s status
bad_ended disk old middle new s note status is played noted printed =
    subst (λ (e : ExitStatus). SimEnds disk old new s e) (sym is) (inl (record { middle = middle; played = played; note = note; noted = noted; printed = printed }))

-- no line was done, and it was told why
pub barred : (disk : Option Disk) (old new : Stream) (s : Simulation) (failure : Failure) (status : ExitStatus) → status ≡ Refused
    → SimulationFails disk s failure → IsTold old new failure s.is_explained → SimEnds disk old new s status
barred disk old new s failure status is fails told = subst (λ (e : ExitStatus). SimEnds disk old new s e) (sym is) (inr (inr (inr (failure, fails, told))))
