-- The end of `verify --loops`, of `run --loops`, of `heads` and of `pack --heads`.
use Rattle.std.proofs.Common.{◌≡◌, ◌++◌, ◌||◌, inl, inr, Bool, true, false, List, [], ℕ, Option, IsUtf8, subst, sym}
use Rattle.std.proofs.lemmas.Str.{IsUtf8-nil}
use Rattle.std.specs.Prelude.{codes}
use Rattle.class_reports.specs.Notes.{is_noted}
use Rattle.class_tool.specs.Note.{IsNote}
use Rattle.class_tool.specs.declared.action_result.ActionResult.TheVariants.{Ran}
use Rattle.class_tool.specs.declared.run_report.RunReport.{RunReport}
use Rattle.loop_tool.specs.LoopRun.{LoopRunFails, LoopRuns}
use Rattle.loop_tool.specs.Reports.{AreLoopReports}
use Rattle.loop_tool.specs.declared.asked.LoopsAsked.{LoopsAsked}
use Rattle.loop_tool.specs.declared.write_heads_error.WriteHeadsError.{WriteHeadsError}
use Rattle.loop_tool.specs.declared.loop_reports.LoopReports.{LoopReports}
use Rattle.program_files.specs.Files.{Disk}
use Rattle.object_texts.specs.declared.method_call.MethodCall.{MethodCall}
use Rattle.program_files.specs.declared.failure.Failure.{Failure}
use Rattle.radoscls_program.specs.Change.{Change}
use Rattle.radoscls_program.specs.Looped.{IsHeadlessTold, LoopRunEnds, LoopsEnd, ShowsLoops, headless_text}
use Rattle.radoscls_program.specs.Shown.{IsToldAs, IsToldBy, ShowsAnswer}
use Rattle.radoscls_program.specs.Streams.{IsPrinted, Stream, failure_line}
use Rattle.radoscls_program.specs.declared.status.ExitStatus.{ExitStatus}
use Rattle.radoscls_program.specs.declared.status.ExitStatus.TheVariants.{Done, Refused, Usage}
use Rattle.radoscls_program.specs.declared.task.Telling.{Telling}

-- by reports of files that were printed
pub looped : (disk : Option Disk) (old new : Stream) (asked : LoopsAsked) (r : LoopReports) (status : ExitStatus) → AreLoopReports disk asked r
    → ShowsLoops old new r status → LoopsEnd disk old new asked status
looped disk old new asked r Done are shows = record { reports = r; are = are; shown = shows }
looped disk old new asked r Refused are shows = inl (record { reports = r; are = are; shown = shows })
looped disk old new asked r Usage are none = absurd none

-- by an error that was told
pub headless : (change : Change) (Fails : WriteHeadsError → Type 0) (e : WriteHeadsError) → Fails e → IsPrinted change.old change.new (headless_text e ++ codes "\n")
    → IsHeadlessTold change Fails
headless change Fails e fails told = record { error = e; fails = fails; told = told }

-- by a call whose report was printed or not
pub ran_by_loops : (change : Change) (call : MethodCall) (telling : Telling) (report : RunReport) (status : ExitStatus) → LoopRuns change.before change.after call report
    → ShowsAnswer telling.is_json change.old change.new (Ran report) status → LoopRunEnds change call telling status
ran_by_loops change call telling report Done runs shown = record { report = report; runs = runs; shown = shown }
ran_by_loops change call telling report Refused runs shown = inl (record { report = report; runs = runs; shown = shown })
ran_by_loops change call telling report Usage runs none = absurd none

-- by a failure that was told
pub not_run : (change : Change) (call : MethodCall) (telling : Telling) (failure : Failure) (status : ExitStatus) → status ≡ Refused
    → LoopRunFails change.before change.after call failure → IsToldAs change.old change.new failure telling → LoopRunEnds change call telling status
not_run change call telling failure status is fails told =
    subst (λ (s : ExitStatus). LoopRunEnds change call telling s) (sym is) (inr (record { failure = failure; fails = fails; told = told }))

-- a note that was asked for is one, also where more asks for it
noted_too : (asked more : Bool) (note : List ℕ) → IsNote asked note → IsNote (asked || more) note
noted_too true more note is = is
noted_too false true note is = subst IsUtf8 (sym is) IsUtf8-nil
noted_too false false note is = is

-- a failure's line and a note are told
pub unrun_told : (old new : Stream) (failure : Failure) (telling : Telling) (note : List ℕ) → telling.is_json ≡ false → IsNote telling.notes.is_explained note
    → IsPrinted old new (failure_line failure ++ note) → IsToldAs old new failure telling
unrun_told old new failure telling note plain is printed =
    subst (λ (json : Bool). IsToldBy json old new failure telling) (sym plain)
    (record { note = note; noted = noted_too telling.notes.is_explained _ note is; printed = printed })
