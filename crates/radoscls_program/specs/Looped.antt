-- The end of `verify --loops`, of `run --loops`, of `heads` and of `pack --heads`, and the text that they printed.
use Rattle.std.specs.Prelude.{◌≡◌, ◌⊎◌, ◌++◌, ℕ, true, false, List, Option, codes}
use Rattle.class_tool.specs.declared.action_result.ActionResult.TheVariants.{Ran}
use Rattle.class_tool.specs.declared.run_report.RunReport.{RunReport}
use Rattle.loop_tool.specs.Heads.{HeadsFail, WritesHeads}
use Rattle.loop_tool.specs.LoopRun.{LoopRunFails, LoopRuns}
use Rattle.loop_tool.specs.NoHeads.{no_heads_text}
use Rattle.loop_tool.specs.PackedHeads.{PackHeadsFail, PacksWithHeads}
use Rattle.loop_tool.specs.Reports.{AreLoopReports, all_accepted, reports_in, reports_text}
use Rattle.loop_tool.specs.declared.asked.HeadedPacking.{HeadedPacking}
use Rattle.loop_tool.specs.declared.asked.HeadsAsked.{HeadsAsked}
use Rattle.loop_tool.specs.declared.asked.LoopsAsked.{LoopsAsked}
use Rattle.loop_tool.specs.declared.write_heads_error.WriteHeadsError.{WriteHeadsError}
use Rattle.loop_tool.specs.declared.write_heads_error.WriteHeadsError.TheVariants.{Failed, NotFound}
use Rattle.loop_tool.specs.declared.loop_reports.LoopReports.{LoopReports}
use Rattle.object_texts.specs.declared.method_call.MethodCall.{MethodCall}
use Rattle.program_files.specs.Failure.{failure_text}
use Rattle.program_files.specs.Files.{Disk}
use Rattle.program_files.specs.declared.failure.Failure.{Failure}
use Rattle.program_files.specs.declared.failure.Failure.TheVariants.{NoMemory}
use Rattle.radoscls_program.specs.Change.{Change}
use Rattle.radoscls_program.specs.Shown.{IsToldAs, ShowsAnswer}
use Rattle.radoscls_program.specs.Streams.{IsPrinted, Lost, Stream, Took, failure_line}
use Rattle.radoscls_program.specs.declared.status.ExitStatus.{ExitStatus}
use Rattle.radoscls_program.specs.declared.status.ExitStatus.TheVariants.{Done, Refused, Usage}
use Rattle.radoscls_program.specs.declared.task.Telling.{Telling}

-- what is told of files is printed, and the status tells whether each is accepted; or a beginning of
-- it is printed
abbrev pub ShowsLoops : Stream → Stream → LoopReports → ExitStatus → Type 0
ShowsLoops old new reports Done =
    (all_accepted (reports_in reports) ≡ true) × Took old new (reports_text (reports_in reports))
ShowsLoops old new reports Refused =
    ((all_accepted (reports_in reports) ≡ false) × Took old new (reports_text (reports_in reports))) ⊎
    Lost old new (reports_text (reports_in reports))
ShowsLoops old new reports Usage = ⊥

-- files were judged by heads, each of them, and what is told of them is printed or not
pub record AreJudgedByLoops (disk : Option Disk) (old new : Stream) (asked : LoopsAsked)
    (status : ExitStatus) : Type 0 where
  pub reports : LoopReports
  pub are : AreLoopReports disk asked reports
  pub shown : ShowsLoops old new reports status

-- by the status; or memory was refused, and a line says so
abbrev pub LoopsEnd : Option Disk → Stream → Stream → LoopsAsked → ExitStatus → Type 0
LoopsEnd disk old new asked Done = AreJudgedByLoops disk old new asked Done
LoopsEnd disk old new asked Refused =
    AreJudgedByLoops disk old new asked Refused ⊎ IsPrinted old new (failure_line NoMemory)
LoopsEnd disk old new asked Usage = ⊥

-- a call was made by loops, and its report is printed or not
pub record IsRunByLoops (change : Change) (call : MethodCall) (telling : Telling) (status : ExitStatus) : Type 0 where
  pub report : RunReport
  pub runs : LoopRuns change.before change.after call report
  pub shown : ShowsAnswer telling.is_json change.old change.new (Ran report) status

-- none was made, or its object was not saved, and that is told
pub record IsNotRunByLoops (change : Change) (call : MethodCall) (telling : Telling) : Type 0 where
  pub failure : Failure
  pub fails : LoopRunFails change.before change.after call failure
  pub told : IsToldAs change.old change.new failure telling

-- by the status
abbrev pub LoopRunEnds : Change → MethodCall → Telling → ExitStatus → Type 0
LoopRunEnds change call telling Done = IsRunByLoops change call telling Done
LoopRunEnds change call telling Refused =
    IsRunByLoops change call telling Refused ⊎ IsNotRunByLoops change call telling
LoopRunEnds change call telling Usage = ⊥

-- why no image with heads was written
abbrev pub headless_text : WriteHeadsError → List ℕ
headless_text (Failed failed) = failure_text failed.failure
headless_text (NotFound lacking) = no_heads_text lacking

-- none was written for such a reason, and a line says which
pub record IsHeadlessTold (change : Change) (Fails : WriteHeadsError → Type 0) : Type 0 where
  pub error : WriteHeadsError
  pub fails : Fails error
  pub told : IsPrinted change.old change.new (headless_text error ++ codes "\n")

-- the image with heads was written, and nothing printed; or none was
abbrev pub HeadsEnd : Change → HeadsAsked → ExitStatus → Type 0
HeadsEnd change asked Done = WritesHeads change.before change.after asked × (change.new ≡ change.old)
HeadsEnd change asked Refused = IsHeadlessTold change (HeadsFail change.before change.after asked)
HeadsEnd change asked Usage = ⊥

-- the image of raw code with heads was written, and nothing printed; or none was
abbrev pub PackHeadsEnd : Change → HeadedPacking → ExitStatus → Type 0
PackHeadsEnd change asked Done = PacksWithHeads change.before change.after asked × (change.new ≡ change.old)
PackHeadsEnd change asked Refused = IsHeadlessTold change (PackHeadsFail change.before change.after asked)
PackHeadsEnd change asked Usage = ⊥
