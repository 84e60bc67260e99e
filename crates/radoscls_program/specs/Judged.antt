-- The end of `verify --all`, and of `verify` on several files or in JSON, and the text that it printed.
use Rattle.std.specs.Prelude.{◌≡◌, ◌⊎◌, ℕ, Bool, true, false, List, Option, string_bytes}
use Rattle.class_reports.specs.Notes.{is_noted}
use Rattle.class_reports.specs.Reports.{AreReports, all_accepted, reports_in, reports_text}
use Rattle.class_reports.specs.declared.asked.FilesAsked.{FilesAsked}
use Rattle.class_reports.specs.declared.file_reports.FileReports.{FileReports}
use Rattle.class_tool.specs.Each.{AreVerdicts}
use Rattle.program_files.specs.Files.{Disk}
use Rattle.program_files.specs.Image.{ReadFails}
use Rattle.class_tool.specs.declared.each.Verdicts.{Verdicts}
use Rattle.program_files.specs.declared.failure.Failure.{Failure}
use Rattle.program_files.specs.declared.failure.Failure.TheVariants.{NoMemory}
use Rattle.radoscls_program.specs.Streams.{IsPrinted, IsTold, Lost, Stream, Took, failure_line}
use Rattle.radoscls_program.specs.declared.status.ExitStatus.{ExitStatus}
use Rattle.radoscls_program.specs.declared.status.ExitStatus.TheVariants.{Done, Refused, Usage}

-- each method's verdict was printed, and no rule refuses a method, or some rule does
pub record IsJudged (disk : Option Disk) (old new : Stream) (image : List ℕ)
    (is_explained accepted : Bool) : Type 0 where
  pub verdicts : Verdicts
  pub are : AreVerdicts disk image is_explained verdicts
  pub same : verdicts.are_accepted ≡ accepted
  pub printed : Took old new (string_bytes verdicts.lines)

-- all verdicts are printed, and the status tells whether a rule refuses a method; or a beginning of
-- them is printed
abbrev pub Shows : Stream → Stream → Verdicts → ExitStatus → Type 0
Shows old new verdicts Done = (verdicts.are_accepted ≡ true) × Took old new (string_bytes verdicts.lines)
Shows old new verdicts Refused = ((verdicts.are_accepted ≡ false) × Took old new (string_bytes verdicts.lines)) ⊎
    Lost old new (string_bytes verdicts.lines)
Shows old new verdicts Usage = ⊥

-- a beginning of the verdicts was printed, and a write or a flush of standard output failed
pub record IsUnprinted (disk : Option Disk) (old new : Stream) (image : List ℕ) (is_explained : Bool) : Type 0 where
  pub verdicts : Verdicts
  pub are : AreVerdicts disk image is_explained verdicts
  pub unprinted : Lost old new (string_bytes verdicts.lines)

-- no class was read, and a line says why; with --explain a note follows, and of a text each further
-- wrong line may
pub record IsUnjudged (disk : Option Disk) (old new : Stream) (image : List ℕ) (is_explained : Bool) : Type 0 where
  pub failure : Failure
  pub fails : ReadFails disk image failure
  pub told : IsTold old new failure (is_noted (record { is_explained = is_explained; is_each_line = true }) failure)

-- by the status
abbrev pub EachEnds : Option Disk → Stream → Stream → List ℕ → Bool → ExitStatus → Type 0
EachEnds disk old new image is_explained Done = IsJudged disk old new image is_explained true
EachEnds disk old new image is_explained Refused =
    IsJudged disk old new image is_explained false ⊎ IsUnprinted disk old new image is_explained ⊎
    IsUnjudged disk old new image is_explained
EachEnds disk old new image is_explained Usage = ⊥

-- what is told of files is printed, and the status tells whether each is accepted; or a beginning of
-- it is printed
abbrev pub ShowsReports : Stream → Stream → FileReports → ExitStatus → Type 0
ShowsReports old new reports Done =
    (all_accepted (reports_in reports) ≡ true) × Took old new (reports_text (reports_in reports))
ShowsReports old new reports Refused =
    ((all_accepted (reports_in reports) ≡ false) × Took old new (reports_text (reports_in reports))) ⊎
    Lost old new (reports_text (reports_in reports))
ShowsReports old new reports Usage = ⊥

-- files were judged, each of them, and what is told of them is printed or not
pub record AreJudged (disk : Option Disk) (old new : Stream) (asked : FilesAsked) (status : ExitStatus) : Type 0 where
  pub reports : FileReports
  pub are : AreReports disk asked reports
  pub shown : ShowsReports old new reports status

-- by the status; or memory was refused, and a line says so
abbrev pub FilesEnd : Option Disk → Stream → Stream → FilesAsked → ExitStatus → Type 0
FilesEnd disk old new asked Done = AreJudged disk old new asked Done
FilesEnd disk old new asked Refused =
    AreJudged disk old new asked Refused ⊎ IsPrinted old new (failure_line NoMemory)
FilesEnd disk old new asked Usage = ⊥
