-- What is told of files.
use Rattle.std.specs.Prelude.{◌≡◌, ◌⊎◌, ◌&&◌, nat_lt, ⊤, ℕ, Bool, true, false, List, [], ◌∷◌, Option, length, map}
use Rattle.std.specs.Prelude.{string_bytes}
use Rattle.std.specs.List.{flat_map}
use Rattle.bpf_decode.specs.Class.{ClassMethod}
use Rattle.class_tool.specs.ActionResult.{method_line}
use Rattle.class_tool.specs.Each.{AreVerdicts}
use Rattle.program_files.specs.Files.{Disk}
use Rattle.program_files.specs.Image.{IsSafeIn, LoadFails, ReadFails}
use Rattle.class_tool.specs.declared.each.Verdicts.{Verdicts}
use Rattle.program_files.specs.declared.failure.Failure.{Failure}
use Rattle.class_reports.specs.Json.{accepted_lines, json_line, refused_data}
use Rattle.class_reports.specs.Notes.{IsFailureText, told_text}
use Rattle.class_reports.specs.declared.asked.FilesAsked.{FilesAsked}
use Rattle.class_reports.specs.declared.asked.ReportForm.{ReportForm}
use Rattle.class_reports.specs.declared.asked.ReportForm.TheVariants as form
use Rattle.class_reports.specs.declared.file_report.FileReport.{FileReport}
use Rattle.class_reports.specs.declared.file_reports.FileReports.{FileReports}

-- THE VERDICT on a file that is accepted: its class is safe, and these are the lines of its methods
abbrev pub Accepts : Option Disk → List ℕ → (List ClassMethod → List ℕ) → FileReport → Type 0
Accepts disk name lines report =
    (class : List ClassMethod) × IsSafeIn disk name class × (report.is_accepted ≡ true)
    × (string_bytes report.text ≡ lines class)

-- that on one that isn't: `verify` fails so, and the text says why
abbrev pub Refuses : Option Disk → List ℕ → (Failure → List ℕ → Type 0) → FileReport → Type 0
Refuses disk name Says report =
    (failure : Failure) × LoadFails disk name failure × (report.is_accepted ≡ false)
    × Says failure (string_bytes report.text)

-- a line for each method, or a failure's line, as `verify` prints them
abbrev pub IsClassReport : Option Disk → List ℕ → Bool → FileReport → Type 0
IsClassReport disk name e report =
    Accepts disk name (flat_map method_line) report ⊎
    Refuses disk name (IsFailureText (record { is_explained = e; is_each_line = false })) report

-- in JSON
abbrev pub IsJsonReport : Option Disk → List ℕ → FileReport → Type 0
IsJsonReport disk name report =
    Accepts disk name (accepted_lines name) report ⊎
    Refuses disk name (λ failure text. text ≡ json_line (refused_data name failure)) report

-- each method's verdict, as `verify --all` prints them
abbrev pub TellsEach : Option Disk → List ℕ → Bool → FileReport → Type 0
TellsEach disk name e report =
    (verdicts : Verdicts) × AreVerdicts disk name e verdicts × (report.is_accepted ≡ verdicts.are_accepted)
    × (string_bytes report.text ≡ string_bytes verdicts.lines)

-- or no class was read
abbrev pub TellsNone : Option Disk → List ℕ → Bool → FileReport → Type 0
TellsNone disk name e report =
    (failure : Failure) × ReadFails disk name failure × (report.is_accepted ≡ false)
    × IsFailureText (record { is_explained = e; is_each_line = true }) failure (string_bytes report.text)

abbrev pub IsEachReport : Option Disk → List ℕ → Bool → FileReport → Type 0
IsEachReport disk name e report = TellsEach disk name e report ⊎ TellsNone disk name e report

-- by the form
abbrev pub IsReportIn : ReportForm → Option Disk → Bool → List ℕ → FileReport → Type 0
IsReportIn form.Class disk e name report = IsClassReport disk name e report
IsReportIn form.Each disk e name report = IsEachReport disk name e report
IsReportIn form.Json disk e name report = IsJsonReport disk name report

abbrev pub IsPlainReport : Option Disk → FilesAsked → List ℕ → FileReport → Type 0
IsPlainReport disk asked name report = IsReportIn asked.form disk asked.is_explained name report

-- each line begins with its file's name
abbrev pub is_named_in : ReportForm → ℕ → Bool
is_named_in form.Class count = nat_lt 1 count
is_named_in form.Each count = nat_lt 1 count
is_named_in form.Json count = false

abbrev pub is_named : FilesAsked → Bool
is_named asked = is_named_in asked.form (length asked.files.items)

-- WHAT IS TOLD OF A FILE.
abbrev pub IsReport : Option Disk → FilesAsked → List ℕ → FileReport → Type 0
IsReport disk asked name report =
    (plain : FileReport) × IsPlainReport disk asked name plain × (report.is_accepted ≡ plain.is_accepted)
    × (string_bytes report.text ≡ told_text (is_named asked) name (string_bytes plain.text))

-- the reports of the files with those names, one each, in their order
abbrev pub AreReportsOf : Option Disk → FilesAsked → List (List ℕ) → List FileReport → Type 0
AreReportsOf disk asked [] [] = ⊤
AreReportsOf disk asked [] (r ∷ rs) = ⊥
AreReportsOf disk asked (n ∷ ns) [] = ⊥
AreReportsOf disk asked (n ∷ ns) (r ∷ rs) = IsReport disk asked n r × AreReportsOf disk asked ns rs

-- each file is accepted
abbrev pub all_accepted : List FileReport → Bool
all_accepted [] = true
all_accepted (r ∷ rs) = r.is_accepted && all_accepted rs

-- their text
abbrev pub reports_text : List FileReport → List ℕ
reports_text reports = flat_map (λ r. string_bytes r.text) reports

abbrev pub reports_in : FileReports → List FileReport
reports_in all = all.reports.items

-- WHAT IS TOLD OF FILES: the report of each that was asked for.
abbrev pub AreReports : Option Disk → FilesAsked → FileReports → Type 0
AreReports disk asked all = AreReportsOf disk asked (map (λ n. n.now) asked.files.items) (reports_in all)
