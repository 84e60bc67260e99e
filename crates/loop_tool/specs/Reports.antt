-- What is told of files by the heads that their methods declare.
use Rattle.std.specs.Prelude.{◌≡◌, ◌⊎◌, ◌&&◌, nat_lt, ⊤, ℕ, Bool, true, false, List, [], ◌∷◌, ◌++◌, Option, Some, None}
use Rattle.std.specs.Prelude.{codes, length, map, string_bytes}
use Rattle.std.specs.Fmt.{decimal}
use Rattle.std.specs.List.{flat_map}
use Rattle.bpf_decode.specs.Class.{ClassMethod}
use Rattle.loop_heads.specs.Loops.{PlainLoops}
use Rattle.class_reports.specs.Notes.{told_text}
use Rattle.class_tool.specs.Note.{IsNote}
use Rattle.program_files.specs.Failure.{failure_text}
use Rattle.program_files.specs.Files.{Disk}
use Rattle.program_files.specs.declared.failure.Failure.{Failure}
use Rattle.loop_tool.specs.Safe.{IsLoopSafeIn, LoopLoadFails}
use Rattle.loop_tool.specs.declared.asked.LoopsAsked.{LoopsAsked}
use Rattle.loop_tool.specs.declared.loop_report.LoopReport.{LoopReport}
use Rattle.loop_tool.specs.declared.loop_reports.LoopReports.{LoopReports}

-- `f ok 12`: a method's name, and how many instructions it has; of one that declares loops `f ok 12 budget 4096`
abbrev pub line_with : Option PlainLoops → List ℕ → ℕ → List ℕ
line_with None name count = name ++ codes " ok " ++ decimal count ++ codes "\n"
line_with (Some l) name count =
    name ++ codes " ok " ++ decimal count ++ codes " budget " ++ decimal l.budget ++ codes "\n"

abbrev pub method_line : ClassMethod → List ℕ
method_line m = line_with m.loops m.name (length m.instructions)

-- a failure's line, and a note below it, if one is asked for
abbrev pub IsFailureText : Bool → Failure → List ℕ → Type 0
IsFailureText is_explained failure text =
    (note : List ℕ) × IsNote is_explained note × (text ≡ failure_text failure ++ codes "\n" ++ note)

-- THE VERDICT on a file that is accepted: its class is safe, and these are the lines of its methods
abbrev pub Accepts : Option Disk → List ℕ → LoopReport → Type 0
Accepts disk name report =
    (class : List ClassMethod) × IsLoopSafeIn disk name class × (report.is_accepted ≡ true)
    × (string_bytes report.text ≡ flat_map method_line class)

-- that on one that isn't: the text says why
abbrev pub Refuses : Option Disk → List ℕ → Bool → LoopReport → Type 0
Refuses disk name is_explained report =
    (failure : Failure) × LoopLoadFails disk name failure × (report.is_accepted ≡ false)
    × IsFailureText is_explained failure (string_bytes report.text)

abbrev pub IsPlainReport : Option Disk → List ℕ → Bool → LoopReport → Type 0
IsPlainReport disk name is_explained report = Accepts disk name report ⊎ Refuses disk name is_explained report

-- each line begins with its file's name: there are several files
abbrev pub is_named : LoopsAsked → Bool
is_named asked = nat_lt 1 (length asked.files.items)

-- WHAT IS TOLD OF A FILE.
abbrev pub IsLoopReport : Option Disk → LoopsAsked → List ℕ → LoopReport → Type 0
IsLoopReport disk asked name report =
    (plain : LoopReport) × IsPlainReport disk name asked.is_explained plain × (report.is_accepted ≡ plain.is_accepted)
    × (string_bytes report.text ≡ told_text (is_named asked) name (string_bytes plain.text))

-- the reports of the files with those names, one each, in their order
abbrev pub AreReportsOf : Option Disk → LoopsAsked → List (List ℕ) → List LoopReport → Type 0
AreReportsOf disk asked [] [] = ⊤
AreReportsOf disk asked [] (r ∷ rs) = ⊥
AreReportsOf disk asked (n ∷ ns) [] = ⊥
AreReportsOf disk asked (n ∷ ns) (r ∷ rs) = IsLoopReport disk asked n r × AreReportsOf disk asked ns rs

-- each file is accepted
abbrev pub all_accepted : List LoopReport → Bool
all_accepted [] = true
all_accepted (r ∷ rs) = r.is_accepted && all_accepted rs

-- their text
abbrev pub reports_text : List LoopReport → List ℕ
reports_text reports = flat_map (λ r. string_bytes r.text) reports

abbrev pub reports_in : LoopReports → List LoopReport
reports_in all = all.reports.items

-- WHAT IS TOLD OF FILES: the report of each that was asked for.
abbrev pub AreLoopReports : Option Disk → LoopsAsked → LoopReports → Type 0
AreLoopReports disk asked all = AreReportsOf disk asked (map (λ n. n.now) asked.files.items) (reports_in all)
