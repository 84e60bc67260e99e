-- The end of `verify --all` and of `verify` on files, and notes.
use Rattle.std.proofs.Common.{◌≡◌, inl, inr, Bool, true, false, List, [], ℕ, IsUtf8, Option, String, string_bytes, subst, sym}
use Rattle.std.proofs.lemmas.Str.{IsUtf8-nil, IsUtf8-string_bytes}
use Rattle.class_reports.specs.Notes.{is_noted}
use Rattle.class_reports.specs.Reports.{AreReports}
use Rattle.class_reports.specs.declared.asked.FilesAsked.{FilesAsked}
use Rattle.class_reports.specs.declared.file_reports.FileReports.{FileReports}
use Rattle.class_tool.specs.Note.{IsNote}
use Rattle.class_tool.specs.Each.{AreVerdicts}
use Rattle.program_files.specs.Files.{Disk}
use Rattle.program_files.specs.Image.{ReadFails}
use Rattle.class_tool.specs.declared.each.Verdicts.{Verdicts}
use Rattle.program_files.specs.declared.failure.Failure.{Failure}
use Rattle.radoscls_program.specs.Judged.{EachEnds, FilesEnd, Shows, ShowsReports}
use Rattle.radoscls_program.specs.Streams.{IsTold, Stream}
use Rattle.radoscls_program.specs.declared.status.ExitStatus.{ExitStatus}
use Rattle.radoscls_program.specs.declared.status.ExitStatus.TheVariants.{Done, Refused, Usage}

module _ (disk : Option Disk) (old new : Stream) (image : List ℕ) (e : Bool) where
  -- by verdicts that were printed
  pub judged : (v : Verdicts) (status : ExitStatus) → AreVerdicts disk image e v → Shows old new v status → EachEnds disk old new image e status
  judged v Done are shows = record { verdicts = v; are = are; same = shows.0; printed = shows.1 }
  judged v Refused are (inl shows) = inl (record { verdicts = v; are = are; same = shows.0; printed = shows.1 })
  judged v Refused are (inr lost) = inr (inl (record { verdicts = v; are = are; unprinted = lost }))
  judged v Usage are none = absurd none

  -- by a failure that was told
  pub unjudged : (failure : Failure) → ReadFails disk image failure → IsTold old new failure (is_noted (record { is_explained = e; is_each_line = true }) failure)
      → EachEnds disk old new image e Refused
  unjudged failure fails told = inr (inr (record { failure = failure; fails = fails; told = told }))

module _ (disk : Option Disk) (old new : Stream) (asked : FilesAsked) where
  -- by reports of files that were printed
  pub reported : (r : FileReports) (status : ExitStatus) → AreReports disk asked r → ShowsReports old new r status → FilesEnd disk old new asked status
  reported r Done are shows = record { reports = r; are = are; shown = shows }
  reported r Refused are shows = inl (record { reports = r; are = are; shown = shows })
  reported r Usage are none = absurd none

-- any note that is asked for is a text
pub noted : {Z : Type 0} (e : Bool) (note : String Z) → e ≡ true → IsNote e (string_bytes note)
noted e note asked = subst (λ (b : Bool). IsNote b (string_bytes note)) (sym asked) (IsUtf8-string_bytes note)

-- no note is one
pub unnoted : (e : Bool) (note : List ℕ) → note ≡ [] → IsNote e note
unnoted true note none = subst IsUtf8 (sym none) IsUtf8-nil
unnoted false note none = none
