-- The text that is printed of a cluster file, and why nothing was done.
use Rattle.std.specs.Prelude.{◌≡◌, ◌⊎◌, ◌++◌, ℕ, List, [], Option, Some, None, Ok, Err, Result, Bool, true, false, map}
use Rattle.std.specs.Prelude.{if◌then◌else◌}
use Rattle.std.specs.Io.KnownBytes.{Appends}
use Rattle.program_files.specs.Assembly.{TextFails}
use Rattle.program_files.specs.Files.{Disk, Holds}
use Rattle.program_files.specs.Output.{Begins}
use Rattle.program_files.specs.declared.failure.Failure.{Failure}
use Rattle.pg_log.specs.Log.{Classes}
use Rattle.cluster_file.specs.Plan.{FilePlan, plan_of}
use Rattle.cluster_file.specs.Text.{all_lines, bad_line, refused_line}
use Rattle.cluster_advice.specs.Why.{IsWhy}
use Rattle.tenant_classes.specs.Classes.{AreClasses, ClassesFail, names_of}
use Rattle.osd.specs.declared.config.Config.{Config}
use Rattle.rados_client.specs.Refusals.{config_error_text}
use Rattle.rados_client.specs.Session.{PlacedReply}
use Rattle.rados_client.specs.declared.config_error.ConfigError.TheVariants as config_error
use Rattle.rados_client.specs.declared.exec_error.ExecError.{ExecError}
use Rattle.map_book.specs.declared.map_error.MapError.{MapError}
use Rattle.map_book.specs.Refusal.{map_error_text}
use Rattle.cluster_tool.specs.Answers.{any_refused, shown}
use Rattle.cluster_tool.specs.Config.{config_of}
use Rattle.cluster_tool.specs.Played.{AreDone, IsMapRefused}
use Rattle.cluster_tool.specs.declared.asked.Clustering.{Clustering}
use Rattle.cluster_tool.specs.declared.tool.ClusteringEnd.{ClusteringEnd}
use Rattle.cluster_tool.specs.declared.tool.ClusteringEnd.TheVariants.{Done, SomeRefused, Bad, Refused, NoMemory}
use Rattle.cluster_tool.specs.declared.tool.ClusteringEnd.TheVariants.{Unprinted}

-- the note on a line of a file, if it is asked for; that its reason is right is tested
abbrev pub IsNoteOn : Bool → List ℕ → ℕ → List ℕ → Type 0
IsNoteOn false file line note = note ≡ []
IsNoteOn true file line note = IsWhy file line note

-- What says that a line is malformed or refused, and the note on it, if it is asked for.
pub record Says (c : Clustering) (line : ℕ) (said printed : List ℕ) : Type 0 where
  pub note : List ℕ
  pub noted : IsNoteOn c.is_explained c.file.now line note
  pub text : printed ≡ said ++ note

-- A number of its first line is outside its limits.
pub record IsLimit (c : Clustering) (plan : FilePlan) (printed : List ℕ) : Type 0 where
  pub none : config_of plan.numbers ≡ None
  pub text : Says c 1 (refused_line 1 (config_error_text config_error.Limit)) printed

-- The numbers of its first line are within their limits: a cluster may have them.
pub record IsWithin (plan : FilePlan) (P : Config → Type 0) : Type 0 where
  pub config : Config
  pub is : config_of plan.numbers ≡ Some config
  pub comes : P config

-- the number of groups, if the lines of calls show the requests
abbrev pub groups_if : Bool → Config → Option ℕ
groups_if is_shown config = if is_shown then Some config.groups else None

-- the end of a file whose calls were made, by whether one was refused
abbrev pub end_by : Bool → ClusteringEnd
end_by false = Done
end_by true = SomeRefused

-- Each call and each map was made: the lines of the calls' ends are printed, and the ends are true;
-- and whether a call was refused.
pub record IsMade (c : Clustering) (classes : Classes) (plan : FilePlan) (printed : List ℕ) (refused : Bool)
    (config : Config) : Type 0 where
  pub all : List (List (Result PlacedReply ExecError))
  pub done : AreDone classes config plan.steps all
  pub lines : printed ≡ all_lines (groups_if c.is_shown config) plan.steps 1 (map (map shown) all)
  pub some : any_refused all ≡ refused

-- A map of the file was refused.
pub record IsMapLine (c : Clustering) (plan : FilePlan) (printed : List ℕ) (config : Config) : Type 0 where
  pub line : ℕ
  pub why : MapError
  pub refused : IsMapRefused config plan.steps line why
  pub text : Says c line (refused_line line (map_error_text why)) printed

-- Memory for the cluster was refused.
abbrev pub IsNoRoom : Clustering → List ℕ → Type 0
IsNoRoom c printed = Says c 1 (refused_line 1 (config_error_text config_error.NoMemory)) printed

-- THE CLUSTER OR A MAP IS REFUSED: a number of the first line is outside its limits; or all are
-- within, and memory for the cluster was refused, or a map was.
abbrev pub IsRefused : Clustering → FilePlan → List ℕ → Type 0
IsRefused c plan printed =
    IsLimit c plan printed ⊎ IsWithin plan (λ config. IsNoRoom c printed ⊎ IsMapLine c plan printed config)

-- THE PRINTOUT OF A FILE'S TEXT, if memory suffices: the printout of its plan; or, if a line is
-- malformed, the line that names the first such line, and nothing is done.
abbrev pub IsPrintoutOf : Clustering → Classes → Result FilePlan ℕ → List ℕ → ClusteringEnd → Type 0
IsPrintoutOf c classes (Ok plan) printed Done =
    IsWithin plan (λ config. IsMade c classes plan printed false config)
IsPrintoutOf c classes (Ok plan) printed SomeRefused =
    IsWithin plan (λ config. IsMade c classes plan printed true config)
IsPrintoutOf c classes (Ok plan) printed Bad = ⊥
IsPrintoutOf c classes (Ok plan) printed Refused = IsRefused c plan printed
IsPrintoutOf c classes (Ok plan) printed NoMemory = ⊥
IsPrintoutOf c classes (Ok plan) printed Unprinted = ⊥
IsPrintoutOf c classes (Err line) printed Done = ⊥
IsPrintoutOf c classes (Err line) printed SomeRefused = ⊥
IsPrintoutOf c classes (Err line) printed Bad = Says c line (bad_line line) printed
IsPrintoutOf c classes (Err line) printed Refused = ⊥
IsPrintoutOf c classes (Err line) printed NoMemory = ⊥
IsPrintoutOf c classes (Err line) printed Unprinted = ⊥

-- all of the printout was printed, and no write or flush failed
pub record IsShown (c : Clustering) (classes : Classes) (names : List (List ℕ)) (text : List ℕ)
    (old new : Option (List ℕ)) (failed fails : Bool) (ending : ClusteringEnd) : Type 0 where
  pub printed : List ℕ
  pub comes : IsPrintoutOf c classes (plan_of names text) printed ending
  pub grew : Appends old new printed
  pub well : fails ≡ failed

-- a beginning of the printout was printed, and a write or a flush failed
pub record IsBegun (c : Clustering) (classes : Classes) (names : List (List ℕ)) (text : List ℕ)
    (old new : Option (List ℕ)) (fails : Bool) : Type 0 where
  pub printed : List ℕ
  pub ending : ClusteringEnd
  pub comes : IsPrintoutOf c classes (plan_of names text) printed ending
  pub begun : Begins old new printed
  pub failed : fails ≡ true

-- a text was printed, and the end is the given one; or a beginning of the text was printed, and a
-- write or a flush failed
abbrev pub Prints : List ℕ → ClusteringEnd → Option (List ℕ) → Option (List ℕ) → Bool → Bool → ClusteringEnd → Type 0
Prints printed ending old new failed fails result =
    ((result ≡ ending) × Appends old new printed × (fails ≡ failed)) ⊎
    ((result ≡ Unprinted) × Begins old new printed × (fails ≡ true))

-- the end of a file: its printout was printed; or memory was refused, and nothing was printed; or a
-- write or a flush failed, and a beginning of the printout was printed
abbrev pub EndsSo : Clustering → Classes → List (List ℕ) → List ℕ → Option (List ℕ) → Option (List ℕ) → Bool → Bool →
    ClusteringEnd → Type 0
EndsSo c classes names text old new failed fails Done =
    IsShown c classes names text old new failed fails Done
EndsSo c classes names text old new failed fails SomeRefused =
    IsShown c classes names text old new failed fails SomeRefused
EndsSo c classes names text old new failed fails Bad =
    IsShown c classes names text old new failed fails Bad
EndsSo c classes names text old new failed fails Refused =
    IsShown c classes names text old new failed fails Refused
EndsSo c classes names text old new failed fails NoMemory = (new ≡ old) × (fails ≡ failed)
EndsSo c classes names text old new failed fails Unprinted = IsBegun c classes names text old new fails

-- A CLUSTER FILE IS PLAYED: the text that the file holds, with the built-in classes and those of
-- the tenants' files.
pub record Clusters (disk : Option Disk) (c : Clustering) (old new : Option (List ℕ)) (failed fails : Bool)
    (ending : ClusteringEnd) : Type 0 where
  pub classes : Classes
  pub loaded : AreClasses disk c.tenants.items classes
  pub text : List ℕ
  pub held : Holds disk c.file.now text
  pub ends : EndsSo c classes (names_of c.tenants.items) text old new failed fails ending

-- the classes were loaded, and the file can't be read or is no text; or memory was refused
pub record FileFails (disk : Option Disk) (c : Clustering) (failure : Failure) : Type 0 where
  pub classes : Classes
  pub loaded : AreClasses disk c.tenants.items classes
  pub why : TextFails disk c.file.now failure

-- Why nothing was done, in the order of the checks: because of the classes, or of the file.
abbrev pub ClusteringFails : Option Disk → Clustering → Failure → Type 0
ClusteringFails disk c failure = ClassesFail disk c.tenants.items failure ⊎ FileFails disk c failure
