-- How the program ends, and the text and the files that it writes.
use Rattle.std.specs.Prelude.{◌≡◌, ◌⊎◌, Bool, true, false, List, Result, Ok, Err}
use Rattle.command_line.specs.Parsed.{Text}
use Rattle.class_tool.specs.ActionResult.{Settles, Fails}
use Rattle.class_tool.specs.declared.action.Action.{Action}
use Rattle.class_tool.specs.declared.action.Action.TheVariants.{Run, RunLarge}
use Rattle.class_tool.specs.declared.action_result.ActionResult.{ActionResult}
use Rattle.object_texts.specs.declared.method_call.MethodCall.{MethodCall}
use Rattle.program_files.specs.declared.failed.Failed.{Failed}
use Rattle.program_files.specs.declared.failure.Failure.{Failure}
use Rattle.program_files.specs.declared.failure.Failure.TheVariants.{NoMemory}
use Rattle.radoscls_program.specs.Asked.{AreFor, AreForNone}
use Rattle.radoscls_program.specs.Change.{Change, IsSilent, KeepsFiles}
use Rattle.radoscls_program.specs.Clustered.{ClusterEnds}
use Rattle.radoscls_program.specs.Judged.{EachEnds, FilesEnd}
use Rattle.radoscls_program.specs.Looped.{HeadsEnd, LoopRunEnds, LoopsEnd, PackHeadsEnd}
use Rattle.radoscls_program.specs.Playing.{SimEnds}
use Rattle.radoscls_program.specs.Shown.{IsToldAs, ShowsAnswer}
use Rattle.radoscls_program.specs.Streams.{Stream, IsPrinted, failure_line}
use Rattle.radoscls_program.specs.Tested.{TestEnds}
use Rattle.radoscls_program.specs.Values.{FillFails, IsFilled}
use Rattle.radoscls_program.specs.declared.status.ExitStatus.{ExitStatus}
use Rattle.radoscls_program.specs.declared.status.ExitStatus.TheVariants.{Done, Refused, Usage}
use Rattle.radoscls_program.specs.declared.task.GivenCall.{GivenCall}
use Rattle.radoscls_program.specs.declared.task.Task.{Task}
use Rattle.radoscls_program.specs.declared.task.Task.TheVariants as task
use Rattle.radoscls_program.specs.declared.task.Telling.{Telling}

-- an action has a result or fails; if it fails, each file is as it was, but one that is written in place
abbrev pub Found : Change → Action → Result ActionResult Failed → Type 0
Found change action (Ok answer) = Settles change.before change.after action answer
Found change action (Err failed) = Fails change.before change.after action failed.failure

-- A result was printed, in lines or with --json as an object, and the status is 0; or a beginning of
-- it was, and a write or a flush of standard output failed, or memory for its JSON was refused. Or a
-- failure was told: by its line, with --explain by a note below it, of a text with --all by each
-- further wrong line, with --json by an object.
abbrev pub Responds : Stream → Stream → Result ActionResult Failed → Telling → ExitStatus → Type 0
Responds old new (Ok answer) telling status = ShowsAnswer telling.is_json old new answer status
Responds old new (Err failed) telling Done = ⊥
Responds old new (Err failed) telling Refused = IsToldAs old new failed.failure telling
Responds old new (Err failed) telling Usage = ⊥

-- an action has a result or fails, and that is printed
pub record Acts (change : Change) (action : Action) (telling : Telling) (status : ExitStatus) : Type 0 where
  pub found : Result ActionResult Failed
  pub true_of : Found change action found
  pub responds : Responds change.old change.new found telling status

-- a call is made by an OSD's limits, or not
abbrev pub run_by : Bool → MethodCall → Action
run_by true call = RunLarge call
run_by false call = Run call

-- a call is made with its values in hexadecimal
pub record ActsOn (change : Change) (call : GivenCall) (telling : Telling) (status : ExitStatus) : Type 0 where
  pub filled : MethodCall
  pub values : IsFilled change.before.disk call filled
  pub acts : Acts change (run_by call.is_large filled) telling status

-- a call is made by loops, with its values in hexadecimal
pub record RunsByLoops (change : Change) (call : GivenCall) (telling : Telling) (status : ExitStatus) : Type 0 where
  pub filled : MethodCall
  pub values : IsFilled change.before.disk call filled
  pub ended : LoopRunEnds change filled telling status

-- A call's values could not be read, and that is told; no file changed.
pub record IsUnfilled (change : Change) (call : GivenCall) (telling : Telling) : Type 0 where
  pub failure : Failure
  pub fails : FillFails change.before.disk call failure
  pub told : IsToldAs change.old change.new failure telling
  pub left : KeepsFiles change

-- the end of a call: it is made, or it is told why not
abbrev pub CallEnds : Change → GivenCall → Telling → ExitStatus → Type 0
CallEnds change call telling status =
    ActsOn change call telling status ⊎ ((status ≡ Refused) × IsUnfilled change call telling)

-- the same of a call by loops
abbrev pub LoopCallEnds : Change → GivenCall → Telling → ExitStatus → Type 0
LoopCallEnds change call telling status =
    RunsByLoops change call telling status ⊎ ((status ≡ Refused) × IsUnfilled change call telling)

-- The end of a task, by its kind. Only an action, a call or the writing of heads may change a file.
abbrev pub TaskEnds : Change → Task → ExitStatus → Type 0
TaskEnds change (task.Class action telling) status = Acts change action telling status
TaskEnds change (task.Files asked) status =
    KeepsFiles change × FilesEnd change.before.disk change.old change.new asked status
TaskEnds change (task.Each image is_explained) status =
    KeepsFiles change × EachEnds change.before.disk change.old change.new image.now is_explained status
TaskEnds change (task.Loops asked) status =
    KeepsFiles change × LoopsEnd change.before.disk change.old change.new asked status
TaskEnds change (task.Heads asked) status = HeadsEnd change asked status
TaskEnds change (task.PackHeads asked) status = PackHeadsEnd change asked status
TaskEnds change (task.Run call telling) status = CallEnds change call telling status
TaskEnds change (task.RunLoops call telling) status = LoopCallEnds change call telling status
TaskEnds change (task.Test asked is_explained) status =
    KeepsFiles change × TestEnds change.before.disk change.old change.new asked is_explained status
TaskEnds change (task.Sim simulation) status =
    KeepsFiles change × SimEnds change.before.disk change.old change.new simulation status
TaskEnds change (task.Cluster asked) status =
    KeepsFiles change × ClusterEnds change.before.disk change.old change.new asked status

-- The words ask for a task, and that ended so.
pub record IsTaskEnd (change : Change) (words : List Text) (status : ExitStatus) : Type 0 where
  pub task : Task
  pub named : AreFor words task
  pub ended : TaskEnds change task status

-- Memory was refused before the words were known, nothing was done, and a line says so.
abbrev pub IsUnread : Change → Type 0
IsUnread change = KeepsFiles change × IsPrinted change.old change.new (failure_line NoMemory)

-- The words have a fault or ask for help; nothing was done or printed on standard output.
pub record IsUsage (change : Change) (words : List Text) : Type 0 where
  pub unasked : AreForNone words
  pub silent : IsSilent change

-- what each exit status says
abbrev pub Ends : Change → List Text → ExitStatus → Type 0
Ends change words Done = IsTaskEnd change words Done
Ends change words Refused = IsTaskEnd change words Refused ⊎ IsUnread change
Ends change words Usage = IsUsage change words

-- The words could not be read, and nothing was done: memory was refused, and a line says so; or one
-- of them is no text, and nothing was printed on standard output.
abbrev pub IsUnstarted : Change → ExitStatus → Type 0
IsUnstarted change Done = ⊥
IsUnstarted change Refused = IsUnread change
IsUnstarted change Usage = IsSilent change

-- the end of a process: as its words ask, in which folders may be spelled out, or without words
abbrev pub Starts : Change → ExitStatus → Type 0
Starts change status = ((words : List Text) × Ends change words status) ⊎ IsUnstarted change status
