-- The end of `test`, and the text that it printed.
use Rattle.std.specs.Prelude.{◌≡◌, ◌≤◌, ◌⊎◌, ◌++◌, ⊤, ℕ, Bool, true, false, List, [], Option, Some, None, length}
use Rattle.bpf_decode.specs.Class.{ClassMethod}
use Rattle.bpf_machine.specs.Safe.{call_outcome}
use Rattle.class_tests.specs.Calls.{Calls, loop_outcome}
use Rattle.class_tests.specs.Tests.{call_at, end_of}
use Rattle.class_tests.specs.Text.{IsEndText}
use Rattle.class_tests.specs.declared.case.Case.{Case}
use Rattle.class_tests.specs.declared.tests.TestEnd.{TestEnd}
use Rattle.class_tests.specs.declared.tests.TestEnd.TheVariants.{AllHold, DiffersAt, BadAt}
use Rattle.program_files.specs.Assembly.{TextFails}
use Rattle.program_files.specs.Files.{Disk, Holds}
use Rattle.program_files.specs.Image.{IsSafeIn, LoadFails}
use Rattle.class_tool.specs.RunReport.{IsTraceText}
use Rattle.program_files.specs.declared.failure.Failure.{Failure}
use Rattle.program_files.specs.declared.failure.Failure.TheVariants.{NoMemory}
use Rattle.verifier.specs.Verified.{method_named}
use Rattle.loop_tool.specs.Safe.{IsLoopSafeIn, LoopLoadFails}
use Rattle.radoscls_program.specs.Streams.{IsTold, Lost, Stream, Took}
use Rattle.radoscls_program.specs.declared.status.ExitStatus.{ExitStatus}
use Rattle.radoscls_program.specs.declared.status.ExitStatus.TheVariants.{Done, Refused, Usage}
use Rattle.radoscls_program.specs.declared.task.Testing.{Testing}

-- a call's trace, in the case before it; it isn't said what follows a line that makes none, or whose
-- call is refused
abbrev pub IsCallTrace : List ClassMethod → Case → Option (List ℕ × List ℕ) → List ℕ → Type 0
IsCallTrace class case None text = text ≡ []
IsCallTrace class case (Some call) text =
    (m : ClassMethod) → method_named class call.0 ≡ Some m → length call.1 ≤ m.in_cap →
    IsTraceText true m case.object case.caller call.1 text

-- the trace of the call at which tests ended, if it answers otherwise than its line says
abbrev pub IsTraceAt : List ClassMethod → List ℕ → TestEnd → List ℕ → Type 0
IsTraceAt class tests (AllHold count) text = text ≡ []
IsTraceAt class tests (DiffersAt number said there case) text = IsCallTrace class case (call_at tests number) text
IsTraceAt class tests (BadAt number) text = text ≡ []

-- the same, if it is asked for
abbrev pub IsTraceBelow : Bool → List ClassMethod → List ℕ → TestEnd → List ℕ → Type 0
IsTraceBelow false class tests end text = text ≡ []
IsTraceBelow true class tests end text = IsTraceAt class tests end text

-- the lines of an end, and below them the trace
pub record AreEndLines (is_traced : Bool) (class : List ClassMethod) (tests : List ℕ) (end : TestEnd)
    (lines : List ℕ) : Type 0 where
  pub above : List ℕ
  pub below : List ℕ
  pub says : IsEndText end above
  pub traced : IsTraceBelow is_traced class tests end below
  pub same : lines ≡ above ++ below

-- A file holds a class that is safe: each method to its exit, or with --loops to it or by its budget. What its calls
-- come to, and if one is traced: with --loops none is.
abbrev pub IsTestable : Bool → Option Disk → List ℕ → List ClassMethod → Type 0
IsTestable false disk name class = IsSafeIn disk name class
IsTestable true disk name class = IsLoopSafeIn disk name class

abbrev pub calls_by : Bool → Calls
calls_by false = call_outcome
calls_by true = loop_outcome

abbrev pub traces : Bool → Bool → Bool
traces false is_traced = is_traced
traces true is_traced = false

-- The tests in a file have that end on the class in another file, which is safe, and those lines.
pub record IsTested (disk : Option Disk) (asked : Testing) (end : TestEnd) (lines : List ℕ) : Type 0 where
  pub class : List ClassMethod
  pub loaded : IsTestable asked.is_looped disk asked.class.now class
  pub text : List ℕ
  pub held : Holds disk asked.file.now text
  pub same : end ≡ end_of (calls_by asked.is_looped) class text
  pub shown : AreEndLines (traces asked.is_looped asked.is_traced) class text end lines

-- why a file has no such class
abbrev pub IsUntestable : Bool → Option Disk → List ℕ → Failure → Type 0
IsUntestable false disk name failure = LoadFails disk name failure
IsUntestable true disk name failure = LoopLoadFails disk name failure

-- There is no end: no safe class was read, or no text of tests, or memory was refused.
abbrev pub TestingFails : Option Disk → Testing → Failure → Type 0
TestingFails disk asked failure =
    IsUntestable asked.is_looped disk asked.class.now failure ⊎ TextFails disk asked.file.now failure ⊎
    (failure ≡ NoMemory)

-- each line of the tests holds
abbrev pub Passes : TestEnd → Type 0
Passes (AllHold count) = ⊤
Passes (DiffersAt number said there case) = ⊥
Passes (BadAt number) = ⊥

-- a text was printed, and the status tells whether each line holds; or a beginning of it was
-- printed
abbrev pub EndIsShown : Stream → Stream → TestEnd → List ℕ → ExitStatus → Type 0
EndIsShown old new end text Done = Passes end × Took old new text
EndIsShown old new end text Refused = ((Passes end → ⊥) × Took old new text) ⊎ Lost old new text
EndIsShown old new end text Usage = ⊥

-- the tests came to an end, and that is shown
pub record IsShownEnd (disk : Option Disk) (old new : Stream) (asked : Testing) (status : ExitStatus) : Type 0 where
  pub end : TestEnd
  pub lines : List ℕ
  pub tested : IsTested disk asked end lines
  pub shown : EndIsShown old new end lines status

-- they came to none, and a line says why; with --explain a note follows
abbrev pub IsUntested : Option Disk → Stream → Stream → Testing → Bool → Type 0
IsUntested disk old new asked is_explained =
    (failure : Failure) × TestingFails disk asked failure × IsTold old new failure is_explained

-- The ends of `test`: each line holds, and a text that was printed says so; or a line is malformed
-- or says what isn't so, a write or a flush failed, or there were no tests.
abbrev pub TestEnds : Option Disk → Stream → Stream → Testing → Bool → ExitStatus → Type 0
TestEnds disk old new asked is_explained Done = IsShownEnd disk old new asked Done
TestEnds disk old new asked is_explained Refused =
    IsShownEnd disk old new asked Refused ⊎ IsUntested disk old new asked is_explained
TestEnds disk old new asked is_explained Usage = ⊥
