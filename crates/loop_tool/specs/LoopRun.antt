-- A call of a method of a class whose methods may loop, and why it failed.
use Rattle.std.specs.Prelude.{◌≡◌, ◌⊎◌, ◌↔◌, ℕ, Bool, List, [], Option, None, Ok, IsErr, string_bytes}
use Rattle.hex.specs.Hex.{decode_of}
use Rattle.bpf_decode.specs.Class.{ClassMethod}
use Rattle.object_store.specs.Object.{PlainObject}
use Rattle.verifier.specs.Verified.{method_named}
use Rattle.interp.specs.Plain.{InputPasses}
use Rattle.interp.specs.declared.calls.CallError.{CallError}
use Rattle.interp.specs.declared.calls.CallError.TheVariants.{NoMethod, InputTooLong}
use Rattle.interp.specs.declared.outcome.Outcome.{Outcome}
use Rattle.loop_objects.specs.Calls.{AnswersLoops}
use Rattle.program_files.specs.Files.{Disk, Storage}
use Rattle.program_files.specs.declared.failure.Failure.{Failure}
use Rattle.program_files.specs.declared.failure.Failure.TheVariants as failure
use Rattle.object_texts.specs.Saved.{SaveFails, Saves}
use Rattle.object_texts.specs.declared.method_call.MethodCall.{MethodCall}
use Rattle.class_tool.specs.Begun.{BeginFails, Begins}
use Rattle.class_tool.specs.RunReport.{IsOneOutcome, IsReportOf}
use Rattle.class_tool.specs.declared.log.Logged.{Logged}
use Rattle.class_tool.specs.declared.run_report.RunReport.{RunReport}
use Rattle.loop_tool.specs.Safe.{IsLoopSafeIn, LoopLoadFails}

-- A call's outcome is what the method's bytes do on the flat machine, in every layout, on the object that words or a
-- file spell: by its budget, if the method declares loops. The class is safe, and the file holds its image or its text.
pub record LoopCalls (disk : Option Disk) (call : MethodCall) (outcome : Outcome) : Type 0 where
  pub class : List ClassMethod
  pub input : List ℕ
  pub object : PlainObject
  pub loaded : IsLoopSafeIn disk call.image.now class
  pub read : decode_of call.input.now ≡ Ok input
  pub begun : Begins disk call object
  pub ran : AnswersLoops class call.method.now object call.caller input outcome

-- Code, output, steps and object are those of the call's own outcome, whether or not there was an object; no
-- instruction is traced.
pub record IsRunReport (is_shown : Bool) (outcome : Outcome) (report : RunReport) : Type 0 where
  pub logged : Logged
  pub one : IsOneOutcome outcome logged
  pub said : IsReportOf is_shown logged outcome report
  pub untraced : string_bytes report.traced ≡ []

-- the class was loaded, and the input is not in hexadecimal; or memory was refused
pub record LoopInputFails (disk : Option Disk) (call : MethodCall) (why : Failure) : Type 0 where
  pub class : List ClassMethod
  pub loaded : IsLoopSafeIn disk call.image.now class
  pub bad : (why ≡ failure.NoMemory) ⊎ ((why ≡ failure.InputNotHex) × IsErr (decode_of call.input.now))

-- the class was loaded and the input was read, and there is no such object
pub record LoopObjectFails (disk : Option Disk) (call : MethodCall) (why : Failure) : Type 0 where
  pub class : List ClassMethod
  pub loaded : IsLoopSafeIn disk call.image.now class
  pub input : List ℕ
  pub read : decode_of call.input.now ≡ Ok input
  pub bad : BeginFails disk call why

-- The refusal of a call: 1 exactly if no method has that name, 2 exactly if the input is longer than the method takes,
-- else 3.
pub record IsLoopCallRefusal (class : List ClassMethod) (method input : List ℕ) (error : CallError) : Type 0 where
  pub no_method : (error ≡ NoMethod) ↔ (method_named class method ≡ None)
  pub too_long : (error ≡ InputTooLong) ↔ InputPasses class method input

-- class, input and object were read, and the call was refused
pub record LoopCallFails (disk : Option Disk) (call : MethodCall) (why : Failure) : Type 0 where
  pub class : List ClassMethod
  pub loaded : IsLoopSafeIn disk call.image.now class
  pub input : List ℕ
  pub read : decode_of call.input.now ≡ Ok input
  pub object : PlainObject
  pub begun : Begins disk call object
  pub error : CallError
  pub said : why ≡ failure.Call error
  pub refused : IsLoopCallRefusal class call.method.now input error

-- Why a call failed, in the order of the checks: because of its class, its input, its object or the call itself. Want
-- of memory for the report is told as that for the class.
abbrev pub LoopFails : Option Disk → MethodCall → Failure → Type 0
LoopFails disk call why =
    LoopLoadFails disk call.image.now why ⊎ LoopInputFails disk call why ⊎ LoopObjectFails disk call why ⊎
    LoopCallFails disk call why

-- A CALL was made and is reported, and its object is saved if a file is named for it; every other file is as it was.
pub record LoopRuns (before after : Storage) (call : MethodCall) (report : RunReport) : Type 0 where
  pub outcome : Outcome
  pub calls : LoopCalls before.disk call outcome
  pub said : IsRunReport call.is_shown outcome report
  pub saves : Saves before after call.save report.after

-- the call was made and is reported, and its object is not saved
pub record IsLoopUnsaved (before after : Storage) (call : MethodCall) (why : Failure) : Type 0 where
  pub report : RunReport
  pub outcome : Outcome
  pub calls : LoopCalls before.disk call outcome
  pub said : IsRunReport call.is_shown outcome report
  pub unsaved : SaveFails before after call.save report.after why

-- Why a call failed, or why its object is not saved. Before the write every file is as it was.
abbrev pub LoopRunFails : Storage → Storage → MethodCall → Failure → Type 0
LoopRunFails before after call why =
    ((after ≡ before) × LoopFails before.disk call why) ⊎ IsLoopUnsaved before after call why
