-- Why a call failed.
use Rattle.std.specs.Prelude.{◌≡◌, ◌⊎◌, ℕ, List, Option, Ok, IsErr}
use Rattle.hex.specs.Hex.{decode_of}
use Rattle.bpf_decode.specs.Class.{ClassMethod}
use Rattle.object_store.specs.Object.{PlainObject}
use Rattle.program_files.specs.Files.{Disk, Storage}
use Rattle.class_tool.specs.Begun.{BeginFails, Begins}
use Rattle.program_files.specs.Image.{IsSafeIn, LoadFails}
use Rattle.class_tool.specs.Log.{LogFails}
use Rattle.class_tool.specs.RunReport.{Reports}
use Rattle.object_texts.specs.Saved.{SaveFails, Saves}
use Rattle.object_texts.specs.declared.method_call.MethodCall.{MethodCall}
use Rattle.program_files.specs.declared.failure.Failure.{Failure}
use Rattle.class_tool.specs.declared.run_report.RunReport.{RunReport}
use Rattle.program_files.specs.declared.failure.Failure.TheVariants.{InputNotHex, NoMemory}

-- the class was loaded, and the input is not in hexadecimal; or memory was refused
pub record InputFails (disk : Option Disk) (call : MethodCall) (failure : Failure) : Type 0 where
  pub class : List ClassMethod
  pub loaded : IsSafeIn disk call.image.now class
  pub why : (failure ≡ NoMemory) ⊎ ((failure ≡ InputNotHex) × IsErr (decode_of call.input.now))

-- the class was loaded and the input was read, and there is no such object
pub record ObjectFails (disk : Option Disk) (call : MethodCall) (failure : Failure) : Type 0 where
  pub class : List ClassMethod
  pub loaded : IsSafeIn disk call.image.now class
  pub input : List ℕ
  pub read : decode_of call.input.now ≡ Ok input
  pub why : BeginFails disk call failure

-- class, input and object were read, and the call or memory for it was refused
pub record CallFails (disk : Option Disk) (call : MethodCall) (failure : Failure) : Type 0 where
  pub class : List ClassMethod
  pub loaded : IsSafeIn disk call.image.now class
  pub input : List ℕ
  pub read : decode_of call.input.now ≡ Ok input
  pub object : PlainObject
  pub begun : Begins disk call object
  pub why : LogFails class call.method.now input failure

-- Why a call failed, in the order of the checks: because of its class, its input, its object or the
-- call itself.
abbrev pub RunFails : Option Disk → MethodCall → Failure → Type 0
RunFails disk call failure = LoadFails disk call.image.now failure ⊎ InputFails disk call failure ⊎
    ObjectFails disk call failure ⊎ CallFails disk call failure

-- the call was made, and its object is not saved
pub record IsUnsaved (before after : Storage) (call : MethodCall) (failure : Failure) : Type 0 where
  pub report : RunReport
  pub made : Reports before.disk call report
  pub unsaved : SaveFails before after call.save report.after failure

-- Why a call failed, or why its object is not saved. Before the write every file is as it was.
abbrev pub SavedRunFails : Storage → Storage → MethodCall → Failure → Type 0
SavedRunFails before after call failure =
    ((after ≡ before) × RunFails before.disk call failure) ⊎ IsUnsaved before after call failure

-- The call was made, and its object is saved if a file is named for it.
abbrev pub SavedReports : Storage → Storage → MethodCall → RunReport → Type 0
SavedReports before after call report = Reports before.disk call report × Saves before after call.save report.after
