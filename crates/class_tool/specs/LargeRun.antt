-- A call on an object by an OSD's limits, and why it failed.
use Rattle.std.specs.Prelude.{◌≡◌, ◌⊎◌, ℕ, Bool, List, [], Option, Ok, option_map, string_bytes}
use Rattle.bpf_decode.specs.Class.{ClassMethod}
use Rattle.hex.specs.Hex.{decode_of, encode_lower}
use Rattle.large_objects.specs.Calls.{AnswersLarge}
use Rattle.large_objects.specs.declared.call.LargeAnswer.{LargeAnswer}
use Rattle.object_store.specs.Object.{PlainObject}
use Rattle.program_files.specs.Files.{Disk, Storage}
use Rattle.program_files.specs.Image.{IsSafeIn, LoadFails}
use Rattle.object_texts.specs.LargeGiven.{LargeBeginFails, LargeBegins, LargeSaveFails, LargeSaves}
use Rattle.class_tool.specs.Log.{LogFails}
use Rattle.class_tool.specs.Run.{InputFails}
use Rattle.class_tool.specs.RunReport.{holdings_of}
use Rattle.object_texts.specs.Shown.{shown_text}
use Rattle.object_texts.specs.declared.method_call.MethodCall.{MethodCall}
use Rattle.program_files.specs.declared.failure.Failure.{Failure}
use Rattle.program_files.specs.declared.failure.Failure.TheVariants.{CallFull}
use Rattle.class_tool.specs.declared.run_report.RunReport.{RunReport}

-- Code, output, steps and object are those of the call; no instruction is traced.
pub record IsLargeReport (is_shown : Bool) (a : LargeAnswer) (report : RunReport) : Type 0 where
  pub untraced : string_bytes report.traced ≡ []
  pub code : report.code ≡ a.answer.code
  pub output : string_bytes report.output ≡ encode_lower a.answer.output.items
  pub steps : report.steps ≡ a.answer.steps
  pub object : report.object ≡ option_map holdings_of a.after
  pub shown : string_bytes report.shown ≡ shown_text is_shown a.after

-- A call tells what the method's bytes do on the flat machine by an OSD's limits, in every layout, on the object that
-- words or a file spell. The class is safe, and the file holds its image or its text.
pub record LargeCalls (disk : Option Disk) (call : MethodCall) (a : LargeAnswer) : Type 0 where
  pub class : List ClassMethod
  pub input : List ℕ
  pub object : PlainObject
  pub loaded : IsSafeIn disk call.image.now class
  pub read : decode_of call.input.now ≡ Ok input
  pub begun : LargeBegins call.load disk call object
  pub ran : AnswersLarge class call.method.now object call.caller input a

-- the class was loaded and the input was read, and there is no such object
pub record LargeObjectFails (disk : Option Disk) (call : MethodCall) (failure : Failure) : Type 0 where
  pub class : List ClassMethod
  pub loaded : IsSafeIn disk call.image.now class
  pub input : List ℕ
  pub read : decode_of call.input.now ≡ Ok input
  pub why : LargeBeginFails disk call failure

-- a call fails as any other, or since it looks at more than it can be handed in
abbrev pub LargeRefused : List ClassMethod → List ℕ → List ℕ → Failure → Type 0
LargeRefused class method input failure = (failure ≡ CallFull) ⊎ LogFails class method input failure

-- class, input and object were read, and the call or memory for it was refused
pub record LargeCallFails (disk : Option Disk) (call : MethodCall) (failure : Failure) : Type 0 where
  pub class : List ClassMethod
  pub loaded : IsSafeIn disk call.image.now class
  pub input : List ℕ
  pub read : decode_of call.input.now ≡ Ok input
  pub object : PlainObject
  pub begun : LargeBegins call.load disk call object
  pub why : LargeRefused class call.method.now input failure

abbrev pub LargeFails : Option Disk → MethodCall → Failure → Type 0
LargeFails disk call failure = LoadFails disk call.image.now failure ⊎ InputFails disk call failure ⊎
    LargeObjectFails disk call failure ⊎ LargeCallFails disk call failure

-- The call was made and is reported, and its object is saved if a file is named for it.
pub record LargeReports (before after : Storage) (call : MethodCall) (report : RunReport) : Type 0 where
  pub answer : LargeAnswer
  pub calls : LargeCalls before.disk call answer
  pub said : IsLargeReport call.is_shown answer report
  pub saves : LargeSaves before after call.save answer.after

-- the call was made, and its object is not saved
pub record IsLargeUnsaved (before after : Storage) (call : MethodCall) (failure : Failure) : Type 0 where
  pub answer : LargeAnswer
  pub calls : LargeCalls before.disk call answer
  pub unsaved : LargeSaveFails before after call.save answer.after failure

-- Why a call failed, or why its object is not saved. Before the write every file is as it was.
abbrev pub LargeRunFails : Storage → Storage → MethodCall → Failure → Type 0
LargeRunFails before after call failure =
    ((after ≡ before) × LargeFails before.disk call failure) ⊎ IsLargeUnsaved before after call failure
