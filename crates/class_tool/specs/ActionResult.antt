-- The result of an action, and the text that it prints.
use Rattle.std.specs.Prelude.{◌≡◌, ℕ, List, [], ◌++◌, codes, length, string_bytes}
use Rattle.std.specs.List.{flat_map}
use Rattle.std.specs.Fmt.{decimal}
use Rattle.bpf_decode.specs.Class.{ClassMethod}
use Rattle.class_tool.specs.declared.action.Action.{Action}
use Rattle.class_tool.specs.declared.action.Action.TheVariants.{Verify, Run, RunLarge, Assemble, Pack, Disassemble}
use Rattle.class_tool.specs.declared.action_result.ActionResult.{ActionResult}
use Rattle.class_tool.specs.declared.action_result.ActionResult.TheVariants.{Accepted, Ran, Assembled, Disassembled}
use Rattle.program_files.specs.declared.failure.Failure.{Failure}
use Rattle.program_files.specs.Assembly.{AssembleFails, Assembles, IsTextOf}
use Rattle.program_files.specs.Files.{Storage}
use Rattle.program_files.specs.Image.{IsSafeIn, LoadFails, ReadFails}
use Rattle.class_tool.specs.Packing.{PackFails, Packs}
use Rattle.class_tool.specs.LargeRun.{LargeReports, LargeRunFails}
use Rattle.class_tool.specs.RunReport.{report_text}
use Rattle.class_tool.specs.Run.{SavedReports, SavedRunFails}

-- `f ok 2`: a method's name, and how many instructions it has
abbrev pub method_line : ClassMethod → List ℕ
method_line method = method.name ++ codes " ok " ++ decimal (length method.instructions) ++ codes "\n"

-- the lines of a result
abbrev pub result_text : ActionResult → List ℕ
result_text (Accepted class) = flat_map method_line class
result_text (Ran report) = report_text report
result_text Assembled = []
result_text (Disassembled text) = string_bytes text

-- The result is right for that action, by the files as they were. No file was written but the one
-- that is named for the image of a text or of raw code, or for a call's object.
abbrev pub Settles : Storage → Storage → Action → ActionResult → Type 0
Settles before after (Verify image) (Accepted class) = (after ≡ before) × IsSafeIn before.disk image.now class
Settles before after (Run call) (Ran report) = SavedReports before after call report
Settles before after (RunLarge call) (Ran report) = LargeReports before after call report
Settles before after (Assemble text image) Assembled = Assembles before after text.now image.now
Settles before after (Pack asked) Assembled = Packs before after asked
Settles before after (Disassemble image has_slots) (Disassembled text) =
    (after ≡ before) × IsTextOf has_slots before.disk image.now (string_bytes text)
Settles before after action answer = ⊥

-- Why an action has no result.
abbrev pub Fails : Storage → Storage → Action → Failure → Type 0
Fails before after (Verify image) failure = (after ≡ before) × LoadFails before.disk image.now failure
Fails before after (Run call) failure = SavedRunFails before after call failure
Fails before after (RunLarge call) failure = LargeRunFails before after call failure
Fails before after (Assemble text image) failure = AssembleFails before after text.now image.now failure
Fails before after (Pack asked) failure = PackFails before after asked failure
Fails before after (Disassemble image has_slots) failure = (after ≡ before) × ReadFails before.disk image.now failure
