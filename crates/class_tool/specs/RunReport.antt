-- The text of a call's report.
use Rattle.std.specs.Prelude.{◌≡◌, ⊤, ℕ, Bool, true, false, List, [], ◌++◌, Option, Some, None, Ok, option_map}
use Rattle.std.specs.Prelude.{codes, length, string_bytes}
use Rattle.std.specs.FinMap as fin
use Rattle.std.specs.Fmt.{decimal, signed_decimal}
use Rattle.hex.specs.Hex.{decode_of, encode_lower}
use Rattle.bpf_decode.specs.Class.{ClassMethod}
use Rattle.object_store.specs.Object.{Content, PlainObject}
use Rattle.class_trace.specs.Trace.{IsTraceOf, records, trace_text}
use Rattle.class_trace.specs.declared.steps.TraceLine.{TraceLine}
use Rattle.interp.specs.Plain.{Answers}
use Rattle.interp.specs.declared.outcome.Outcome.{Outcome}
use Rattle.pg_log.specs.Requests.{ClientRequest}
use Rattle.program_files.specs.Files.{Disk}
use Rattle.class_tool.specs.Begun.{Begins}
use Rattle.program_files.specs.Image.{IsSafeIn}
use Rattle.class_tool.specs.Log.{IsLogged, first_request}
use Rattle.object_texts.specs.Shown.{or_dash, shown_text}
use Rattle.object_texts.specs.declared.method_call.MethodCall.{MethodCall}
use Rattle.class_tool.specs.declared.log.Logged.{Logged}
use Rattle.class_tool.specs.declared.run_report.Holdings.{Holdings}
use Rattle.class_tool.specs.declared.run_report.RunReport.{RunReport}

-- the sizes of what an object holds
abbrev pub holdings_of : Content → Holdings
holdings_of object = record { bytes = length object.bytes; xattrs = fin.len object.xattrs; keys = fin.len object.omap }

-- the line that prints its bytes of data, its xattrs and the keys of its omap
abbrev pub object_line : Option Holdings → List ℕ
object_line None = codes "object absent\n"
object_line (Some h) =
    codes "object " ++ decimal h.bytes ++ codes " " ++ decimal h.xattrs ++ codes " " ++ decimal h.keys ++ codes "\n"

-- the four lines, and then the lines that show the object
abbrev pub report_lines : RunReport → List ℕ
report_lines report =
    codes "code " ++ signed_decimal report.code ++ codes "\noutput " ++ or_dash (string_bytes report.output) ++
    codes "\nsteps " ++ decimal report.steps ++ codes "\n"
    ++ object_line report.object ++ string_bytes report.shown

-- after the lines of the instructions
abbrev pub report_text : RunReport → List ℕ
report_text report = string_bytes report.traced ++ report_lines report

-- Code and output are those of the answer; steps and object are those of the call.
pub record IsReportOf (is_shown : Bool) (logged : Logged) (outcome : Outcome) (report : RunReport) : Type 0 where
  pub code : report.code ≡ logged.code
  pub output : string_bytes report.output ≡ encode_lower logged.output.items
  pub steps : report.steps ≡ outcome.steps
  pub object : report.object ≡ option_map holdings_of outcome.change.after
  pub shown : string_bytes report.shown ≡ shown_text is_shown outcome.change.after
  pub after : report.after ≡ outcome.change.after

-- the answer has the code and the output of the call's outcome
abbrev pub IsOneOutcome : Outcome → Logged → Type 0
IsOneOutcome outcome logged = (logged.code ≡ outcome.code) × (logged.output.items ≡ outcome.output.items)

-- Nothing, or if they are asked for the lines of what is seen of a call's run: of each step from the
-- entry to the exit, in order.
abbrev pub IsTraceText : Bool → ClassMethod → PlainObject → ℕ → List ℕ → List ℕ → Type 0
IsTraceText false m object caller input text = text ≡ []
IsTraceText true m object caller input text =
    (lines : List TraceLine) × IsTraceOf m object caller input (records lines) × (text ≡ trace_text lines)

-- On no object, the answer is the reply of a group that has this call as its only request. A group
-- can't be given an object.
abbrev pub IsReplied : PlainObject → List ClassMethod → ClientRequest → Logged → Type 0
IsReplied None class r logged = IsLogged class r logged
IsReplied (Some object) class r logged = ⊤

-- A report tells what the method's bytes do on the flat machine, in every layout, on the object
-- that words or a file spell. If there is no object, it also tells what a group replies that has
-- this call as its only request, which is the same outcome. The class is safe, and the file holds
-- its image or its text.
pub record Reports (disk : Option Disk) (call : MethodCall) (report : RunReport) : Type 0 where
  pub class : List ClassMethod
  pub input : List ℕ
  pub object : PlainObject
  pub outcome : Outcome
  pub logged : Logged
  pub loaded : IsSafeIn disk call.image.now class
  pub read : decode_of call.input.now ≡ Ok input
  pub begun : Begins disk call object
  pub ran : Answers class call.method.now object call.caller input outcome
  pub replied : IsReplied object class (first_request call.caller call.method.now input) logged
  pub one : IsOneOutcome outcome logged
  pub said : IsReportOf call.is_shown logged outcome report
  pub traced : IsTraceText call.is_traced ran.method object call.caller input (string_bytes report.traced)
