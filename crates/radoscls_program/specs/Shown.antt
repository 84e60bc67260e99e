-- A result, or why there is none, in lines or as an object of JSON.
use Rattle.std.specs.Prelude.{◌≡◌, ◌⊎◌, ℕ, Bool, true, false, List}
use Rattle.class_reports.specs.Json.{answer_line, error_data, json_line}
use Rattle.class_reports.specs.Notes.{is_noted}
use Rattle.class_tool.specs.ActionResult.{result_text}
use Rattle.class_tool.specs.declared.action_result.ActionResult.{ActionResult}
use Rattle.program_files.specs.declared.failure.Failure.{Failure}
use Rattle.program_files.specs.declared.failure.Failure.TheVariants.{NoMemory}
use Rattle.radoscls_program.specs.Streams.{IsPrinted, IsTold, Lost, Stream, Took, failure_line}
use Rattle.radoscls_program.specs.declared.status.ExitStatus.{ExitStatus}
use Rattle.radoscls_program.specs.declared.status.ExitStatus.TheVariants.{Done, Refused, Usage}
use Rattle.radoscls_program.specs.declared.task.Telling.{Telling}

-- the text of a result
abbrev pub answer_text : Bool → ActionResult → List ℕ
answer_text false answer = result_text answer
answer_text true answer = answer_line answer

-- a beginning of a result's text was printed, and a write or a flush failed; or memory for JSON was
-- refused, and a line says so
abbrev pub IsUnshown : Bool → Stream → Stream → ActionResult → Type 0
IsUnshown is_json old new answer =
    Lost old new (answer_text is_json answer) ⊎ ((is_json ≡ true) × IsPrinted old new (failure_line NoMemory))

-- a result's text was printed, or wasn't
abbrev pub ShowsAnswer : Bool → Stream → Stream → ActionResult → ExitStatus → Type 0
ShowsAnswer is_json old new answer Done = Took old new (answer_text is_json answer)
ShowsAnswer is_json old new answer Refused = IsUnshown is_json old new answer
ShowsAnswer is_json old new answer Usage = ⊥

-- an object that says why something was not done was printed; or memory for it was refused, and a
-- line says so
abbrev pub IsToldInJson : Stream → Stream → Failure → Type 0
IsToldInJson old new failure =
    IsPrinted old new (json_line (error_data failure)) ⊎ IsPrinted old new (failure_line NoMemory)

-- a failure is told in JSON, or by its line, and by a note below it, if one is asked for
abbrev pub IsToldBy : Bool → Stream → Stream → Failure → Telling → Type 0
IsToldBy true old new failure telling = IsToldInJson old new failure
IsToldBy false old new failure telling = IsTold old new failure (is_noted telling.notes failure)

abbrev pub IsToldAs : Stream → Stream → Failure → Telling → Type 0
IsToldAs old new failure telling = IsToldBy telling.is_json old new failure telling
