-- The objects of JSON that tell a verdict, or the result of a call.
use Rattle.std.specs.Prelude.{◌==◌, ℕ, Bool, true, false, List, ◌++◌, Option, Some, None, codes, length}
use Rattle.std.specs.Prelude.{string_bytes}
use Rattle.std.specs.List.{after_first, flat_map}
use Rattle.bpf_decode.specs.Class.{ClassMethod}
use Rattle.serde_json.specs.Data.{Data, boolean, member, no_members, null, number, object, string, unsigned}
use Rattle.serde_json.specs.Find.{of_integer}
use Rattle.serde_json.specs.Written.{compact_text}
use Rattle.verifier.specs.RuleNumber.{rule_number, rule_text}
use Rattle.verifier.specs.declared.refusal.Refusal.{Refusal}
use Rattle.verifier.specs.declared.rule.Rule.{Rule}
use Rattle.class_tool.specs.ActionResult.{result_text}
use Rattle.program_files.specs.Failure.{failure_text}
use Rattle.class_tool.specs.declared.action_result.ActionResult.{ActionResult}
use Rattle.class_tool.specs.declared.action_result.ActionResult.TheVariants.{Accepted, Ran, Assembled, Disassembled}
use Rattle.program_files.specs.declared.failure.Failure.{Failure}
use Rattle.program_files.specs.declared.failure.Failure.TheVariants as failed
use Rattle.class_tool.specs.declared.run_report.Holdings.{Holdings}
use Rattle.class_tool.specs.declared.run_report.RunReport.{RunReport}

-- a value's JSON, in a line
abbrev pub json_line : Data → List ℕ
json_line d = compact_text d ++ codes "\n"

-- a method that no rule refuses, of a file
abbrev pub accepted_data : List ℕ → List ℕ → ℕ → Data
accepted_data file method count =
    object (member (codes "file") (string file) (member (codes "instructions") (number (unsigned count))
    (member (codes "method") (string method) (member (codes "ok") (boolean true) no_members))))

-- the lines of a safe class's methods
abbrev pub accepted_lines : List ℕ → List ClassMethod → List ℕ
accepted_lines file class = flat_map (λ m. json_line (accepted_data file m.name (length m.instructions))) class

-- a blank
abbrev pub is_blank : ℕ → Bool
is_blank b = b == 32

-- the name of a rule: what follows its number
abbrev pub rule_name : Rule → List ℕ
rule_name rule = after_first is_blank (rule_text rule)

-- a refused method
abbrev pub unsafe_data : List ℕ → Refusal → Data
unsafe_data file r =
    object (member (codes "file") (string file) (member (codes "method") (number (unsigned r.method))
    (member (codes "name") (string (rule_name r.rule)) (member (codes "ok") (boolean false)
    (member (codes "rule") (number (unsigned (rule_number r.rule))) (member (codes "slot") (number (unsigned r.slot))
    no_members))))))

-- a file of which no class was read
abbrev pub file_error_data : List ℕ → Failure → Data
file_error_data file failure =
    object (member (codes "error") (string (failure_text failure)) (member (codes "file") (string file) no_members))

-- a file that has no safe class
abbrev pub refused_data : List ℕ → Failure → Data
refused_data file (failed.Verdict refusal) = unsafe_data file refusal
refused_data file failure = file_error_data file failure

-- a call that failed
abbrev pub error_data : Failure → Data
error_data failure = object (member (codes "error") (string (failure_text failure)) no_members)

-- the sizes of an object's parts
abbrev pub object_data : Option Holdings → Data
object_data None = null
object_data (Some h) =
    object (member (codes "bytes") (number (unsigned h.bytes)) (member (codes "keys") (number (unsigned h.keys))
    (member (codes "xattrs") (number (unsigned h.xattrs)) no_members)))

-- a call's report: code and output, the sizes of the object, the steps, and the lines that show the
-- object and the instructions, if they are asked for
abbrev pub run_data : RunReport → Data
run_data r =
    object (member (codes "code") (number (of_integer r.code)) (member (codes "object") (object_data r.object)
    (member (codes "output") (string (string_bytes r.output)) (member (codes "shown") (string (string_bytes r.shown))
    (member (codes "steps") (number (unsigned r.steps)) (member (codes "trace") (string (string_bytes r.traced))
    no_members))))))

-- the result of an action
abbrev pub answer_line : ActionResult → List ℕ
answer_line (Ran report) = json_line (run_data report)
answer_line (Accepted class) = result_text (Accepted class)
answer_line Assembled = result_text Assembled
answer_line (Disassembled text) = result_text (Disassembled text)
