-- Calls and lines, and how the lines of a file end.
use Rattle.std.specs.Prelude.{ℕ, suc, ◌-◌, List, [], ◌∷◌, Option, Some, None, length, nat_lt, ◌==◌, slice_get}
use Rattle.std.specs.Prelude.{slice_index, if◌then◌else◌, codes, option_and_then, option_map}
use Rattle.std.specs.Str.{bytes_eq}
use Rattle.bpf_decode.specs.Class.{ClassMethod}
use Rattle.bpf_machine.specs.State.{Outcome}
use Rattle.file_words.specs.Words.{ended_lines_of, words}
use Rattle.verifier.specs.Verified.{method_named}
use Rattle.class_tests.specs.Calls.{Calls}
use Rattle.class_tests.specs.Cases.{answer_said, as_line, is_line, judged, object_line, opening, set_line}
use Rattle.class_tests.specs.Spelled.{Text, value_in}
use Rattle.class_tests.specs.declared.case.Case.{Case}
use Rattle.class_tests.specs.declared.test_said.TestSaid.{TestSaid}
use Rattle.class_tests.specs.declared.test_said.TestSaid.TheVariants.{Answer, NoMethod, InputTooLong}
use Rattle.class_tests.specs.declared.step.TestPart.TheVariants.{Xattrs, Keys}
use Rattle.class_tests.specs.declared.step.Step.{Step}
use Rattle.class_tests.specs.declared.step.Step.TheVariants.{Next, Holds, Differs, Bad}
use Rattle.class_tests.specs.declared.tests.TestEnd.{TestEnd}
use Rattle.class_tests.specs.declared.tests.TestEnd.TheVariants.{AllHold, DiffersAt, BadAt}

-- THE ANSWER OF A CALL: the outcome of the method on the case's object, as `calls` gives it (`Calls` has the two that
-- there are), unless the class has no such method or the input is too long. After it the case has the object that the
-- call left.
abbrev pub answered : Case → Outcome → Case
answered case outcome = record case { object = outcome.object }

abbrev pub called : Calls → Option ClassMethod → Case → List ℕ → Option TestSaid → Step
called calls None case input said = judged case said NoMethod
called calls (Some method) case input said =
    if nat_lt method.in_cap (length input) then judged case said InputTooLong else
    (let outcome = calls method case.object case.caller input in judged (answered case outcome) said
    (Answer outcome.code outcome.output))

-- `call METHOD INPUT -> CODE [OUTPUT]`
abbrev pub call_with : Calls → List ClassMethod → Case → Text → Option (List ℕ) → Option TestSaid → Step
call_with calls class case method None said = Bad
call_with calls class case method (Some input) None = Bad
call_with calls class case method (Some input) (Some said) =
    called calls (method_named class method) case input (Some said)

abbrev pub call_line : Calls → List ClassMethod → Case → List Text → Step
call_line calls class case (method ∷ input ∷ arrow ∷ said) =
    if bytes_eq arrow (codes "->") then call_with calls class case method (value_in input) (answer_said said) else Bad
call_line calls class case _ = Bad

-- A LINE by its words, the first of which says its kind. Blank lines and those that begin with `#`
-- say nothing.
abbrev pub line_by : Calls → List ClassMethod → Case → Text → List Text → Step
line_by calls class case word args =
    if slice_index word 0 == 35 then Next case else
    if bytes_eq word (codes "object") then object_line args else
    if bytes_eq word (codes "xattr") then set_line Xattrs case args else
    if bytes_eq word (codes "key") then set_line Keys case args else
    if bytes_eq word (codes "as") then as_line case args else
    if bytes_eq word (codes "call") then call_line calls class case args else
    if bytes_eq word (codes "is") then is_line case args else Bad

abbrev pub step_by : Calls → List ClassMethod → Case → List Text → Step
step_by calls class case [] = Next case
step_by calls class case (word ∷ args) = line_by calls class case word args

abbrev pub step_of : Calls → List ClassMethod → Case → Text → Step
step_of calls class case line = step_by calls class case (words line)

-- HOW LINES END: at the first that is malformed, by its number, or that says what isn't so, by its
-- number and the case before it; else with the number of those that said something.
abbrev pub after_step : ℕ → ℕ → Case → (ℕ → Case → TestEnd) → Step → TestEnd
after_step number count before rest (Next case) = rest count case
after_step number count before rest (Holds case) = rest (suc count) case
after_step number count before rest (Differs said there) = DiffersAt number said there before
after_step number count before rest Bad = BadAt number

-- after `number` lines, of which `count` said something
abbrev pub end_after : Calls → List ClassMethod → ℕ → ℕ → Case → List Text → TestEnd
end_after calls class number count case [] = AllHold count
end_after calls class number count case (line ∷ lines) =
    after_step (suc number) count case (λ count case. end_after calls class (suc number) count case lines)
    (step_of calls class case line)

-- THE END OF A FILE OF TESTS.
abbrev pub end_of : Calls → List ClassMethod → Text → TestEnd
end_of calls class text = end_after calls class 0 0 opening (ended_lines_of text)

-- the method and the input of a call's words
abbrev pub call_in : List Text → Option (Text × List ℕ)
call_in (word ∷ method ∷ input ∷ more) =
    if bytes_eq word (codes "call") then option_map (λ bytes. (method, bytes)) (value_in input) else None
call_in _ = None

-- lines are numbered from 1
abbrev pub line_at : List Text → ℕ → Option Text
line_at lines number = if number == 0 then None else slice_get lines (number - 1)

-- THE CALL OF A LINE, by the line's number: its method and input.
abbrev pub call_at : Text → ℕ → Option (Text × List ℕ)
call_at text number = option_and_then (λ line. call_in (words line)) (line_at (ended_lines_of text) number)
