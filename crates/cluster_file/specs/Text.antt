-- The text that is printed of a cluster file.
use Rattle.std.specs.Prelude.{ℕ, suc, List, [], ◌∷◌, ◌++◌, Option, Some, None, codes}
use Rattle.std.specs.Fmt.{decimal, signed_decimal}
use Rattle.std.specs.Int.{w64, cast_signed}
use Rattle.hex.specs.Hex.{encode_lower}
use Rattle.placement.specs.Placement.{group_of}
use Rattle.escaped_text.specs.Escaped.{escaped}
use Rattle.cluster_file.specs.Plan.{calls_of}
use Rattle.cluster_file.specs.Planned.{PlannedCall}
use Rattle.cluster_file.specs.declared.planned_step.PlannedStep.{PlannedStep}

-- How a call ended: with a place, a code and an output; or refused, with the reason's text.
pub data CallEnd : Type 0 where
  Replied : ℕ → ℕ → List ℕ → CallEnd
  Refused : List ℕ → CallEnd

-- hexadecimal digits, or `-` if there are none
abbrev pub digits_or_dash : List ℕ → List ℕ
digits_or_dash [] = codes "-"
digits_or_dash (digit ∷ digits) = digit ∷ digits

-- the end of a call: ` place 0 code 0 output -`, or ` refused 7 InputTooLong`
abbrev pub end_text : CallEnd → List ℕ
end_text (Replied place code output) =
    codes " place " ++
    (decimal place ++ (codes " code " ++ (signed_decimal (cast_signed w64 code) ++
    (codes " output " ++ (digits_or_dash (encode_lower output) ++ codes "\n")))))
end_text (Refused reason) = codes " refused " ++ (reason ++ codes "\n")

-- the request of a call, if it is shown: the group of the object, and the request in the words of
-- the file, ` group 12 request a lock lock -`; bytes other than printable ASCII are escaped
abbrev pub asked_text : ℕ → PlannedCall → List ℕ
asked_text groups call =
    codes " group " ++ (decimal (group_of call.object groups) ++
    (codes " request " ++ (escaped call.object ++ (codes " " ++ (escaped call.word
    ++ (codes " " ++ (escaped call.method ++ (codes " " ++ digits_or_dash (encode_lower call.input)))))))))

-- nothing if it isn't shown
abbrev pub asked_if : Option ℕ → PlannedCall → List ℕ
asked_if None call = []
asked_if (Some groups) call = asked_text groups call

-- the client and the number of a call: `client 1 call 0`
abbrev pub head_text : ℕ → ℕ → List ℕ
head_text client number = codes "client " ++ (decimal client ++ (codes " call " ++ decimal number))

-- THE LINE OF A CALL: `client 1 call 0 place 0 code 0 output -`. If the number of groups is given,
-- the line shows the request.
abbrev pub call_line : Option ℕ → ℕ → ℕ → PlannedCall → CallEnd → List ℕ
call_line groups client number call end = head_text client number ++ (asked_if groups call ++ end_text end)

-- the lines of a client's calls, from a number on
abbrev pub call_lines : Option ℕ → ℕ → ℕ → List PlannedCall → List CallEnd → List ℕ
call_lines groups client number [] ends = []
call_lines groups client number (call ∷ calls) [] = []
call_lines groups client number (call ∷ calls) (end ∷ ends) =
    call_line groups client number call end ++ call_lines groups client (suc number) calls ends

-- ALL LINES of these steps: client by client from the given one on, each client's calls from 0 on.
abbrev pub all_lines : Option ℕ → List PlannedStep → ℕ → List (List CallEnd) → List ℕ
all_lines groups steps client [] = []
all_lines groups steps client (ends ∷ others) =
    call_lines groups client 0 (calls_of client steps) ends ++ all_lines groups steps (suc client) others

-- The text of a malformed line and of a refused one, each printed alone: `line 3: bad`,
-- `line 3: refused 1 NoneUp`.
abbrev pub bad_line : ℕ → List ℕ
bad_line number = codes "line " ++ decimal number ++ codes ": bad\n"

abbrev pub refused_line : ℕ → List ℕ → List ℕ
refused_line number reason = codes "line " ++ (decimal number ++ (codes ": refused " ++ (reason ++ codes "\n")))
