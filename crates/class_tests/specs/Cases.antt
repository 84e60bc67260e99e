-- A case: the object and the caller that lines have made. What is said of it, and the lines but for
-- calls.
use Rattle.std.specs.Prelude.{◌==◌, ◌&&◌, ℕ, Bool, true, false, List, [], ◌∷◌, Option, Some, None, Result, Ok, Err}
use Rattle.std.specs.Prelude.{option_and_then, option_map, if◌then◌else◌, codes}
use Rattle.std.specs.FinMap as fin
use Rattle.std.specs.Str.{bytes_eq}
use Rattle.file_words.specs.Words.{id_in}
use Rattle.object_store.specs.Calls as calls
use Rattle.object_store.specs.Object.{Content, PlainObject}
use Rattle.object_store.specs.declared.store_error.StoreError.{StoreError}
use Rattle.class_tests.specs.Spelled.{Text, code_in, held_in, name_in, value_in}
use Rattle.class_tests.specs.declared.case.Case.{Case}
use Rattle.class_tests.specs.declared.test_said.TestSaid.{TestSaid}
use Rattle.class_tests.specs.declared.test_said.TestSaid.TheVariants.{Answer, Held, NoMethod, InputTooLong}
use Rattle.class_tests.specs.declared.step.TestPart.{TestPart}
use Rattle.class_tests.specs.declared.step.TestPart.TheVariants.{Xattrs, Keys}
use Rattle.class_tests.specs.declared.step.Step.{Step}
use Rattle.class_tests.specs.declared.step.Step.TheVariants.{Next, Holds, Differs, Bad}

-- a file begins with no object, and client 1 calls
abbrev pub opening : Case
opening = record { object = None; caller = 1 }

-- both are none, or the same bytes
abbrev pub are_held : Option (List ℕ) → Option (List ℕ) → Bool
are_held None None = true
are_held None (Some b) = false
are_held (Some a) None = false
are_held (Some a) (Some b) = bytes_eq a b

-- an answer has the code and the output that were said; data or a value is what was said; no line
-- says that a call isn't made
abbrev pub is_same : TestSaid → TestSaid → Bool
is_same (Answer code output) (Answer found bytes) = (code == found) && bytes_eq output bytes
is_same (Answer code output) (Held value) = false
is_same (Answer code output) NoMethod = false
is_same (Answer code output) InputTooLong = false
is_same (Held value) (Answer code output) = false
is_same (Held value) (Held found) = are_held value found
is_same (Held value) NoMethod = false
is_same (Held value) InputTooLong = false
is_same NoMethod there = false
is_same InputTooLong there = false

-- A LINE THAT SAYS SOMETHING holds if that is there; the case goes on as it says. A line that says
-- nothing is malformed.
abbrev pub judged : Case → Option TestSaid → TestSaid → Step
judged case None there = Bad
judged case (Some said) there = if is_same said there then Holds case else Differs said there

-- a line that sets up makes another case, or is malformed
abbrev pub next_if : Option Case → Step
next_if None = Bad
next_if (Some case) = Next case

-- the case with an object, unless the object store refuses that
abbrev pub with_object : Case → Result Content StoreError → Option Case
with_object case (Ok content) = Some (record case { object = Some content })
with_object case (Err e) = None

-- `object none` or `object VALUE` begins a case: as a file begins, or with an object of that data
abbrev pub begun : Option (List ℕ) → Option Case
begun None = Some opening
begun (Some bytes) = with_object opening (calls.write None 0 bytes)

abbrev pub object_line : List Text → Step
object_line (word ∷ []) = next_if (option_and_then begun (held_in word))
object_line _ = Bad

-- `xattr NAME VALUE` and `key NAME VALUE` set one, of an absent object too
abbrev pub set_in : TestPart → PlainObject → List ℕ → List ℕ → Result Content StoreError
set_in Xattrs object name value = calls.set_xattr object name value
set_in Keys object name value = calls.set_key object name value

abbrev pub set_value : TestPart → Case → List ℕ → List Text → Step
set_value part case name (value ∷ []) =
    next_if (option_and_then (λ bytes. with_object case (set_in part case.object name bytes)) (value_in value))
set_value part case name _ = Bad

abbrev pub set_name : TestPart → Case → Option (List ℕ) → List Text → Step
set_name part case None values = Bad
set_name part case (Some name) values = set_value part case name values

abbrev pub set_line : TestPart → Case → List Text → Step
set_line part case [] = Bad
set_line part case (name ∷ values) = set_name part case (name_in name) values

-- `as N`: client N calls from here on
abbrev pub as_line : Case → List Text → Step
as_line case (word ∷ []) = next_if (option_map (λ n. record case { caller = n }) (id_in word))
as_line case _ = Bad

-- what stands after `->`: a code and an output, which is empty if it is left out
abbrev pub with_output : ℕ → List Text → Option TestSaid
with_output code [] = Some (Answer code [])
with_output code (output ∷ []) = option_map (λ bytes. Answer code bytes) (value_in output)
with_output code _ = None

abbrev pub answer_said : List Text → Option TestSaid
answer_said [] = None
answer_said (code ∷ words) = option_and_then (λ c. with_output c words) (code_in code)

-- `is data VALUE`, `is xattr NAME VALUE` and `is key NAME VALUE` say what the object has; the VALUE
-- is `none` if there is no such xattr or key, and for the data if there is no object
abbrev pub said_held : Text → Option TestSaid
said_held word = option_map Held (held_in word)

abbrev pub data_of : PlainObject → Option (List ℕ)
data_of object = option_map (λ (c : Content). c.bytes) object

abbrev pub value_of : TestPart → PlainObject → List ℕ → Option (List ℕ)
value_of part None name = None
value_of Xattrs (Some content) name = fin.get content.xattrs name
value_of Keys (Some content) name = fin.get content.omap name

abbrev pub is_data : Case → List Text → Step
is_data case (value ∷ []) = judged case (said_held value) (Held (data_of case.object))
is_data case _ = Bad

abbrev pub is_part : TestPart → Case → List Text → Step
is_part part case (name ∷ value ∷ []) =
    elim (name_in name) [ None ↦ Bad | Some n ↦ judged case (said_held value) (Held (value_of part case.object n)) ]
is_part part case _ = Bad

abbrev pub is_line : Case → List Text → Step
is_line case [] = Bad
is_line case (word ∷ args) =
    if bytes_eq word (codes "data") then is_data case args else
    if bytes_eq word (codes "xattr") then is_part Xattrs case args else
    if bytes_eq word (codes "key") then is_part Keys case args else Bad
