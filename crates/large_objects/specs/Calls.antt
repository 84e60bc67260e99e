-- What calls on an object by an OSD's limits answer.
use Rattle.std.specs.Prelude.{◌≡◌, ℕ, ◌≤◌, ⊤, List, Some, None, codes, ◌++◌, length}
use Rattle.std.specs.Fmt.{decimal}
use Rattle.std.specs.Int.{w64, cast_unsigned}
use Rattle.bpf_decode.specs.Class.{ClassMethod}
use Rattle.bpf_machine.specs.Safe.{RunsWithin}
use Rattle.bpf_machine.specs.State.{Outcome}
use Rattle.class_calls.specs.declared.part_call.PartCallError.{PartCallError}
use Rattle.class_calls.specs.declared.part_call.PartCallError.TheVariants as parts
use Rattle.interp.specs.Plain.{InputPasses, method_named}
use Rattle.object_store.specs.Object.{PlainObject}
use Rattle.part_calls.specs.Parts.{AnswersOn}
use Rattle.part_calls.specs.declared.answer.PartAnswer.{PartAnswer}
use Rattle.verifier.specs.Verified.{IsVerified}
use Rattle.large_objects.specs.Large.{large_limits}
use Rattle.large_objects.specs.declared.call.LargeAnswer.{LargeAnswer}
use Rattle.large_objects.specs.declared.call.LargeCallError.{LargeCallError}
use Rattle.large_objects.specs.declared.call.LargeCallError.TheVariants as large

-- the outcome that an answer tells
abbrev pub outcome_of : LargeAnswer → Outcome
outcome_of a = record { code = cast_unsigned w64 a.answer.code; output = a.answer.output.items; object = a.after }

-- Code, output, steps and the object afterwards are those of the run of the method's bytes on the flat machine, by an
-- OSD's limits, in every layout. The method is verified.
pub record AnswersLarge (class : List ClassMethod) (name : List ℕ) (object : PlainObject) (caller : ℕ)
    (input : List ℕ) (a : LargeAnswer) : Type 0 where
  pub method : ClassMethod
  pub named : method_named class name ≡ Some method
  pub short : length input ≤ method.in_cap
  pub verified : IsVerified method
  pub bounded : a.answer.steps ≤ length method.instructions
  pub runs : RunsWithin large_limits method object caller input (outcome_of a) a.answer.steps

-- Why there is no answer: no such method, too long an input, no memory. Of Full nothing is said.
abbrev pub RefusesLarge : List ClassMethod → List ℕ → List ℕ → LargeCallError → Type 0
RefusesLarge class name input large.NoMethod = method_named class name ≡ None
RefusesLarge class name input large.InputTooLong = InputPasses class name input
RefusesLarge class name input large.NoMemory = ⊤
RefusesLarge class name input large.Full = ⊤

-- ---- the refusals by number and name, and how they print
abbrev pub large_error_number : LargeCallError → ℕ
large_error_number large.NoMethod = 1
large_error_number large.InputTooLong = 2
large_error_number large.NoMemory = 3
large_error_number large.Full = 4

abbrev pub large_error_name : LargeCallError → List ℕ
large_error_name large.NoMethod = codes "NoMethod"
large_error_name large.InputTooLong = codes "InputTooLong"
large_error_name large.NoMemory = codes "NoMemory"
large_error_name large.Full = codes "Full"

abbrev pub large_error_text : LargeCallError → List ℕ
large_error_text e = decimal (large_error_number e) ++ codes " " ++ large_error_name e

-- ---- the steps of the code

-- a call on a part: the answer on the object
pub record AnswersPartly (class : List ClassMethod) (name : List ℕ) (object : PlainObject) (caller : ℕ)
    (input : List ℕ) (a : PartAnswer) : Type 0 where
  pub method : ClassMethod
  pub named : method_named class name ≡ Some method
  pub short : length input ≤ method.in_cap
  pub verified : IsVerified method
  pub answers : AnswersOn large_limits method object caller input a

-- what a refusal of a part is here
abbrev pub refusal_of_part : PartCallError → LargeCallError
refusal_of_part parts.NoMethod = large.NoMethod
refusal_of_part parts.InputTooLong = large.InputTooLong
refusal_of_part parts.Malformed = large.Full
refusal_of_part parts.NoMemory = large.NoMemory
refusal_of_part parts.Full = large.Full
refusal_of_part (parts.Needs need) = large.Full
