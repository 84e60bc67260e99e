-- What calls on bytes answer of a class whose methods may loop.
use Rattle.std.specs.Prelude.{◌≡◌, ℕ, ◌^◌, ◌<◌, ◌≤◌, List, Option, Some, None, length}
use Rattle.bpf_decode.specs.Class.{ClassMethod}
use Rattle.object_store.specs.Object.{PlainObject}
use Rattle.object_bytes.specs.Flat.{Spells}
use Rattle.verifier.specs.Verified.{method_named}
use Rattle.part_calls.specs.declared.answer.PartAnswer.{PartAnswer}
use Rattle.loop_heads.specs.Loops.{PlainLoops}
use Rattle.loop_machine.specs.Runs.{IsSafeByBudget}
use Rattle.loop_objects.specs.Calls.{AnswersByEdits}
use Rattle.class_calls.specs.Answers.{IsAnsweredBy}
use Rattle.class_calls.specs.declared.answer.Answer.{Answer}

-- the answer of a run that has the bytes of its edits
abbrev pub edits_answer : Answer → PartAnswer
edits_answer a = record { code = a.code; output = a.output; steps = a.steps; edits = a.edits }

-- What a method with loops answers on the object that is spelled, by its budget: the outcome and the list of a run of
-- its bytes on the flat machine, in every layout, whether it reached an exit or used up the budget. It is safe by it.
pub record IsAnsweredByBudget (m : ClassMethod) (budget : ℕ) (object : List ℕ) (caller : ℕ) (input : List ℕ)
    (answer : Answer) : Type 0 where
  pub short : length input ≤ m.in_cap
  pub client : caller < 2 ^ 32
  pub plain : PlainObject
  pub spelled : Spells object plain
  pub safe : IsSafeByBudget m budget
  pub answers : AnswersByEdits m budget plain caller input (edits_answer answer)

-- a method that declares no loops answers as in a class without loops
abbrev pub answered_by : Option PlainLoops → List ClassMethod → ClassMethod → List ℕ → List ℕ → ℕ → List ℕ → Answer →
    Type 0
answered_by None class m name object caller input answer = IsAnsweredBy class name object caller input answer
answered_by (Some l) class m name object caller input answer =
    IsAnsweredByBudget m l.budget object caller input answer

-- What a class answers on the object that is spelled: what the method of that name does.
pub record IsAnsweredByLoops (class : List ClassMethod) (name object : List ℕ) (caller : ℕ) (input : List ℕ)
    (answer : Answer) : Type 0 where
  pub method : ClassMethod
  pub named : method_named class name ≡ Some method
  pub answers : answered_by method.loops class method name object caller input answer
