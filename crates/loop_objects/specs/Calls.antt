-- What calls of the methods of a class whose methods may loop answer.
use Rattle.std.specs.Prelude.{◌≡◌, ◌↔◌, ℕ, ◌≤◌, List, Option, Some, None, Ok, length}
use Rattle.std.specs.List.{AllByRecursion}
use Rattle.bpf_decode.specs.Class.{ClassMethod}
use Rattle.object_store.specs.Limits.{profile}
use Rattle.object_store.specs.Object.{PlainObject, IsObject}
use Rattle.txn.specs.Edits.{Edit, all_edited}
use Rattle.interp.specs.declared.outcome.Outcome.{Outcome}
use Rattle.interp.specs.Plain.{Answers, AnswersMethod, method_named, outcome_of_answer}
use Rattle.part_calls.specs.declared.answer.PartAnswer.{PartAnswer}
use Rattle.loop_heads.specs.Loops.{PlainLoops}
use Rattle.loop_machine.specs.Runs.{RunsByBudget}
use Rattle.loop_calls.specs.ByBudget.{AnswersOnByBudget}

-- The answer of a run of one method by its budget: code, output, steps and the object afterwards are those of its bytes
-- on the flat machine by the limits of all objects, in every layout. A run that has used up its budget has the code
-- -62, no output, the budget for its steps, and leaves the object as it was. The change is from the object before to
-- the one after, which is within the limits; the run's list of edits makes the one of the other, and none of them is
-- refused.
pub record AnswersBudget (method : ClassMethod) (budget : ℕ) (object : PlainObject) (caller : ℕ) (input : List ℕ)
    (answer : Outcome) : Type 0 where
  pub bounded : answer.steps ≤ budget
  pub list : List Edit
  pub runs : RunsByBudget profile method budget object caller input (outcome_of_answer answer) answer.steps list
  pub leads : all_edited list object ≡ Ok answer.change.after
  pub before : answer.change.before ≡ object
  pub within : IsObject answer.change.after

-- The answer of such a run with the bytes of its edits, which make of the object before the one after; none of them is
-- refused.
pub record AnswersByEdits (m : ClassMethod) (budget : ℕ) (o : PlainObject) (caller : ℕ) (input : List ℕ)
    (a : PartAnswer) : Type 0 where
  pub answers : AnswersOnByBudget profile m budget o caller input a
  pub leads : all_edited answers.list o ≡ Ok answers.object

-- a method by its loops: one without them runs to its exit, one with them by its budget
abbrev pub answers_by : Option PlainLoops → ClassMethod → PlainObject → ℕ → List ℕ → Outcome → Type 0
answers_by None m object caller input answer = AnswersMethod m object caller input answer
answers_by (Some l) m object caller input answer = AnswersBudget m l.budget object caller input answer

abbrev pub AnswersLooped : ClassMethod → PlainObject → ℕ → List ℕ → Outcome → Type 0
AnswersLooped m object caller input answer = answers_by m.loops m object caller input answer

-- A call's answer: that of the method of the name, whose in_cap the input doesn't pass.
pub record AnswersLoops (class : List ClassMethod) (name : List ℕ) (object : PlainObject) (caller : ℕ)
    (input : List ℕ) (answer : Outcome) : Type 0 where
  pub method : ClassMethod
  pub named : method_named class name ≡ Some method
  pub short : length input ≤ method.in_cap
  pub answers : AnswersLooped method object caller input answer

-- Of a class without loops the answer is what all calls answer.
abbrev pub WithoutLoopsAnswersIsOne : Type 0
WithoutLoopsAnswersIsOne =
    (class : List ClassMethod) → AllByRecursion (λ m. m.loops ≡ None) class →
    (name : List ℕ) (object : PlainObject) (caller : ℕ) (input : List ℕ) (answer : Outcome) →
    AnswersLoops class name object caller input answer ↔ Answers class name object caller input answer
