-- What calls on a part of an object answer of a class whose methods may loop.
use Rattle.std.specs.Prelude.{◌≡◌, ℕ, ◌^◌, ◌<◌, ◌≤◌, List, Option, Some, None, length}
use Rattle.bpf_decode.specs.Class.{ClassMethod}
use Rattle.object_store.specs.declared.limits.Limits.{Limits}
use Rattle.object_store.specs.Object.{PlainObject}
use Rattle.object_store.specs.Limits.{IsAnyObject}
use Rattle.part_bytes.specs.Part.{PlainPart}
use Rattle.parts.specs.Known.{KnownObject}
use Rattle.parts.specs.Agreed.{AgreesPart}
use Rattle.parts.specs.declared.stop.Stop.{Stop}
use Rattle.parts.specs.declared.stop.Stop.TheVariants as stop
use Rattle.interp.specs.Plain.{InputPasses, method_named}
use Rattle.part_calls.specs.declared.answer.PartAnswer.{PartAnswer}
use Rattle.loop_heads.specs.Loops.{PlainLoops}
use Rattle.loop_machine.specs.Runs.{IsSafeByBudget}
use Rattle.loop_calls.specs.ByBudget.{AnswersOnByBudget, NeedsNoMoreByBudget, StopsByBudget}
use Rattle.class_calls.specs.Parts.{IsAnsweredByPart, IsLacking, IsMalformedPart, MayLimit, SaysPart, SpellsCounted}
use Rattle.class_calls.specs.Parts.{StopsOnPart}
use Rattle.class_calls.specs.declared.part_call.PartCallError.{PartCallError}
use Rattle.class_calls.specs.declared.part_call.PartCallError.TheVariants as call

-- ---- what is answered

-- What a method with loops answers on a part, by its budget: it is what the method, which is safe by the budget,
-- answers on every object that agrees with the part. What each helper on the way touched was known.
pub record IsAnsweredByPartAndBudget (m : ClassMethod) (budget : ℕ) (part : List ℕ) (caller : ℕ) (limits : Limits)
    (input : List ℕ) (answer : PartAnswer) : Type 0 where
  pub short : length input ≤ m.in_cap
  pub client : caller < 2 ^ 32
  pub limited : MayLimit limits
  pub plain : PlainPart
  pub spelled : SpellsCounted limits part plain
  pub safe : IsSafeByBudget m budget
  pub answers : (o : PlainObject) → AgreesPart plain o → IsAnyObject o →
      AnswersOnByBudget limits m budget o caller input answer
  pub known : KnownObject
  pub says : SaysPart plain known
  pub learns : NeedsNoMoreByBudget limits m budget known caller input answer

-- a method that declares no loops answers as in a class without loops
abbrev pub answered_by_part : Option PlainLoops → List ClassMethod → ClassMethod → List ℕ → List ℕ → ℕ → Limits →
    List ℕ → PartAnswer → Type 0
answered_by_part None class m name part caller limits input answer =
    IsAnsweredByPart class name part caller limits input answer
answered_by_part (Some l) class m name part caller limits input answer =
    IsAnsweredByPartAndBudget m l.budget part caller limits input answer

-- What a class answers on a part: what the method of that name does.
pub record IsAnsweredByPartAndLoops (class : List ClassMethod) (name part : List ℕ) (caller : ℕ) (limits : Limits)
    (input : List ℕ) (answer : PartAnswer) : Type 0 where
  pub method : ClassMethod
  pub named : method_named class name ≡ Some method
  pub answers : answered_by_part method.loops class method name part caller limits input answer

-- ---- why nothing is answered

-- The call is well formed, and what the part says isn't enough: within the budget the run on each object that agrees
-- stops for this. What is needed isn't in the part.
pub record StopsOnPartByBudget (m : ClassMethod) (budget : ℕ) (part : List ℕ) (caller : ℕ) (limits : Limits)
    (input : List ℕ) (why : Stop) : Type 0 where
  pub short : length input ≤ m.in_cap
  pub client : caller < 2 ^ 32
  pub limited : MayLimit limits
  pub plain : PlainPart
  pub spelled : SpellsCounted limits part plain
  pub known : KnownObject
  pub says : SaysPart plain known
  pub stops : StopsByBudget limits m budget known caller input why
  pub lacking : IsLacking plain why

-- a method that declares no loops stops as in a class without loops
abbrev pub stops_by : Option PlainLoops → List ClassMethod → ClassMethod → List ℕ → List ℕ → ℕ → Limits → List ℕ →
    Stop → Type 0
stops_by None class m name part caller limits input why = StopsOnPart class name part caller limits input why
stops_by (Some l) class m name part caller limits input why =
    StopsOnPartByBudget m l.budget part caller limits input why

pub record StopsWithLoops (class : List ClassMethod) (name part : List ℕ) (caller : ℕ) (limits : Limits)
    (input : List ℕ) (why : Stop) : Type 0 where
  pub method : ClassMethod
  pub named : method_named class name ≡ Some method
  pub stops : stops_by method.loops class method name part caller limits input why

-- why a class gives no answer on a part: the first that applies
abbrev pub RefusesPartByLoops : List ClassMethod → List ℕ → List ℕ → ℕ → Limits → List ℕ → PartCallError → Type 0
RefusesPartByLoops class name part caller limits input call.NoMethod = method_named class name ≡ None
RefusesPartByLoops class name part caller limits input call.InputTooLong = InputPasses class name input
RefusesPartByLoops class name part caller limits input call.Malformed =
    IsMalformedPart class name part caller limits input
RefusesPartByLoops class name part caller limits input call.NoMemory = Unit {0}
RefusesPartByLoops class name part caller limits input call.Full =
    StopsWithLoops class name part caller limits input stop.Full
RefusesPartByLoops class name part caller limits input (call.Needs need) =
    StopsWithLoops class name part caller limits input (stop.Needs need)
