-- What a held class answers, by the verdict that it was opened by.
use Rattle.std.specs.Prelude.{ℕ, List}
use Rattle.bpf_decode.specs.Class.{ClassMethod}
use Rattle.object_store.specs.declared.limits.Limits.{Limits}
use Rattle.part_calls.specs.declared.answer.PartAnswer.{PartAnswer}
use Rattle.class_calls.specs.Answers.{IsAnsweredBy}
use Rattle.class_calls.specs.Parts.{IsAnsweredByPart, RefusesPart}
use Rattle.class_calls.specs.declared.answer.Answer.{Answer}
use Rattle.class_calls.specs.declared.part_call.PartCallError.{PartCallError}
use Rattle.class_loops.specs.Answers.{IsAnsweredByLoops}
use Rattle.class_loops.specs.Parts.{IsAnsweredByPartAndLoops, RefusesPartByLoops}
use Rattle.class_loops.specs.declared.held.HeldClass.{HeldClass}
use Rattle.class_loops.specs.declared.held.HeldClass.TheVariants.{Plain, Looped}

-- its methods
abbrev pub methods_of : HeldClass → List ClassMethod
methods_of (Plain class) = class
methods_of (Looped class) = class

-- what it answers on the object that is spelled
abbrev pub IsAnsweredByHeld : HeldClass → List ℕ → List ℕ → ℕ → List ℕ → Answer → Type 0
IsAnsweredByHeld (Plain class) name object caller input answer = IsAnsweredBy class name object caller input answer
IsAnsweredByHeld (Looped class) name object caller input answer =
    IsAnsweredByLoops class name object caller input answer

-- what it answers on a part, and why it doesn't
abbrev pub IsAnsweredByHeldPart : HeldClass → List ℕ → List ℕ → ℕ → Limits → List ℕ → PartAnswer → Type 0
IsAnsweredByHeldPart (Plain class) name part caller limits input answer =
    IsAnsweredByPart class name part caller limits input answer
IsAnsweredByHeldPart (Looped class) name part caller limits input answer =
    IsAnsweredByPartAndLoops class name part caller limits input answer

abbrev pub RefusesHeldPart : HeldClass → List ℕ → List ℕ → ℕ → Limits → List ℕ → PartCallError → Type 0
RefusesHeldPart (Plain class) name part caller limits input e = RefusesPart class name part caller limits input e
RefusesHeldPart (Looped class) name part caller limits input e =
    RefusesPartByLoops class name part caller limits input e
