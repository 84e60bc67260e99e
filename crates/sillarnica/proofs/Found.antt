-- What a call found is what its class answers.
use Rattle.std.proofs.Common.{ℕ, ℤ, List, Some, Result, Ok, Err, IfOk, IfErr, inl, inr}
use Rattle.bpf_decode.specs.Class.{ClassMethod}
use Rattle.class_calls.specs.Answers.{IsAnsweredBy, RefusesMethod}
use Rattle.class_calls.specs.declared.answer.Answer.{Answer}
use Rattle.class_calls.specs.declared.answer.MethodError.{MethodError}
use Rattle.class_loops.specs.Held.{IsAnsweredByHeld, methods_of}
use Rattle.class_loops.specs.declared.held.HeldClass.{HeldClass}
use Rattle.sillarnica.specs.Told.{Memory, TellsFound, TellsClassCall, TellsHeldCall}

pub told_by : (class : List ClassMethod) (name object : List ℕ) (caller : ℕ) (input : List ℕ) (found : Result Answer MethodError) (old new : Memory) (result : ℤ) →
    IfOk found (IsAnsweredBy class name object caller input) → IfErr found (RefusesMethod class name object caller input) → TellsFound found old new result → TellsClassCall class name object caller input old new result
told_by class name object caller input (Ok answer) old new result ok err told = inl (record { answer = answer; answered = ok; told = told.0; out = told.1 })
told_by class name object caller input (Err error) old new result ok err told = inr (record { error = error; number = told.0; refused = err }, told.1)

-- and what a held class does
pub told_by_held : (held : HeldClass) (name object : List ℕ) (caller : ℕ) (input : List ℕ) (found : Result Answer MethodError) (old new : Memory) (result : ℤ) →
    IfOk found (IsAnsweredByHeld held name object caller input) → IfErr found (RefusesMethod (methods_of held) name object caller input) → TellsFound found old new result → TellsHeldCall (Some held) name object caller input old new result
told_by_held held name object caller input (Ok answer) old new result ok err told = inl (record { answer = answer; answered = ok; told = told.0; out = told.1 })
told_by_held held name object caller input (Err error) old new result ok err told = inr (record { error = error; number = told.0; refused = err }, told.1)
