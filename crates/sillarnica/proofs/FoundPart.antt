-- What a call on a part found is what its class answers on the part.
use Rattle.std.proofs.Common.{◌≡◌, ℕ, ℤ, List, Result, Ok, Err, IfOk, IfErr, inl, inr}
use Rattle.object_store.specs.declared.limits.Limits.{Limits}
use Rattle.part_calls.specs.declared.answer.PartAnswer.{PartAnswer}
use Rattle.class_loops.specs.Held.{IsAnsweredByHeldPart, RefusesHeldPart}
use Rattle.class_loops.specs.declared.held.HeldClass.{HeldClass}
use Rattle.class_loops.specs.declared.held.HeldClass.TheVariants.{Plain, Looped}
use Rattle.class_calls.specs.declared.part_call.PartCallError.{PartCallError}
use Rattle.class_calls.specs.declared.part_call.PartCallError.TheVariants as call
use Rattle.sillarnica.specs.Parts.{PartMemory, TellsPartFound, TellsPartCall, TellsRefusalOrMemory, TellsNoPartAnswer}

refused_by : (held : HeldClass) (name part : List ℕ) (caller : ℕ) (limits : Limits) (input : List ℕ) (error : PartCallError) (old new : PartMemory) (result : ℤ) →
    RefusesHeldPart held name part caller limits input error → TellsRefusalOrMemory error old.want new.want result → new.answer ≡ old.answer → new.out ≡ old.out → TellsNoPartAnswer held name part caller limits input old new result
refused_by held name part caller limits input error old new result why (inl told) answer out = record { error = error; refused = why; told = told; answer = answer; out = out }
refused_by held name part caller limits input error old new result why (inr told) answer out = record { error = call.NoMemory; refused = wants held; told = told; answer = answer; out = out }
  where
    wants : (held : HeldClass) → RefusesHeldPart held name part caller limits input call.NoMemory
    wants (Plain class) = tt
    wants (Looped class) = tt

pub told_by_part : (held : HeldClass) (name part : List ℕ) (caller : ℕ) (limits : Limits) (input : List ℕ) (found : Result PartAnswer PartCallError) (old new : PartMemory) (result : ℤ) →
    IfOk found (IsAnsweredByHeldPart held name part caller limits input) → IfErr found (RefusesHeldPart held name part caller limits input) → TellsPartFound found old new result → TellsPartCall held name part caller limits input old new result
told_by_part held name part caller limits input (Ok answer) old new result ok err told = inl (record { answer = answer; answered = ok; told = told.0; out = told.1; want = told.2 })
told_by_part held name part caller limits input (Err error) old new result ok err told = inr (refused_by held name part caller limits input error old new result err told.0 told.1 told.2)
