-- What a host may leave out of an object that it hands to a call, or put in another's place.
use Rattle.std.specs.Prelude.{◌≡◌, ℕ, ◌^◌, ◌<◌, ◌≤◌, List, Some, Ok, length}
use Rattle.std.specs.Int.{w64, cast_unsigned}
use Rattle.bpf_decode.specs.Class.{ClassMethod}
use Rattle.object_store.specs.Object.{PlainObject, AreBytes}
use Rattle.txn.specs.Edits.{Edit, all_edited, spelled}
use Rattle.bpf_machine.specs.State as machine
use Rattle.bpf_machine.specs.Lists.{Lists}
use Rattle.bpf_machine.specs.Safe.{RunsTo}
use Rattle.verifier.specs.Verified.{method_named}
use Rattle.footprint.specs.declared.parts.Parts.{Parts}
use Rattle.footprint.specs.Parts.{reduced}
use Rattle.footprint.specs.Needed.{needed}
use Rattle.object_bytes.specs.Flat.{Spells}
use Rattle.class_calls.specs.declared.answer.Answer.{Answer}
use Rattle.class_calls.specs.declared.answer.MethodError.{MethodError}
use Rattle.class_calls.specs.Answers.{IsAnsweredBy, RefusesMethod}

-- Two objects are alike in these parts: both are absent, or both are there and have the same there.
abbrev pub AreAlike : Parts → PlainObject → PlainObject → Type 0
AreAlike parts o p = reduced parts o ≡ reduced parts p

-- What a client's call may be of, besides the object: numbers of 32 bits, and bytes.
pub record IsAsked (caller : ℕ) (input : List ℕ) : Type 0 where
  pub client : caller < 2 ^ 32
  pub bytes : AreBytes input

-- the outcome that an answer tells, with an object after it
abbrev pub told_outcome : Answer → PlainObject → machine.Outcome
told_outcome answer after =
    record { code = cast_unsigned w64 answer.code; output = answer.output.items; object = after }

-- What a class answers on an object, which may be past the limits: the run of the method's bytes on
-- the flat machine has this code, output, steps and list, and its edits make of the object the one
-- that the run leaves.
pub record AnswersOn (class : List ClassMethod) (name : List ℕ) (object : PlainObject) (caller : ℕ) (input : List ℕ)
    (answer : Answer) : Type 0 where
  pub method : ClassMethod
  pub named : method_named class name ≡ Some method
  pub short : length input ≤ method.in_cap
  pub bounded : answer.steps ≤ length method.instructions
  pub after : PlainObject
  pub runs : RunsTo method object caller input (told_outcome answer after) answer.steps
  pub list : List Edit
  pub lists : Lists method object caller input (told_outcome answer after) answer.steps list
  pub written : answer.edits.items ≡ spelled list
  pub leads : all_edited list object ≡ Ok after

-- These parts are enough. Let a host hand in the flat form of any object that is like the whole one
-- in these parts. The answer is that on the whole object, whatever is in its other parts: so the
-- edits are the whole object's. If that has a flat form too, a call on it answers the same code,
-- instructions, output and edits, or the same refusal.
pub record AreEnough (class : List ClassMethod) (name : List ℕ) (parts : Parts) : Type 0 where
  pub any : (given whole : PlainObject) → AreAlike parts given whole → (form : List ℕ) → Spells form given →
      (caller : ℕ) (input : List ℕ) → IsAsked caller input → (answer : Answer) →
      IsAnsweredBy class name form caller input answer → AnswersOn class name whole caller input answer
  pub answered : (given whole : PlainObject) → AreAlike parts given whole → (form whole_form : List ℕ) →
      Spells form given → Spells whole_form whole →
      (caller : ℕ) (input : List ℕ) → IsAsked caller input → (answer : Answer) →
      IsAnsweredBy class name form caller input answer → IsAnsweredBy class name whole_form caller input answer
  pub refused : (given whole : PlainObject) (form whole_form : List ℕ) → Spells form given → Spells whole_form whole →
      (caller : ℕ) (input : List ℕ) (error : MethodError) → RefusesMethod class name form caller input error →
      RefusesMethod class name whole_form caller input error

-- The parts that a method's code needs are enough.
abbrev pub NeededAreEnough : Type 0
NeededAreEnough =
    (class : List ClassMethod) (name : List ℕ) (method : ClassMethod) → method_named class name ≡ Some method →
    AreEnough class name (needed method.instructions)
