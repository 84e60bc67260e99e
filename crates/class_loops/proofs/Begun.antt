-- Why a call of a class whose methods may loop doesn't begin.
use Rattle.std.proofs.Common.{◌≡◌, ℕ, List, Some}
use Rattle.bpf_decode.specs.Class.{ClassMethod}
use Rattle.object_store.specs.declared.limits.Limits.{Limits}
use Rattle.verifier.specs.Verified.{method_named}
use Rattle.class_calls.specs.Answers.{RefusesMethod, RefusesToBegin}
use Rattle.class_calls.specs.Parts.{RefusesToBeginPart}
use Rattle.class_loops.specs.Parts.{RefusesPartByLoops}
use Rattle.class_calls.specs.declared.answer.MethodError.{MethodError}
use Rattle.class_calls.specs.declared.answer.MethodError.TheVariants as method
use Rattle.class_calls.specs.declared.part_call.PartCallError.{PartCallError}
use Rattle.class_calls.specs.declared.part_call.PartCallError.TheVariants as call

-- on an object
pub not_begun : (class : List ClassMethod) (name object : List ℕ) (caller : ℕ) (input : List ℕ) (m : ClassMethod) → method_named class name ≡ Some m → (e : MethodError) → RefusesToBegin m.in_cap object caller input e → RefusesMethod class name object caller input e
not_begun class name object caller input m named method.NoMethod r = absurd r
not_begun class name object caller input m named method.InputTooLong r = record { method = m; named = named; long = r }
not_begun class name object caller input m named method.Malformed r = record { method = m; named = named; short = r.0; none = r.1 }
not_begun class name object caller input m named method.NoMemory r = tt

-- on a part of one
pub not_begun_on_part : (class : List ClassMethod) (name part : List ℕ) (caller : ℕ) (limits : Limits) (input : List ℕ) (m : ClassMethod) → method_named class name ≡ Some m → (e : PartCallError) → RefusesToBeginPart m.in_cap part caller limits input e → RefusesPartByLoops class name part caller limits input e
not_begun_on_part class name part caller limits input m named call.NoMethod r = absurd r
not_begun_on_part class name part caller limits input m named call.InputTooLong r = record { method = m; named = named; long = r }
not_begun_on_part class name part caller limits input m named call.Malformed r = record { method = m; named = named; short = r.0; none = r.1 }
not_begun_on_part class name part caller limits input m named call.NoMemory r = tt
not_begun_on_part class name part caller limits input m named call.Full r = absurd r
not_begun_on_part class name part caller limits input m named (call.Needs need) r = absurd r
