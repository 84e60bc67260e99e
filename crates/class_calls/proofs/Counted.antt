-- Parts that have the names which limits have a number of, and the refusal for a stop.
use Rattle.std.proofs.Common.{◌≡◌, ℕ, Bool, true, false, List, IsTrue}
use Rattle.bpf_decode.specs.Class.{ClassMethod}
use Rattle.object_store.specs.declared.limits.Limits.{Limits}
use Rattle.parts.specs.declared.stop.Stop.{Stop}
use Rattle.parts.specs.declared.stop.Stop.TheVariants as stop
use Rattle.class_calls.specs.Parts.{RefusesPart, StopsOnPart, of_stop}

-- a truth value isn't both
pub not_both : (b : Bool) → IsTrue b → b ≡ false → ⊥
not_both true t f = cc
not_both false t f = cc

pub refused_by : (class : List ClassMethod) (name part : List ℕ) (caller : ℕ) (limits : Limits) (input : List ℕ) (why : Stop) → StopsOnPart class name part caller limits input why → RefusesPart class name part caller limits input (of_stop why)
refused_by class name part caller limits input stop.NoMemory s = tt
refused_by class name part caller limits input stop.Full s = s
refused_by class name part caller limits input (stop.Needs need) s = s
