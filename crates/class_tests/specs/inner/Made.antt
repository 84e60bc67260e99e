-- A class of either kind, and a call of one of its methods that was made.
use Rattle.std.specs.Prelude.{◌≡◌, ◌≤◌, ℕ, List, Some, length}
use Rattle.bpf_decode.specs.Class.{ClassMethod}
use Rattle.bpf_machine.specs.Safe.{call_outcome}
use Rattle.interp.specs.declared.outcome.Outcome.{Outcome}
use Rattle.interp.specs.Plain.{outcome_of_answer}
use Rattle.verifier.specs.Verified.{method_named}
use Rattle.class_tests.specs.Calls.{Calls, loop_outcome}
use Rattle.class_tests.specs.declared.case.Case.{Case}
use Rattle.class_tests.specs.declared.tested.Tested.{Tested}
use Rattle.class_tests.specs.declared.tested.Tested.TheVariants.{Plain, Looped}

-- the methods of a class, and the outcomes of its calls
abbrev pub methods_of : Tested → List ClassMethod
methods_of (Plain class) = class.now
methods_of (Looped class) = class.now

abbrev pub calls_of : Tested → Calls
calls_of (Plain class) = call_outcome
calls_of (Looped class) = loop_outcome

-- the outcome is that of the method of the name, whose in_cap the input doesn't pass
pub record IsMade (calls : Calls) (class : List ClassMethod) (name : List ℕ) (case : Case) (input : List ℕ)
    (made : Outcome) : Type 0 where
  pub method : ClassMethod
  pub named : method_named class name ≡ Some method
  pub short : length input ≤ method.in_cap
  pub same : calls method case.object case.caller input ≡ outcome_of_answer made
