use Rattle.std.proofs.Common.{◌≡◌, ◌<◌, ℕ, List, [], ◌∷◌, Bor, length, map, arith, refl}
use Rattle.std.proofs.lemmas.List.{length-map}
use Rattle.bpf_decode.specs.Class.{ClassMethod}
use Rattle.class_tests.specs.Calls.{Calls}
use Rattle.class_tests.specs.Tests.{call_line}
use Rattle.class_tests.specs.inner.Made.{calls_of, methods_of}
use Rattle.class_tests.specs.declared.case.Case.{Case}
use Rattle.class_tests.specs.declared.step.Step.TheVariants.{Bad}
use Rattle.class_tests.proofs.calls.call_line.Goals as goal

-- too few words
few : (calls : Calls) (class : List ClassMethod) (case : Case) (ws : List (List ℕ)) → length ws < 3 → Bad ≡ call_line calls class case ws
few calls class case [] h = refl
few calls class case (a ∷ []) h = refl
few calls class case (a ∷ b ∷ []) h = refl
few calls class case (a ∷ b ∷ c ∷ ws) h = absurd (omega (arith, h))

pub returns-in_default : goal.returns-in_default
returns-in_default c =
    let text : Bor (List ℕ) → List ℕ = λ w. w.now in
    let same = length-map c.args.args.now text in
    let below = c.in_default.len_below in
    few (calls_of c.args.class.now) (methods_of c.args.class.now) c.args.case.now (map text c.args.args.now) (omega (arith, same, below))
