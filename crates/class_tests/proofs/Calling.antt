-- A call that was answered has the outcome that its class's calls name.
use Rattle.std.proofs.Common.{◌≡◌, ◌<◌, ◌^◌, ◌∙◌, ap, ℕ, List, [], ◌∷◌, Some, true, false, subst, sym, arith}
use Rattle.std.specs.Prelude.{if◌then◌else◌}
use Rattle.std.specs.List.{AllByRecursion}
use Rattle.std.specs.Str.{bytes_eq}
use Rattle.std.proofs.lemmas.Option.{none-some, same_Some}
use Rattle.bpf_decode.specs.Class.{ClassMethod, IsMethod}
use Rattle.object_store.specs.Object.{PlainObject}
use Rattle.bpf_machine.specs.Safe.{OutcomesAreOne, call_outcome}
use Rattle.interp.specs.declared.outcome.Outcome.{Outcome}
use Rattle.interp.specs.Plain.{Answers, outcome_of_answer}
use Rattle.verifier.specs.Verified.{method_named}
use Rattle.loop_objects.specs.Calls.{AnswersLoops}
use Rattle.class_tests.specs.Calls.{LoopOutcomesAreOne, loop_outcome}
use Rattle.class_tests.specs.declared.case.Case.{Case}
use Rattle.class_tests.specs.inner.Made.{IsMade}

-- what holds of all methods holds of the one of a name
named_has : (P : ClassMethod → Type 0) (ms : List ClassMethod) (name : List ℕ) (m : ClassMethod) → AllByRecursion P ms → method_named ms name ≡ Some m → P m
named_has P [] name m h e = absurd (none-some m e)
named_has P (x ∷ ms) name m h e =
    elim (bytes_eq x.name name) as (λ b. (if b then Some x else method_named ms name) ≡ Some m → P m) [
      | true ↦ λ e. subst P (same_Some x m e) h.0
      | false ↦ λ e. named_has P ms name m h.1 e
    ] e

module _ (class : List ClassMethod) (name : List ℕ) (case : Case) (input : List ℕ) (methods : AllByRecursion IsMethod class) (object : PlainObject) (same : object ≡ case.object) where
  pub plainly : OutcomesAreOne → (o : Outcome) → Answers class name object case.caller input o → IsMade call_outcome class name case input o
  plainly one o h =
      let m = h.method in
      let is = named_has IsMethod class name m methods h.named in
      let in_cap = is.in_cap in
      let out_cap = is.out_cap in
      let in16 : m.in_cap < 2 ^ 16 = omega (arith, in_cap) in
      let out16 : m.out_cap < 2 ^ 16 = omega (arith, out_cap) in
      record {
        method = m;
        named = h.named;
        short = h.short;
        same = ap (λ (x : PlainObject). call_outcome m x case.caller input) (sym same) ∙ one m in16 out16 object case.caller input (outcome_of_answer o) o.steps h.answers.bounded h.answers.runs;
      }

  pub by_loops : LoopOutcomesAreOne → (o : Outcome) → AnswersLoops class name object case.caller input o → IsMade loop_outcome class name case input o
  by_loops one o h =
      let m = h.method in
      let is = named_has IsMethod class name m methods h.named in
      let in_cap = is.in_cap in
      let out_cap = is.out_cap in
      let in16 : m.in_cap < 2 ^ 16 = omega (arith, in_cap) in
      let out16 : m.out_cap < 2 ^ 16 = omega (arith, out_cap) in
      record {
        method = m;
        named = h.named;
        short = h.short;
        same = ap (λ (x : PlainObject). loop_outcome m x case.caller input) (sym same) ∙ one m in16 out16 object case.caller input o h.answers;
      }
