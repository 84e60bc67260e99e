-- A group of one request tells why a call is refused, and it has the same outcome as the call.
use Rattle.std.proofs.Common.{◌≡◌, ◌⊎◌, inl, inr, ℕ, ℤ, ◌^◌, ◌<◌, true, false, cond, nat_lt, List, [], ◌∷◌, length, Option, Some, None, Err, refl, ap, sym, ◌∙◌, subst, SFits, arith}
use Rattle.std.specs.List.{AllByRecursion}
use Rattle.std.specs.FinMap as fin
use Rattle.std.specs.Int.{w64, cast_unsigned, cast_signed}
use Rattle.std.specs.Str.{bytes_eq}
use Rattle.std.proofs.lemmas.Int.{to_z-of_z}
use Rattle.std.proofs.lemmas.Option.{none-some, same_Some}
use Rattle.std.proofs.lemmas.Bool.Decides.{nat_tests}
use Rattle.bpf_decode.specs.Class.{ClassMethod, IsMethod, IsClass}
use Rattle.object_store.specs.Object.{PlainObject}
use Rattle.bpf_machine.specs.State as machine
use Rattle.bpf_machine.specs.Safe.{OutcomesAreOne, call_outcome}
use Rattle.verifier.specs.Verified.{method_named}
use Rattle.interp.specs.declared.calls.CallError.{CallError}
use Rattle.interp.specs.declared.calls.CallError.TheVariants as call
use Rattle.interp.specs.declared.outcome.Outcome.{Outcome}
use Rattle.interp.specs.Plain.{Answers, outcome_of_answer}
use Rattle.pg_log.specs.declared.log_error.LogError.{LogError}
use Rattle.pg_log.specs.declared.log_error.LogError.TheVariants.{NoMethod, NoMemory, InputTooLong}
use Rattle.pg_log.specs.Requests.{ClientRequest}
use Rattle.pg_log.specs.Log.{Reply, outcome, outcome_of_method}
use Rattle.pg_log.specs.Refusals.{answer_of, append_answer, refusal_of_method}
use Rattle.class_tool.specs.declared.log.Logged.{Logged}
use Rattle.class_tool.specs.Log.{CallRefused, IsLogged, first_request, refusal_of}
use Rattle.class_tool.specs.RunReport.{IsOneOutcome}

no_method : (m : Option ClassMethod) (r : ClientRequest) → answer_of None (refusal_of_method m r) 0 ≡ Err NoMethod → m ≡ None
no_method None r e = refl
no_method (Some m) r e =
    elim (nat_lt m.in_cap (length r.input)) as (λ b. answer_of None (cond b (Some InputTooLong) None) 0 ≡ Err NoMethod → Some m ≡ None) [ true ↦ λ q. cc | false ↦ λ q. cc ] e

too_long : (m : Option ClassMethod) (r : ClientRequest) → answer_of None (refusal_of_method m r) 0 ≡ Err InputTooLong → (k : ClassMethod) × (m ≡ Some k) × (k.in_cap < length r.input)
too_long None r e = cc
too_long (Some m) r e = (m, refl, grind (arith, nat_tests, e))

-- a refused append is a refused call, with the same name
pub call_refused : (class : List ClassMethod) (method input : List ℕ) (caller : ℕ) (e : LogError) (x : CallError) → refusal_of x ≡ e
    → (append_answer (class ∷ []) [] (first_request caller method input) ≡ Err e) ⊎ (e ≡ NoMemory) → CallRefused class method input x
call_refused class method input caller e call.NoMethod named (inl answer) =
    no_method (method_named class method) (first_request caller method input) (answer ∙ ap (λ x. Err x) (sym named))
call_refused class method input caller e call.NoMethod named (inr lack) = cc
call_refused class method input caller e call.InputTooLong named (inl answer) =
    let long = too_long (method_named class method) (first_request caller method input) (answer ∙ ap (λ x. Err x) (sym named)) in
    record { method = long.0; named = long.1; long = long.2 }
call_refused class method input caller e call.InputTooLong named (inr lack) = cc
call_refused class method input caller e call.NoMemory named o = tt

-- what is true of each method is true of the method of a name
pub method_named-is : (P : ClassMethod → Type 0) (class : List ClassMethod) (name : List ℕ) (m : ClassMethod) → AllByRecursion P class → method_named class name ≡ Some m → P m
method_named-is P [] name m h e = absurd (none-some m e)
method_named-is P (x ∷ class) name m h e =
    elim (bytes_eq x.name name) as (λ b. cond b (Some x) (method_named class name) ≡ Some m → P m) [
      | true ↦ λ q. subst P (same_Some x m q) h.0
      | false ↦ λ q. method_named-is P class name m h.1 q
    ] e

method_outcome : (m : ClassMethod) (o : Option ClassMethod) (object : PlainObject) (r : ClientRequest) → o ≡ Some m → outcome_of_method o object r ≡ call_outcome m object r.client r.input
unfolding outcome_of_method
method_outcome m o object r e = ap (λ w. outcome_of_method w object r) e

same_code : (a b : ℤ) → SFits w64 a → SFits w64 b → cast_unsigned w64 a ≡ cast_unsigned w64 b → a ≡ b
same_code a b ha hb e = sym (to_z-of_z w64 a ha) ∙ ap (cast_signed w64) e ∙ to_z-of_z w64 b hb

-- the entry and the call have the same outcome
pub one_outcome : OutcomesAreOne → (class : List ClassMethod) (name : List ℕ) (caller : ℕ) (input : List ℕ) (o : Outcome) (l : Logged) → IsClass class
    → Answers class name None caller input o → IsLogged class (first_request caller name input) l → SFits w64 l.code → SFits w64 o.code → IsOneOutcome o l
one_outcome outcomes class name caller input o l is a logged hl ho =
    let m = a.method in
    let r = first_request caller name input in
    let within = method_named-is IsMethod class name m is.methods a.named in
    let in_cap = within.in_cap in
    let out_cap = within.out_cap in
    let in16 : m.in_cap < 2 ^ 16 = omega (arith, in_cap) in
    let out16 : m.out_cap < 2 ^ 16 = omega (arith, out_cap) in
    let one : call_outcome m None caller input ≡ outcome_of_answer o = outcomes m in16 out16 None caller input (outcome_of_answer o) o.steps a.answers.bounded a.answers.runs in
    let none : fin.get fin.empty r.object ≡ None = fin.get-empty _ r.object in
    let made : outcome (class ∷ []) fin.empty r ≡ outcome_of_answer o =
    method_outcome m (method_named class name) (fin.get fin.empty r.object) r a.named ∙ ap (λ object. call_outcome m object caller input) none ∙ one in
    let reply = same_Some {A = Reply} _ _ logged in
    let code : cast_unsigned w64 o.code ≡ cast_unsigned w64 l.code = sym (ap (λ (w : machine.Outcome). w.code) made) ∙ ap (λ (w : Reply). w.code) reply in
    let output : o.output.items ≡ l.output.items = sym (ap (λ (w : machine.Outcome). w.output) made) ∙ ap (λ (w : Reply). w.output) reply in
    (sym (same_code o.code l.code ho hl code), sym output)
