-- The methods of a class, and how each runs.
use Rattle.std.proofs.Common.{◌≡◌, ◌∙◌, ℕ, List, [], ◌∷◌, Option, Some, None, true, false, map, ap, sym, subst}
use Rattle.std.specs.Prelude.{if◌then◌else◌}
use Rattle.std.specs.List.{AllByRecursion}
use Rattle.std.specs.Str.{bytes_eq}
use Rattle.std.proofs.lemmas.Option.{none-some, same_Some}
use Rattle.bpf_decode.specs.Class.{ClassMethod, IsMethod}
use Rattle.bpf_decode.specs.Instruction.{slots}
use Rattle.bpf_decode.specs.declared.insn.Insn.{Insn}
use Rattle.bpf_ops.specs.Op.{opened, PairsHold}
use Rattle.object_store.specs.Object.{PlainObject}
use Rattle.verifier.specs.Verified.{method_named}
use Rattle.interp.specs.declared.outcome.Outcome.{Outcome}
use Rattle.interp.specs.Plain.{AnswersMethod}
use Rattle.loop_heads.specs.Loops.{PlainLoops}
use Rattle.loop_machine.specs.Runs.{IsSafeByBudget}
use Rattle.loop_calls.specs.ByBudget.{IsBudgeted}
use Rattle.loop_calls.specs.declared.method.BudgetedMethod.{BudgetedMethod}
use Rattle.loop_verdict.specs.Verified.{PlainLoopMethod}
use Rattle.loop_classes.specs.Runs.{RunsBy}
use Rattle.loop_objects.specs.Calls.{AnswersBudget, AnswersLooped, WithoutLoopsAnswersIsOne, answers_by}

-- what holds of all methods holds of the one of a name
pub named_has : (P : ClassMethod → Type 0) (ms : List ClassMethod) (name : List ℕ) (m : ClassMethod) → AllByRecursion P ms → Some m ≡ method_named ms name → P m
named_has P [] name m h e = absurd (none-some m (sym e))
named_has P (x ∷ ms) name m h e =
    elim (bytes_eq x.name name) as (λ b. Some m ≡ (if b then Some x else method_named ms name) → P m) [
      | true ↦ λ e. subst P (sym (same_Some m x e)) h.0
      | false ↦ λ e. named_has P ms name m h.1 e
    ] e

-- a method without loops answers as ever
pub plain_answers : (m n : ClassMethod) (o : PlainObject) (caller : ℕ) (input : List ℕ) (a : Outcome) → m ≡ n → m.loops ≡ None → AnswersMethod m o caller input a → AnswersLooped n o caller input a
plain_answers m n o caller input a same none h =
    subst (λ (x : ClassMethod). AnswersLooped x o caller input a) same
    (subst (λ (l : Option PlainLoops). answers_by l m o caller input a) (sym none) h)

-- and so does a call of it
pub without : WithoutLoopsAnswersIsOne
without class none name o caller input a = (
  λ h. record {
    method = h.method;
    named = h.named;
    short = h.short;
    answers = subst (λ (l : Option PlainLoops). answers_by l h.method o caller input a) (named_has (λ m. m.loops ≡ None) class name h.method none (sym h.named)) h.answers;
  },
  λ h. record {
    method = h.method;
    named = h.named;
    short = h.short;
    answers = subst (λ (l : Option PlainLoops). answers_by l h.method o caller input a) (sym (named_has (λ m. m.loops ≡ None) class name h.method none (sym h.named))) h.answers;
  },
)

-- one with loops answers by its budget
module _ (m : ClassMethod) (run : PlainLoopMethod) where
  looped_by : (loops : Option PlainLoops) → RunsBy m run loops → (o : PlainObject) (caller : ℕ) (input : List ℕ) (a : Outcome) → AnswersBudget m run.budget o caller input a → answers_by loops m o caller input a
  looped_by None h o caller input a k = absurd h
  looped_by (Some l) h o caller input a k = subst (λ (r : PlainLoopMethod). AnswersBudget m r.budget o caller input a) h.0 k

  pub looped_answers : (n : ClassMethod) → m ≡ n → RunsBy m run m.loops → (o : PlainObject) (caller : ℕ) (input : List ℕ) (a : Outcome) → AnswersBudget m run.budget o caller input a → AnswersLooped n o caller input a
  looped_answers n same h o caller input a k = subst (λ (x : ClassMethod). AnswersLooped x o caller input a) same (looped_by m.loops h o caller input a k)

  -- what is run is the method by its budget
  pub budgeted : (loops : Option PlainLoops) → RunsBy m run loops → IsMethod m → (given : BudgetedMethod) → given.caps ≡ run.caps → given.budget ≡ run.budget → map opened given.ops.now ≡ run.code → PairsHold run.code given.ops.now → IsBudgeted m given
  budgeted None h ok given caps budget ops pairs = absurd h
  budgeted (Some l) h ok given caps budget ops pairs =
      let code : run.code ≡ slots m.instructions = ap (λ (r : PlainLoopMethod). r.code) h.0 in
      record {
        method = ok;
        safe = subst (λ (b : ℕ). IsSafeByBudget m b) (sym (budget ∙ ap (λ (r : PlainLoopMethod). r.budget) h.0)) h.1;
        caps = caps ∙ ap (λ (r : PlainLoopMethod). r.caps) h.0;
        ops = ops ∙ code;
        pairs = subst (λ (s : List (Option Insn)). PairsHold s given.ops.now) code pairs;
      }

  -- and the budget is the declared one
  pub budget_of : (loops : Option PlainLoops) → RunsBy m run loops → (budget : ℕ) → budget ≡ run.budget → (l : PlainLoops) → loops ≡ Some l → budget ≡ l.budget
  budget_of None h budget is l some = absurd h
  budget_of (Some k) h budget is l some = is ∙ ap (λ (r : PlainLoopMethod). r.budget) h.0 ∙ ap (λ (x : PlainLoops). x.budget) (same_Some k l some)
