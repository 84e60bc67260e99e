-- What a run by a budget on all of an object comes to.
use Rattle.std.proofs.Common.{◌≡◌, ◌∙◌, ℕ, ◌≤◌, List, Some, None, Ok, ap, sym, subst, arith}
use Rattle.std.specs.Int.{w64, cast_unsigned}
use Rattle.bpf_decode.specs.Class.{ClassMethod, IsMethod}
use Rattle.bpf_machine.specs.Blind.{StepsAreBlind}
use Rattle.bpf_machine.specs.Safe.{BytesAreInstructions, ElsewhereIsStuck, HasLayout}
use Rattle.bpf_machine.specs.State as machine
use Rattle.helpers.specs.Edits.{EditsLead}
use Rattle.object_store.specs.Limits.{profile, IsAnyObject}
use Rattle.object_store.specs.Object.{PlainObject, IsObject}
use Rattle.interp.specs.declared.outcome.Outcome.{Outcome}
use Rattle.interp.specs.Plain.{outcome_of_answer}
use Rattle.part_calls.specs.Parts.{outcome_of_part}
use Rattle.part_calls.specs.declared.answer.PartAnswer.{PartAnswer}
use Rattle.loop_calls.specs.ByBudget.{AnswersOnByBudget}
use Rattle.loop_machine.specs.Runs.{RunsByBudget}
use Rattle.loop_objects.specs.Calls.{AnswersBudget, AnswersByEdits}
use Rattle.loop_objects.specs.inner.Making.{IsOutcomeOf, Makes}
use Rattle.loop_objects.proofs.Leads.{runs_lead}

-- an object within the limits of all objects is such as a host may have
pub any_object : (o : PlainObject) → IsObject o → IsAnyObject o
any_object None h = tt
any_object (Some c) h = let short = h.length in record { length = omega (arith, short); bytes = h.bytes; xattrs = h.xattrs.each; omap = h.omap.each }

pub is_answered : StepsAreBlind → EditsLead → BytesAreInstructions → ElsewhereIsStuck → HasLayout → (m : ClassMethod) → IsMethod m → (budget : ℕ) (o : PlainObject) (caller : ℕ) (input : List ℕ) (a : PartAnswer) →
    AnswersOnByBudget profile m budget o caller input a → AnswersByEdits m budget o caller input a
is_answered blind law decoded stuck layout m ok budget o caller input a n = record {
  answers = n;
  leads = runs_lead blind law decoded stuck layout m ok budget o caller input (outcome_of_part a n.object) a.steps n.list n.runs;
}

-- its edits make the object after
pub makes : (m : ClassMethod) (budget : ℕ) (o : PlainObject) (caller : ℕ) (input : List ℕ) (a : PartAnswer) → (n : AnswersByEdits m budget o caller input a) → Makes a.edits.items o n.answers.object
makes m budget o caller input a n = record { list = n.answers.list; leads = n.leads; spells = sym n.answers.written }

pub answers_budget : (m : ClassMethod) (budget : ℕ) (o : PlainObject) (caller : ℕ) (input : List ℕ) (a : PartAnswer) (out : Outcome) → AnswersByEdits m budget o caller input a → IsOutcomeOf o a out → AnswersBudget m budget o caller input out
answers_budget m budget o caller input a out n is =
    let after : out.change.after ≡ n.answers.object = is.after n.answers.object (makes m budget o caller input a n) in
    let same : outcome_of_part a n.answers.object ≡ outcome_of_answer out =
    λ i. record { code = cast_unsigned w64 (sym is.code i); output = sym is.output i; object = sym after i } in
    let runs = subst (λ (x : machine.Outcome). RunsByBudget profile m budget o caller input x a.steps n.answers.list) same n.answers.runs in
    record {
      bounded = subst (λ (k : ℕ). k ≤ budget) (sym is.steps) n.answers.bounded;
      list = n.answers.list;
      runs = subst (λ (k : ℕ). RunsByBudget profile m budget o caller input (outcome_of_answer out) k n.answers.list) (sym is.steps) runs;
      leads = n.leads ∙ ap Ok (sym after);
      before = is.before;
      within = is.within;
    }
