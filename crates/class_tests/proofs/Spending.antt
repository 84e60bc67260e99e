-- The outcome that `loop_outcome` names is that of the run.
use Rattle.std.proofs.Common.{◌≡◌, ℕ, zero, suc, ◌+◌, ◌-◌, ◌<◌, ◌≤◌, ◌⊎◌, inl, inr, List, Option, Some, None, Bool, true, false, refl, ap, ◌∙◌, sym, arith}
use Rattle.std.specs.Prelude.{◌==◌, ◌&&◌, if◌then◌else◌}
use Rattle.std.proofs.lemmas.Bool.{and_parts, eqb-true, le-ltb, lt-ltb}
use Rattle.std.proofs.lemmas.Option.{none-some}
use Rattle.bpf_decode.specs.Fields.{Fields, fields_of}
use Rattle.object_store.specs.Object.{PlainObject}
use Rattle.txn.specs.Edits.{Edit}
use Rattle.bpf_machine.specs.declared.caps.Caps.{Caps}
use Rattle.bpf_machine.specs.State as machine
use Rattle.bpf_machine.specs.State.{◌>>=◌, only, State, reg, Outcome, outcome_of, Ending, Ended, Unfinished}
use Rattle.bpf_machine.specs.Flat.{Layout, at_slot, exit_code, run, step}
use Rattle.bpf_machine.specs.Safe.{HasLayout, OutcomesAreOne, UnfinishedRunsAreChains, caps_of, first_layout}
use Rattle.interp.specs.Plain.{outcome_of_answer}
use Rattle.loop_heads.specs.Loops.{PlainLoops}
use Rattle.loop_machine.specs.Runs.{EndsWithinBudget, Exits, IsSpent, Spends, spent_outcome, weight_at, weight_by}
use Rattle.loop_objects.specs.Calls.{answers_by}
use Rattle.class_tests.specs.Calls.{LoopOutcomesAreOne, ends_or, goes_on, outcome_by, spending}

-- an exit weighs 1
exit_weighs : (code : List ℕ) (s : State ℕ) (v : ℕ) → exit_code code s ≡ Some v → weight_at code s.slot ≡ 1
exit_weighs code s v h = by_fields (fields_of (at_slot code s.slot)) h
  where
    by_fields : (o : Option Fields) → (o >>= λ f. only ((f.opcode == 0x95) && (f.dst == 0) && (f.src == 0) && (f.offset == 0) && (f.imm == 0)) (reg s 0)) ≡ Some v → weight_by o ≡ 1
    by_fields None h = refl
    by_fields (Some f) h = ap (λ o. weight_by (Some (record f { opcode = o }))) (is_exit _ refl h)
      where
        is_exit : (b : Bool) → ((f.opcode == 0x95) && (f.dst == 0) && (f.src == 0) && (f.offset == 0) && (f.imm == 0)) ≡ b → only b (reg s 0) ≡ Some v → f.opcode ≡ 0x95
        is_exit true e h =
            let four = and_parts _ _ e in
            let three = and_parts _ _ four.0 in
            let two = and_parts _ _ three.0 in
            let one = and_parts _ _ two.0 in
            eqb-true _ _ one.0
        is_exit false e h = absurd (none-some v h)

-- nothing weighs less than 1
weighs : (code : List ℕ) (p : ℕ) → 1 ≤ weight_at code p
weighs code p = by (fields_of (at_slot code p))
  where
    either : (b : Bool) → 1 ≤ (if b then 64 else 1)
    either true = omega arith
    either false = omega arith

    by : (o : Option Fields) → 1 ≤ weight_by o
    by None = omega arith
    by (Some f) = either ((f.opcode == 0x85) && (f.src == 0))

module _ (chains : UnfinishedRunsAreChains) (caps : Caps) (lay : Layout) (code : List ℕ) (before : PlainObject) where
  -- a state that steps on is at no exit
  no_exit : (s c : State ℕ) → step caps lay code s ≡ Some c → exit_code code s ≡ None
  no_exit s c e = by (exit_code code s) refl
    where
      ended : (v : ℕ) → Ended (outcome_of before v s) 1 ≡ Unfinished → ⊥
      ended v h = cc

      by : (o : Option ℕ) → exit_code code s ≡ o → o ≡ None
      by None is = refl
      by (Some v) is =
          let unfinished : run caps lay code before 1 s ≡ Unfinished = (chains caps lay code before 1 s).1 (c, (c, e, refl)) in
          let over : run caps lay code before 1 s ≡ Ended (outcome_of before v s) 1 = ap (λ x. machine.ends before s x (machine.goes_on (step caps lay code s) (run caps lay code before 0))) is in
          absurd (ended v (sym over ∙ unfinished))

  -- one step of it
  steps_on : (n left : ℕ) (s c : State ℕ) → weight_at code s.slot ≤ left → step caps lay code s ≡ Some c
      → spending caps lay code before (suc n) left s ≡ spending caps lay code before n (left - weight_at code s.slot) c
  steps_on n left s c paid e =
      let more : State ℕ → Outcome = spending caps lay code before n (left - weight_at code s.slot) in
      ap (λ b. if b then spent_outcome before else ends_or before s (exit_code code s) (goes_on before (step caps lay code s) more)) (le-ltb left (weight_at code s.slot) paid)
      ∙ ap (λ x. ends_or before s x (goes_on before (step caps lay code s) more)) (no_exit s c e)
      ∙ ap (λ o. goes_on before o more) e

  -- and many
  walks : (n k left taken : ℕ) (s last : State ℕ) → Spends caps lay code n taken s last → taken ≤ left
      → spending caps lay code before (n + k) left s ≡ spending caps lay code before k (left - taken) last
  walks zero k left taken s last h within =
      let none = h.0 in
      let rest : left ≡ left - taken = omega (arith, none) in
      let same : 0 + k ≡ k = omega arith in
      ap (λ n. spending caps lay code before n left s) same ∙ ap (λ l. spending caps lay code before k l s) rest ∙ ap (λ t. spending caps lay code before k (left - taken) t) h.1
  walks (suc n) k left taken s last h within =
      let sum = h.3 in
      let paid : weight_at code s.slot ≤ left = omega (arith, sum, within) in
      let later : h.1 ≤ left - weight_at code s.slot = omega (arith, sum, within) in
      let rest : left - weight_at code s.slot - h.1 ≡ left - taken = omega (arith, sum, within) in
      let same : suc n + k ≡ suc (n + k) = omega arith in
      ap (λ n. spending caps lay code before n left s) same
      ∙ steps_on (n + k) left s h.0 paid h.2
      ∙ walks n k (left - weight_at code s.slot) h.1 h.0 last h.4 later
      ∙ ap (λ l. spending caps lay code before k l last) rest

  -- no run makes more steps than it takes of the budget
  counts : (n taken : ℕ) (s last : State ℕ) → Spends caps lay code n taken s last → n ≤ taken
  counts zero taken s last h = omega arith
  counts (suc n) taken s last h =
      let sum = h.3 in
      let one = weighs code s.slot in
      let more = counts n h.1 h.0 last h.4 in
      omega (arith, sum, one, more)

  module _ (budget : ℕ) where
    -- where it ends
    at_end : (n count taken : ℕ) (last : State ℕ) (outcome : Outcome) (steps : ℕ) (list : List Edit) → taken ≤ budget
        → Exits caps lay code budget before count taken last outcome steps list ⊎ IsSpent caps lay code budget before taken last outcome steps list
        → spending caps lay code before (suc n) (budget - taken) last ≡ outcome
    at_end n count taken last outcome steps list within (inl e) =
        let left = budget - taken in
        let one = exit_weighs code last e.value e.exit in
        let paid = e.paid in
        let enough : weight_at code last.slot ≤ left = omega (arith, one, paid) in
        let more : Outcome = goes_on before (step caps lay code last) (spending caps lay code before n (left - weight_at code last.slot)) in
        ap (λ b. if b then spent_outcome before else ends_or before last (exit_code code last) more) (le-ltb left (weight_at code last.slot) enough)
        ∙ ap (λ x. ends_or before last x more) e.exit ∙ sym e.outcome_is
    at_end n count taken last outcome steps list within (inr e) =
        let left = budget - taken in
        let short = e.short in
        let less : left < weight_at code last.slot = omega (arith, short, within) in
        let more : Outcome = goes_on before (step caps lay code last) (spending caps lay code before n (left - weight_at code last.slot)) in
        ap (λ b. if b then spent_outcome before else ends_or before last (exit_code code last) more) (lt-ltb left (weight_at code last.slot) less)
        ∙ sym e.outcome_is

    ended : (s : State ℕ) (outcome : Outcome) (steps : ℕ) (list : List Edit) → EndsWithinBudget caps lay code budget before s outcome steps list
        → spending caps lay code before (suc budget) budget s ≡ outcome
    ended s outcome steps list h =
        let few = counts h.count h.taken s h.last h.chain in
        let within = h.within in
        let fuel : suc budget ≡ h.count + suc (budget - h.count) = omega (arith, few, within) in
        ap (λ n. spending caps lay code before n budget s) fuel
        ∙ walks h.count (suc (budget - h.count)) budget h.taken s h.last h.chain within
        ∙ at_end (budget - h.count) h.count h.taken h.last outcome steps list within h.ends

pub loop_outcomes_are_one : OutcomesAreOne → HasLayout → UnfinishedRunsAreChains → LoopOutcomesAreOne
loop_outcomes_are_one one layout chains m in_fits out_fits object caller input answer h = by m.loops h
  where
    by : (l : Option PlainLoops) → answers_by l m object caller input answer → outcome_by l m object caller input ≡ outcome_of_answer answer
    by None h = one m in_fits out_fits object caller input (outcome_of_answer answer) answer.steps h.bounded h.runs
    by (Some l) h =
        ended chains (caps_of m) (first_layout (caps_of m)) _ object l.budget _ (outcome_of_answer answer) answer.steps h.list
        (h.runs (first_layout (caps_of m)) (layout (caps_of m) in_fits out_fits))
