-- A run after some of its steps, and what is seen of those.
use Rattle.std.proofs.Common.{◌≡◌, ℕ, suc, ◌+◌, ◌-◌, ◌<◌, List, [], ◌∷◌, ◌++◌, length, Some, None, refl, ap, subst, ◌∙◌, sym, arith, append_assoc, length-append}
use Rattle.bpf_machine.specs.declared.caps.Caps.{Caps}
use Rattle.object_store.specs.Object.{PlainObject}
use Rattle.bpf_machine.specs.State.{State, outcome_of, Ending, Ended, Stuck, Unfinished, one_more, goes_on, ends}
use Rattle.bpf_machine.specs.Flat.{Layout, step, exit_code, run}
use Rattle.class_trace.specs.Trace.{AreRecords, IsTrace, Seen, seen}

-- an ending with that many steps more
abbrev pub steps_more : ℕ → Ending → Ending
steps_more n (Ended o k) = Ended o (n + k)
steps_more n Stuck = Stuck
steps_more n Unfinished = Unfinished

one_further : (n : ℕ) (e : Ending) → steps_more n (one_more e) ≡ steps_more (n + 1) e
one_further n (Ended o k) = ap (Ended o) (omega arith)
one_further n Stuck = refl
one_further n Unfinished = refl

-- one record more
pub counted_on : (n : ℕ) (old new : List Seen) (r : Seen) → length old ≡ n → new ≡ old ++ (r ∷ []) → length new ≡ n + 1
counted_on n old new r counted e = omega (arith, ap (λ (x : List Seen). length x) e, length-append old (r ∷ []))

module _ (caps : Caps) (lay : Layout) (code : List ℕ) where
  -- a step that is seen before the others
  pub trace_on : (s t : State ℕ) (rs : List Seen) → step caps lay code s ≡ Some t → IsTrace caps lay code t rs → IsTrace caps lay code s (seen s t ∷ rs)
  trace_on s t [] st h = absurd h
  trace_on s t (r ∷ rs) st h = (t, st, refl, h)

  module _ (before : PlainObject) where
    -- a run of at least one step, opened
    opened : (limit n : ℕ) (s : State ℕ) → n < limit → run caps lay code before (limit - n) s ≡ ends before s (exit_code code s) (goes_on (step caps lay code s) (run caps lay code before (limit - (n + 1))))
    opened limit n s h =
        let e : limit - n ≡ suc (limit - (n + 1)) = omega arith in
        ap (λ k. run caps lay code before k s) e

    module _ (limit n : ℕ) (s : State ℕ) (whole : Ending) (h : n < limit) (rest : whole ≡ steps_more n (run caps lay code before (limit - n) s)) where
      pub goes_further : (t : State ℕ) → None ≡ exit_code code s → step caps lay code s ≡ Some t → whole ≡ steps_more (n + 1) (run caps lay code before (limit - (n + 1)) t)
      goes_further t going st =
          rest
          ∙ ap (steps_more n) (opened limit n s h)
          ∙ ap (λ x. steps_more n (ends before s x (goes_on (step caps lay code s) (run caps lay code before (limit - (n + 1)))))) (sym going)
          ∙ ap (λ x. steps_more n (goes_on x (run caps lay code before (limit - (n + 1))))) st
          ∙ one_further n (run caps lay code before (limit - (n + 1)) t)

      pub gets_stuck : None ≡ exit_code code s → step caps lay code s ≡ None → whole ≡ Stuck
      gets_stuck going st =
          rest
          ∙ ap (steps_more n) (opened limit n s h)
          ∙ ap (λ x. steps_more n (ends before s x (goes_on (step caps lay code s) (run caps lay code before (limit - (n + 1)))))) (sym going)
          ∙ ap (λ x. steps_more n (goes_on x (run caps lay code before (limit - (n + 1))))) st

      pub exits_at : (v : ℕ) → Some v ≡ exit_code code s → whole ≡ Ended (outcome_of before v s) (n + 1)
      exits_at v is =
          rest
          ∙ ap (steps_more n) (opened limit n s h)
          ∙ ap (λ x. steps_more n (ends before s x (goes_on (step caps lay code s) (run caps lay code before (limit - (n + 1)))))) (sym is)

  -- what was seen before a state, and what is seen from there on, is what is seen from the first one on
  abbrev pub LeadsOn : State ℕ → List Seen → State ℕ → Type 0
  LeadsOn first old s = (rs : List Seen) → IsTrace caps lay code s rs → IsTrace caps lay code first (old ++ rs)

  -- a step more
  pub leads_further : (first s t : State ℕ) (old new : List Seen) → LeadsOn first old s → step caps lay code s ≡ Some t → new ≡ old ++ (seen s t ∷ []) → LeadsOn first new t
  leads_further first s t old new front st e =
      λ rs h. subst (λ (x : List Seen). IsTrace caps lay code first (x ++ rs)) (sym e)
      (subst (IsTrace caps lay code first) (sym (append_assoc old (seen s t ∷ []) rs)) (front (seen s t ∷ rs) (trace_on s t rs st h)))

  -- at an exit all was seen
  pub all_seen : (limit n : ℕ) (first s t : State ℕ) (old new : List Seen) (v : ℕ) → n < limit → length old ≡ n
      → run caps lay code first.object limit first ≡ steps_more n (run caps lay code first.object (limit - n) s)
      → LeadsOn first old s → Some v ≡ exit_code code s → t ≡ s → new ≡ old ++ (seen s t ∷ []) → AreRecords caps lay code limit first new
  all_seen limit n first s t old new v h counted rest front is same e =
      let whole = run caps lay code first.object limit first in
      let count : n + 1 ≡ length new = sym (counted_on n old new (seen s t) counted e) in
      record {
        trace = subst (IsTrace caps lay code first) (sym e) (front (seen s t ∷ []) (v, sym is, ap (seen s) same));
        outcome = outcome_of first.object v s;
        ends = exits_at first.object limit n s whole h rest v is ∙ ap (Ended (outcome_of first.object v s)) count;
      }
