-- A run after some of its steps.
use Rattle.std.proofs.Common.{◌≡◌, ℕ, suc, ◌+◌, ◌-◌, ◌<◌, List, Some, None, refl, ap, ◌∙◌, sym, arith}
use Rattle.bpf_machine.specs.declared.caps.Caps.{Caps}
use Rattle.object_store.specs.Object.{PlainObject}
use Rattle.bpf_machine.specs.State.{State, outcome_of, Ending, Ended, Stuck, Unfinished, one_more, goes_on, ends}
use Rattle.bpf_machine.specs.Flat.{Layout, step, exit_code, run}

-- an ending with that many steps more
abbrev pub steps_more : ℕ → Ending → Ending
steps_more n (Ended o k) = Ended o (n + k)
steps_more n Stuck = Stuck
steps_more n Unfinished = Unfinished

one_further : (n : ℕ) (e : Ending) → steps_more n (one_more e) ≡ steps_more (n + 1) e
one_further n (Ended o k) = ap (Ended o) (omega arith)
one_further n Stuck = refl
one_further n Unfinished = refl

module _ (caps : Caps) (lay : Layout) (code : List ℕ) (before : PlainObject) where
  -- a run of at least one step, opened
  opened : (limit n : ℕ) (s : State ℕ) → n < limit → run caps lay code before (limit - n) s ≡ ends before s (exit_code code s) (goes_on (step caps lay code s) (run caps lay code before (limit - (n + 1))))
  opened limit n s h =
      let e : limit - n ≡ suc (limit - (n + 1)) = omega arith in
      ap (λ k. run caps lay code before k s) e

  module _ (limit n : ℕ) (s : State ℕ) (whole : Ending) (h : n < limit) (rest : whole ≡ steps_more n (run caps lay code before (limit - n) s)) where
    pub goes_further : (t : State ℕ) → None ≡ exit_code code s → step caps lay code s ≡ Some t → whole ≡ steps_more (n + 1) (run caps lay code before (limit - (n + 1)) t)
    goes_further t going st =
        rest
        ∙ ap (steps_more n) (opened limit n s h)
        ∙ ap (λ x. steps_more n (ends before s x (goes_on (step caps lay code s) (run caps lay code before (limit - (n + 1)))))) (sym going)
        ∙ ap (λ x. steps_more n (goes_on x (run caps lay code before (limit - (n + 1))))) st
        ∙ one_further n (run caps lay code before (limit - (n + 1)) t)

    pub gets_stuck : None ≡ exit_code code s → step caps lay code s ≡ None → whole ≡ Stuck
    gets_stuck going st =
        rest
        ∙ ap (steps_more n) (opened limit n s h)
        ∙ ap (λ x. steps_more n (ends before s x (goes_on (step caps lay code s) (run caps lay code before (limit - (n + 1)))))) (sym going)
        ∙ ap (λ x. steps_more n (goes_on x (run caps lay code before (limit - (n + 1))))) st

    pub exits_at : (v : ℕ) → Some v ≡ exit_code code s → whole ≡ Ended (outcome_of before v s) (n + 1)
    exits_at v is =
        rest
        ∙ ap (steps_more n) (opened limit n s h)
        ∙ ap (λ x. steps_more n (ends before s x (goes_on (step caps lay code s) (run caps lay code before (limit - (n + 1)))))) (sym is)
