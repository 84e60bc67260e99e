-- Lines that were read, and what is left of a file.
use Rattle.std.proofs.Common.{◌≡◌, ◌<◌, ◌≤◌, ℕ, suc, List, [], ◌∷◌, ◌++◌, length, map, Bor, Option, Some, None, refl, sym, ap, subst, ◌∙◌, append_assoc, append-nil, drop, drop-cons, get_or}
use Rattle.std.proofs.Math.ListN.{drop_of_length-le}
use Rattle.std.specs.Prelude.{Result, Ok, Err}
use Rattle.cluster_file.specs.Plan.{before_steps, go_on, steps_of, step_of, clients_after, clients_in}
use Rattle.cluster_file.specs.declared.planned_step.PlannedStep.{PlannedStep}

-- these steps before the steps of the rest
abbrev pub before : List PlannedStep → Result (List PlannedStep) ℕ → Result (List PlannedStep) ℕ
before done (Ok steps) = Ok (done ++ steps)
before done (Err line) = Err line

before_none : (rest : Result (List PlannedStep) ℕ) → rest ≡ before [] rest
before_none (Ok steps) = refl
before_none (Err line) = refl

before_one : (done : List PlannedStep) (step : PlannedStep) (rest : Result (List PlannedStep) ℕ) → before done (before_steps step rest) ≡ before (done ++ step ∷ []) rest
before_one done step (Ok steps) = ap Ok (sym (append_assoc done (step ∷ []) steps))
before_one done step (Err line) = refl

-- the clients after one more step
counted_one : (clients : ℕ) (done : List PlannedStep) (step : PlannedStep) → clients_after (clients_in clients done) step ≡ clients_in clients (done ++ step ∷ [])
counted_one clients [] step = refl
counted_one clients (first ∷ done) step = counted_one (clients_after clients first) done step

-- the steps that were read of the lines so far; the last of these lines had that number
pub record Going (names : List (List ℕ)) (ws : List (Bor (List ℕ))) (at clients number : ℕ) (old new : List PlannedStep) : Type 0 where
  pub done : List PlannedStep
  pub grew : new ≡ old ++ done
  pub counted : clients ≡ clients_in 0 done
  pub rest : steps_of names 1 0 (map (λ w. w.now) ws) ≡ before done (steps_of names number clients (map (λ w. w.now) (drop at ws)))

pub starts : (names : List (List ℕ)) (ws : List (Bor (List ℕ))) (old : List PlannedStep) → Going names ws 0 0 1 old old
starts names ws old = record { done = []; grew = sym (append-nil old); counted = refl; rest = before_none _ }

-- the rest begins with the line
at_line : (names : List (List ℕ)) (ws : List (Bor (List ℕ))) (at clients number : ℕ) (d : Bor (List ℕ)) → at < length ws
    → steps_of names number clients (map (λ (w : Bor (List ℕ)). w.now) (drop at ws))
    ≡ go_on (suc number) (λ step. steps_of names (suc number) (clients_after clients step) (map (λ (w : Bor (List ℕ)). w.now) (drop (suc at) ws))) (step_of names (suc number) clients (get_or ws at d).now)
at_line names ws at clients number d h = ap (λ ls. steps_of names number clients (map (λ (w : Bor (List ℕ)). w.now) ls)) (drop-cons ws at d h)

pub stops : (names : List (List ℕ)) (ws : List (Bor (List ℕ))) (at clients number next : ℕ) (old new : List PlannedStep) (d : Bor (List ℕ)) → at < length ws → next ≡ suc number
    → Going names ws at clients number old new → step_of names next clients (get_or ws at d).now ≡ None → steps_of names 1 0 (map (λ w. w.now) ws) ≡ Err next
stops names ws at clients number next old new d h n going is =
    let rest : PlannedStep → Result (List PlannedStep) ℕ = λ step. steps_of names (suc number) (clients_after clients step) (map (λ (w : Bor (List ℕ)). w.now) (drop (suc at) ws)) in
    let none : step_of names (suc number) clients (get_or ws at d).now ≡ None = subst (λ k. step_of names k clients (get_or ws at d).now ≡ None) n is in
    going.rest
    ∙ ap (before going.done) (at_line names ws at clients number d h ∙ ap (λ o. go_on (suc number) rest o) none)
    ∙ ap Err (sym n)

pub goes_on : (names : List (List ℕ)) (ws : List (Bor (List ℕ))) (at after clients number next : ℕ) (old new : List PlannedStep) (d : Bor (List ℕ)) (step : PlannedStep) → at < length ws → after ≡ suc at → next ≡ suc number
    → Going names ws at clients number old new → step_of names next clients (get_or ws at d).now ≡ Some step → Going names ws after (clients_after clients step) next old (new ++ step ∷ [])
goes_on names ws at after clients number next old new d step h a n going is =
    let rest : PlannedStep → Result (List PlannedStep) ℕ = λ step. steps_of names (suc number) (clients_after clients step) (map (λ (w : Bor (List ℕ)). w.now) (drop (suc at) ws)) in
    let some : step_of names (suc number) clients (get_or ws at d).now ≡ Some step = subst (λ k. step_of names k clients (get_or ws at d).now ≡ Some step) n is in
    let one : Going names ws (suc at) (clients_after clients step) (suc number) old (new ++ step ∷ []) = record {
      done = going.done ++ step ∷ [];
      grew = ap (λ l. l ++ step ∷ []) going.grew ∙ append_assoc old going.done (step ∷ []);
      counted = ap (λ k. clients_after k step) going.counted ∙ counted_one 0 going.done step;
      rest = going.rest
          ∙ ap (before going.done) (at_line names ws at clients number d h ∙ ap (λ o. go_on (suc number) rest o) some)
          ∙ before_one going.done step (rest step);
    } in
    subst (λ k. Going names ws k (clients_after clients step) next old (new ++ step ∷ [])) (sym a)
    (subst (λ k. Going names ws (suc at) (clients_after clients step) k old (new ++ step ∷ [])) (sym n) one)

-- all lines were read
pub all_read : (names : List (List ℕ)) (ws : List (Bor (List ℕ))) (at clients number : ℕ) (old new : List PlannedStep) → length ws ≤ at
    → Going names ws at clients number old new → (steps : List PlannedStep) × (steps_of names 1 0 (map (λ w. w.now) ws) ≡ Ok steps) × (new ≡ old ++ steps) × (clients ≡ clients_in 0 steps)
all_read names ws at clients number old new h going =
    (going.done, going.rest ∙ ap (λ ls. before going.done (steps_of names number clients (map (λ (w : Bor (List ℕ)). w.now) ls))) (drop_of_length-le ws h) ∙ ap Ok (append-nil going.done), going.grew, going.counted)
