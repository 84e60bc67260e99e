-- The result of reading a file.
use Rattle.std.specs.Prelude.{◌≡◌, ◌++◌, ℕ, List, Result, Ok, Err}
use Rattle.cluster_file.specs.Plan.{FilePlan, steps_of, clients_in}
use Rattle.cluster_file.specs.declared.planned_step.PlannedStep.{PlannedStep}
use Rattle.cluster_file.specs.declared.plan.Ended.{Ended}
use Rattle.cluster_file.specs.declared.plan.Ended.TheVariants.{All, Bad as AtBad}
use Rattle.cluster_file.specs.declared.plan.Reading.{Reading}
use Rattle.cluster_file.specs.declared.plan.Reading.TheVariants.{Plan as APlan, Bad as ABad}

-- the result is that plan, or that line
abbrev pub IsReading : Result FilePlan ℕ → Reading → Type 0
IsReading (Ok plan) (APlan p) = p ≡ plan
IsReading (Err line) (ABad n) = n ≡ line
IsReading (Ok plan) (ABad n) = ⊥
IsReading (Err line) (APlan p) = ⊥

-- the steps of the lines were added, and they name this number of clients; or a line is malformed
abbrev pub StepsRead : List (List ℕ) → List (List ℕ) → List PlannedStep → List PlannedStep → Ended → Type 0
StepsRead names lines old new (AtBad line) = steps_of names 1 0 lines ≡ Err line
StepsRead names lines old new (All clients) = (steps : List PlannedStep) × (steps_of names 1 0 lines ≡ Ok steps) ×
    (new ≡ old ++ steps) × (clients ≡ clients_in 0 steps)
