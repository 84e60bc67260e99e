-- The maps of the steps, one after another.
use Rattle.std.proofs.Common.{◌≡◌, ◌++◌, ◌∷◌, [], ℕ, suc, ◌+◌, ◌<◌, List, take, drop, length, get_or, refl, sym, subst, ◌∙◌, ap, arith}
use Rattle.std.proofs.Math.Seq.{take-length, take-suc}
use Rattle.std.proofs.lemmas.List.{take-append-drop}
use Rattle.osd.specs.declared.config.Config.{Config}
use Rattle.osd.specs.Maps.{WasMade, WasRefused}
use Rattle.map_book.specs.declared.map_error.MapError.{MapError}
use Rattle.cluster_file.specs.declared.planned_step.PlannedStep.{PlannedStep}
use Rattle.cluster_file.specs.declared.planned_step.PlannedStep.TheVariants.{Call, Map}
use Rattle.cluster_file.specs.Planned.{PlannedCall}
use Rattle.cluster_tool.specs.Played.{AreMapsMade, IsMapRefused, IsStepMade}

more : (config : Config) (steps : List PlannedStep) (step : PlannedStep) → AreMapsMade config steps → IsStepMade config step → AreMapsMade config (steps ++ step ∷ [])
more config [] step made one = (one, tt)
more config (s ∷ steps) step made one = (made.0, more config steps step made.1 one)

-- the steps below a place, and the step there
up_to : (steps : List PlannedStep) (k : ℕ) (step : PlannedStep) → k < length steps → step ≡ get_or steps k step → take (k + 1) steps ≡ take k steps ++ step ∷ []
up_to steps k step within is =
    let t : take (suc k) steps ≡ take k steps ++ (get_or steps k step ∷ []) = take-suc steps k step within in
    let u : take (suc k) steps ≡ take k steps ++ (step ∷ []) = subst (λ (x : PlannedStep). take (suc k) steps ≡ take k steps ++ (x ∷ [])) (sym is) t in
    let w : suc k ≡ k + 1 = omega arith in
    subst (λ (i : ℕ). take i steps ≡ take k steps ++ (step ∷ [])) w u

-- one more step
made_next : (config : Config) (steps : List PlannedStep) (k : ℕ) (step : PlannedStep) → k < length steps → step ≡ get_or steps k step → AreMapsMade config (take k steps) → IsStepMade config step → AreMapsMade config (take (k + 1) steps)
made_next config steps k step within is made one =
    subst (λ (l : List PlannedStep). AreMapsMade config l) (sym (up_to steps k step within is)) (more config (take k steps) step made one)

-- one more map, of the up nodes of the step
pub made_map : (config : Config) (steps : List PlannedStep) (k : ℕ) (step : PlannedStep) (line : ℕ) (nodes up : List ℕ) (epoch : ℕ) → k < length steps → step ≡ get_or steps k step → step ≡ Map line nodes → up ≡ nodes →
    AreMapsMade config (take k steps) → WasMade config up epoch → AreMapsMade config (take (k + 1) steps)
made_map config steps k step line nodes up epoch within is there same made one =
    made_next config steps k step within is made
    (subst (λ (s : PlannedStep). IsStepMade config s) (sym there) (record { epoch = epoch; made = subst (λ (l : List ℕ). WasMade config l epoch) same one }))

-- one more call
pub made_call : (config : Config) (steps : List PlannedStep) (k : ℕ) (step : PlannedStep) (call : PlannedCall) → k < length steps → step ≡ get_or steps k step → step ≡ Call call →
    AreMapsMade config (take k steps) → AreMapsMade config (take (k + 1) steps)
made_call config steps k step call within is there made =
    made_next config steps k step within is made (subst (λ (s : PlannedStep). IsStepMade config s) (sym there) tt)

-- all steps are below their end
pub all_made : (config : Config) (steps : List PlannedStep) (k : ℕ) → k ≡ length steps → AreMapsMade config (take k steps) → AreMapsMade config steps
all_made config steps k whole made =
    subst (λ (l : List PlannedStep). AreMapsMade config l) (take-length steps) (subst (λ (i : ℕ). AreMapsMade config (take i steps)) whole made)

append_one : (xs ys : List PlannedStep) (step : PlannedStep) → (xs ++ step ∷ []) ++ ys ≡ xs ++ step ∷ ys
append_one [] ys step = refl
append_one (x ∷ xs) ys step = ap (λ (l : List PlannedStep). x ∷ l) (append_one xs ys step)

-- a map that was refused, and the maps above it, which were made
pub refused_there : (config : Config) (steps : List PlannedStep) (k : ℕ) (step : PlannedStep) (line : ℕ) (nodes up : List ℕ) (why : MapError) → k < length steps → step ≡ get_or steps k step → step ≡ Map line nodes → up ≡ nodes →
    AreMapsMade config (take k steps) → WasRefused config up why → IsMapRefused config steps line why
refused_there config steps k step line nodes up why within is there same made refused =
    let at : Map line nodes ≡ get_or steps k (Map line nodes) = subst (λ (s : PlannedStep). s ≡ get_or steps k s) there is in
    record {
      above = take k steps;
      nodes = nodes;
      below = drop (k + 1) steps;
      there = sym (take-append-drop (k + 1) steps) ∙ (ap (λ (l : List PlannedStep). l ++ drop (k + 1) steps) (up_to steps k (Map line nodes) within at)
          ∙ append_one (take k steps) (drop (k + 1) steps) (Map line nodes));
      made = made;
      refused = subst (λ (l : List ℕ). WasRefused config l why) same refused;
    }
