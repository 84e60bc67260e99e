-- The ends that a plan may have.
use Rattle.std.specs.Prelude.{◌≡◌, ◌++◌, ⊤, ℕ, List, [], ◌∷◌, Result, length, map}
use Rattle.pg_log.specs.Log.{Classes}
use Rattle.cluster_file.specs.Plan.{clients_in}
use Rattle.cluster_file.specs.declared.planned_step.PlannedStep.{PlannedStep}
use Rattle.cluster_file.specs.declared.planned_step.PlannedStep.TheVariants.{Call, Map}
use Rattle.map_book.specs.declared.map_error.MapError.{MapError}
use Rattle.osd.specs.Maps.{WasMade, WasRefused}
use Rattle.osd.specs.declared.config.Config.{Config}
use Rattle.rados_client.specs.Session.{PlacedReply}
use Rattle.rados_client.specs.declared.exec_error.ExecError.{ExecError}
use Rattle.cluster_tool.specs.Answers.{AreAllEnds}
use Rattle.cluster_tool.specs.declared.played.Played.{Played}
use Rattle.cluster_tool.specs.declared.played.Played.TheVariants.{Done, MapRefused, NoMemory}

-- the maps of a cluster with these numbers made a map of these up nodes
pub record IsMapMade (config : Config) (nodes : List ℕ) : Type 0 where
  pub epoch : ℕ
  pub made : WasMade config nodes epoch

-- the step is a call, or its map was made
abbrev pub IsStepMade : Config → PlannedStep → Type 0
IsStepMade config (Call call) = ⊤
IsStepMade config (Map line nodes) = IsMapMade config nodes

-- THE MAPS OF THESE STEPS: each was made.
abbrev pub AreMapsMade : Config → List PlannedStep → Type 0
AreMapsMade config [] = ⊤
AreMapsMade config (step ∷ steps) = IsStepMade config step × AreMapsMade config steps

-- The maps of a cluster with these numbers refused the map of that line of the file. It is the
-- first one refused: each map above it was made.
pub record IsMapRefused (config : Config) (steps : List PlannedStep) (line : ℕ) (why : MapError) : Type 0 where
  pub above : List PlannedStep
  pub nodes : List ℕ
  pub below : List PlannedStep
  pub there : steps ≡ above ++ Map line nodes ∷ below
  pub made : AreMapsMade config above
  pub refused : WasRefused config nodes why

-- each client's calls have their true ends, and each map was made
pub record AreDone (classes : Classes) (config : Config) (steps : List PlannedStep)
    (all : List (List (Result PlacedReply ExecError))) : Type 0 where
  pub clients : length all ≡ clients_in 0 steps
  pub ends : AreAllEnds classes steps all
  pub maps : AreMapsMade config steps

-- THE END OF A PLAN on a cluster with these numbers and classes: each call of each client has its
-- true end, and each map was made; or a map of the plan was refused, the first such map; or memory
-- was refused, or a thread for the workers.
abbrev pub Plays : Classes → Config → List PlannedStep → Played → Type 0
Plays classes config steps (Done all) = AreDone classes config steps (map (λ v. v.items) all.items)
Plays classes config steps (MapRefused line why) = IsMapRefused config steps line why
Plays classes config steps NoMemory = ⊤
