use Rattle.std.proofs.Common.{◌≤◌, take}
use Rattle.cluster_tool.specs.Callers.{AllCalled}
use Rattle.cluster_tool.specs.Played.{AreMapsMade}
use Rattle.cluster_tool.proofs.playing.play_steps.Given as goal

-- all clients made their calls of the steps below a map, and the maps above the next step were made
abbrev pub invariant-loop-at : goal.invariant-loop-at
invariant-loop-at g l = record {
  within : l.from ≤ l.at;
  called : AllCalled g.N.Classes.classes (take l.from l.steps) l.initial.callers.items l.callers.items;
  made : AreMapsMade g.N.ClusterName.config (take l.at l.steps);
}
