use Rattle.std.proofs.Common.{◌≡◌, []}
use Rattle.std.specs.Prelude.{All}
use Rattle.loop_finder.specs.Found.{IsBackTarget}
use Rattle.loop_finder.proofs.Jumps.{Has}
use Rattle.loop_finder.proofs.targets.back_targets.Given as goal

abbrev pub invariant-loop : goal.invariant-loop
invariant-loop l = record {
  targets : All (IsBackTarget l.code) l.targets.items;
  none : l.targets.items ≡ [] → l.least ≡ 0;
  each : Has l.code l.least l.targets.items;
}
