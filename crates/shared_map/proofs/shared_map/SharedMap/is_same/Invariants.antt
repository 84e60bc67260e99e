use Rattle.std.proofs.Common.{◌≡◌, ℕ, ◌<◌}
use Rattle.std.specs.FinMap as fin
use Rattle.shared_map.specs.Entries.{nth}
use Rattle.shared_map.proofs.shared_map.SharedMap.is_same.Given as goal

abbrev pub invariant-loop-n : goal.invariant-loop-n
invariant-loop-n g l = record {
  as_long : fin.len l.self ≡ fin.len l.other;
  so_far : (k : ℕ) → k < l.n → nth l.self k ≡ nth l.other k;
}
