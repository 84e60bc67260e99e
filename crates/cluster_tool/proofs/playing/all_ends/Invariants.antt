use Rattle.std.proofs.Common.{◌≡◌, false, map}
use Rattle.std.specs.List.{All}
use Rattle.cluster_tool.proofs.playing.all_ends.Given as goal

-- the ends of the calls of the clients so far
abbrev pub invariant-loop-caller : goal.invariant-loop-caller
invariant-loop-caller g l = record {
  ends : map (λ v. v.items) l.all.items ≡ map (λ c. c.ends) l.yielded;
  whole : All (λ c. c.lost ≡ false) l.yielded;
}
