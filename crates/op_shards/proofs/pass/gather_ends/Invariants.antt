use Rattle.std.proofs.Common.{◌≡◌, map}
use Rattle.op_shards.specs.Passes.{join_ends}
use Rattle.op_shards.proofs.Gathered.{join_from}
use Rattle.op_shards.proofs.pass.gather_ends.Given as goal

abbrev pub invariant-loop-i : goal.invariant-loop-i
invariant-loop-i g l = record {
  ends : map (λ l. l.spot) l.ends.items ≡ map (λ l. l.spot) l.initial.ends.items;
  others : map (λ l. l.spot) l.others.items ≡ map (λ l. l.spot) l.initial.ends.items;
  rest : join_from l.i l.ends.items l.others.items ≡ join_ends l.initial.ends.items l.initial.others.items;
}
