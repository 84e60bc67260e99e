use Rattle.std.proofs.Common.{refl, arith}
use Rattle.shared_map.proofs.Maps.{same-places-map}
use Rattle.shared_map.proofs.shared_map.SharedMap.is_same.Goals as goal

pub returns : goal.returns
returns g c = (
  λ _. same-places-map _ _ c.loop-n.invariant.as_long (λ k h. c.loop-n.invariant.so_far k (omega (arith, h, c.loop-n-test.false, c.len-n-end.ensures))),
  λ _. refl,
)
