use Rattle.std.proofs.Common.{ap, sym, ◌∙◌}
use Rattle.std.specs.FinMap as fin
use Rattle.shared_map.proofs.Maps.{get-map}
use Rattle.shared_map.proofs.shared_map.SharedMap.get.Goals as goal

pub returns : goal.returns
returns g c = c.get.ensures ∙ sym (get-map _ c.args.key.now c.self.invariant) ∙ ap (λ m. fin.get m c.args.key.now) c.self.view_is
