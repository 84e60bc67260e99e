use Rattle.std.proofs.Common.{ap, sym, ◌∙◌}
use Rattle.shared_map.specs.Entries.{key_above}
use Rattle.shared_map.proofs.Maps.{above-map}
use Rattle.shared_map.proofs.shared_map.SharedMap.key_above.Goals as goal

pub returns : goal.returns
returns g c = c.above.ensures ∙ sym (above-map _ c.args.key.now c.self.invariant) ∙ ap (λ m. key_above m c.args.key.now) c.self.view_is
